-- What is looked for at an edge, by its operation.
use Rattle.std.specs.Prelude.{ℕ, Bool, true, false}
use Rattle.tm_cint.specs.declared.operators.BinOp.{BinOp}
use Rattle.tm_cint.specs.declared.operators.BinOp.TheVariants as Ops
use Rattle.tm_terms.specs.declared.places.Place.{Place}
use Rattle.tm_typed.specs.declared.types.Scalar.{Scalar}
use Rattle.flow_graph.specs.declared.operations.Operation.{Operation}
use Rattle.flow_graph.specs.declared.operations.Operation.TheVariants as Op
use Rattle.flow_graph.specs.declared.operations.Into.{Into}
use Rattle.flow_graph.specs.declared.operations.Into.TheVariants as Intos
use Rattle.flow_graph.specs.declared.operations.Test.{Test}
use Rattle.flow_graph.specs.declared.operations.Test.TheVariants as Tests
use Rattle.open_choices.specs.declared.looks.Look.{Look}
use Rattle.open_choices.specs.declared.looks.Look.TheVariants as Looks

-- at a store, by where its address comes from
abbrev pub store_of : Into → ℕ → Scalar → Place → Look
store_of Intos.Pointed address scalar place = Looks.Store address scalar place
store_of (Intos.Object object) address scalar place = Looks.Nothing

-- at a binary operator
abbrev pub bin_of : BinOp → ℕ → Place → Look
bin_of Ops.Shr left place = Looks.Shift left place
bin_of operator left place = Looks.Nothing

-- at a test
abbrev pub test_of : Test → Look
test_of (Tests.Pointers equal left right) = Looks.Comparison left right
test_of test = Looks.Nothing

-- where an operation stands
abbrev pub look_of : Operation → Look
look_of (Op.Load to address scalar place) = Looks.Load address scalar place
look_of (Op.LoadAny to address scalar place) = Looks.Load address scalar place
look_of (Op.Store address value scalar into place) = store_of into address scalar place
look_of (Op.Convert to was of from) = Looks.Conversion of from
look_of (Op.Bin to operator of left right place) = bin_of operator left place
look_of (Op.Move to from cells minus by place) = Looks.Move from cells minus by place
look_of (Op.Deref to from target path place) = Looks.Use from place
look_of (Op.Usable pointer place) = Looks.Use pointer place
look_of (Op.BinPointers to equal left right) = Looks.Comparison left right
look_of (Op.Assume test) = test_of test
look_of operation = Looks.Nothing

abbrev pub is_nothing : Look → Bool
is_nothing Looks.Nothing = true
is_nothing look = false
