-- Which operations are compared together.
use Rattle.std.specs.Prelude.{Bool, true, false}
use Rattle.flow_graph.specs.declared.operations.Operation.{Operation}
use Rattle.flow_graph.specs.declared.operations.Operation.TheVariants as Op

-- the operation calculates a value of others
abbrev pub is_calculation : Operation → Bool
is_calculation (Op.Const to value) = true
is_calculation (Op.Copy to from) = true
is_calculation (Op.Un to operator of from place) = true
is_calculation (Op.Bin to operator of left right place) = true
is_calculation (Op.BinPointers to equal left right) = true
is_calculation (Op.Convert to was of from) = true
is_calculation _ = false

-- the operation gives an address, or a pointer that is moved or followed
abbrev pub is_addressing : Operation → Bool
is_addressing (Op.Base to object) = true
is_addressing (Op.Offset to from cells) = true
is_addressing (Op.Index to from length cells by place) = true
is_addressing (Op.Move to from cells minus by place) = true
is_addressing (Op.Deref to from target path place) = true
is_addressing _ = false
