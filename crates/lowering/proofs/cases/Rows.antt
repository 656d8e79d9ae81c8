-- What a test of a whole graph needs: the layout of a file from the trees of its items, and an edge as a row of
-- numbers.
use Rattle.std.proofs.Common.{ℕ, ◌+◌, ◌*◌, ℤ, pos, negsuc, Bool, true, false, List, [], ◌∷◌, Option, Result, Ok, Err}
use Rattle.std.specs.Prelude.{if◌then◌else◌}
use Rattle.concrete_steps.specs.tm_cint.declared.operators.BinOp.{BinOp}
use Rattle.concrete_steps.specs.tm_cint.declared.operators.BinOp.TheVariants as Bins
use Rattle.concrete_steps.specs.tm_terms.declared.places.Place.{Place}
use Rattle.concrete_steps.specs.tm_terms.declared.tokens.Name.{Name}
use Rattle.concrete_steps.specs.tm_terms.declared.refusals.Refusal.{Refusal}
use Rattle.concrete_steps.specs.tm_typed.declared.types.Scalar.{Scalar}
use Rattle.concrete_steps.specs.tm_typed.declared.types.Scalar.TheVariants as Scalars
use Rattle.concrete_steps.specs.tm_typed.declared.expressions.Unary.{Unary}
use Rattle.concrete_steps.specs.tm_typed.declared.expressions.Unary.TheVariants as Unaries
use Rattle.concrete_steps.specs.tm_typed.Types.{int_index}
use Rattle.concrete_steps.specs.tm_typed.Files.{FileState, first_file_state, file_of}
use Rattle.concrete_steps.specs.tm_laid.Layouts.{LaidTree, layout_of}
use Rattle.concrete_steps.specs.concrete_values.declared.values.Value.{Value}
use Rattle.concrete_steps.specs.concrete_values.declared.values.Value.TheVariants.{Number, Pointer as APointer}
use Rattle.flow_graph.specs.declared.graphs.Edge.{Edge}
use Rattle.flow_graph.specs.declared.operations.Test.{Test}
use Rattle.flow_graph.specs.declared.operations.Test.TheVariants as Tests
use Rattle.flow_graph.specs.declared.operations.Into.{Into}
use Rattle.flow_graph.specs.declared.operations.Into.TheVariants as Intos
use Rattle.flow_graph.specs.declared.operations.Operation.{Operation}
use Rattle.flow_graph.specs.declared.operations.Operation.TheVariants as Op

-- a place, and a name
unfoldable pub at : ℕ → ℕ → Place
at l c = record { line = l; col = c }

unfoldable pub name : ℕ → ℕ → Name
name s l = record { start = s; length = l }

abbrev pub laid_of : Result FileState Refusal → Option Name → LaidTree
laid_of (Ok f) main = layout_of (file_of f main)
laid_of (Err r) main = layout_of (file_of first_file_state main)

abbrev pub whole : ℤ → ℕ
whole (pos n) = 2 * n
whole (negsuc n) = 2 * n + 1

abbrev pub flag : Bool → ℕ
flag true = 1
flag false = 0

abbrev pub bin : BinOp → ℕ
bin Bins.Add = 0
bin Bins.Sub = 1
bin Bins.Mul = 2
bin Bins.Div = 3
bin Bins.Rem = 4
bin Bins.Shl = 5
bin Bins.Shr = 6
bin Bins.And = 7
bin Bins.Or = 8
bin Bins.Xor = 9
bin Bins.Lt = 10
bin Bins.Le = 11
bin Bins.Gt = 12
bin Bins.Ge = 13
bin Bins.Eq = 14
bin Bins.Ne = 15

abbrev pub un : Unary → ℕ
un Unaries.Negate = 0
un Unaries.Complement = 1

abbrev pub scalar : Scalar → ℕ
scalar (Scalars.Int t) = int_index t
scalar (Scalars.Pointer c) = 20

abbrev pub into : Into → ℕ
into (Intos.Object o) = o
into Intos.Pointed = 1000

abbrev pub held : Value → List ℕ
held (Number z) = whole z ∷ []
held (APointer p) = 7777 ∷ []

abbrev pub by : Place → List ℕ
by p = p.line ∷ p.col ∷ []

-- a test of a pointer is told from one of an integer by its temporary alone
abbrev pub test : Test → List ℕ
test (Tests.Numbers o t l r) = 18 ∷ bin o ∷ l ∷ r ∷ []
test (Tests.Pointers e l r) = 18 ∷ (if e then 14 else 15) ∷ l ∷ r ∷ []
test (Tests.Truth h v) = 19 ∷ (if h then 15 else 14) ∷ v ∷ 0 ∷ []
test (Tests.Case h z v) = 19 ∷ (if h then 14 else 15) ∷ v ∷ whole z ∷ []

abbrev pub op_row : Operation → List ℕ
op_row Op.Skip = 0 ∷ []
op_row (Op.Const to v) = 1 ∷ to ∷ held v
op_row (Op.Copy to from) = 2 ∷ to ∷ from ∷ []
op_row (Op.Un to o t from p) = 3 ∷ to ∷ un o ∷ int_index t ∷ from ∷ by p
op_row (Op.Bin to o t l r p) = 4 ∷ to ∷ bin o ∷ int_index t ∷ l ∷ r ∷ by p
op_row (Op.BinPointers to e l r) = 5 ∷ to ∷ flag e ∷ l ∷ r ∷ []
op_row (Op.Convert to w t from) = 6 ∷ to ∷ int_index t ∷ from ∷ []
op_row (Op.Base to o) = 7 ∷ to ∷ o ∷ []
op_row (Op.Offset to from c) = 8 ∷ to ∷ from ∷ c ∷ []
op_row (Op.Index to from n c i p) = 9 ∷ to ∷ from ∷ n ∷ c ∷ i ∷ by p
op_row (Op.Move to from c m i p) = 10 ∷ to ∷ from ∷ c ∷ flag m ∷ i ∷ by p
op_row (Op.Deref to from t path p) = 11 ∷ to ∷ from ∷ path ∷ by p
op_row (Op.Load to a s p) = 12 ∷ to ∷ a ∷ scalar s ∷ by p
op_row (Op.LoadAny to a s p) = 13 ∷ to ∷ a ∷ by p
op_row (Op.Store a v s i p) = 14 ∷ a ∷ v ∷ scalar s ∷ into i ∷ by p
op_row (Op.Any to l h) = 15 ∷ to ∷ whole l ∷ whole h ∷ []
op_row (Op.Clear o) = 16 ∷ o ∷ []
op_row (Op.Usable v p) = 17 ∷ v ∷ by p
op_row (Op.Assume t) = test t
op_row (Op.Lock m p) = 21 ∷ m ∷ by p
op_row (Op.Unlock m p) = 22 ∷ m ∷ by p
op_row Op.Yield = 23 ∷ []
op_row (Op.Probe to m p) = 24 ∷ to ∷ m ∷ by p

abbrev pub row_of : Edge → List ℕ
row_of e = e.from ∷ e.to ∷ op_row e.op
