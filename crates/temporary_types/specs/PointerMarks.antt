-- Which temporaries hold pointers, as the operations that give them tell.
use Rattle.std.specs.Prelude.{◌≡◌, ℕ, Bool, true, false, List, [], ◌∷◌, ◌++◌, replicate, slice_set, slice_index_or}
use Rattle.std.specs.Prelude.{slice_get, Option, Some, None}
use Rattle.tm_typed.specs.Types.{is_pointer_scalar}
use Rattle.concrete_values.specs.declared.values.Value.{Value}
use Rattle.concrete_values.specs.declared.values.Value.TheVariants.{Number, Pointer}
use Rattle.flow_graph.specs.declared.operations.Operation.{Operation}
use Rattle.flow_graph.specs.declared.operations.Operation.TheVariants as Op
use Rattle.flow_graph.specs.declared.graphs.Edge.{Edge}
use Rattle.flow_graph.specs.Operations.{given}
use Rattle.flow_graph.specs.Graphs.{Edges, Among}
use Rattle.temporary_types.specs.Sorts.{Sort, numbers, pointers}

-- ## Marks

abbrev pub is_pointer_value : Value → Bool
is_pointer_value (Number z) = false
is_pointer_value (Pointer p) = true

-- what an operation gives is a pointer, where these temporaries hold pointers
abbrev pub gives_pointer : List Bool → Operation → Bool
gives_pointer marks (Op.Const to value) = is_pointer_value value
gives_pointer marks (Op.Copy to from) = slice_index_or marks from false
gives_pointer marks (Op.Base to object) = true
gives_pointer marks (Op.Offset to from cells) = true
gives_pointer marks (Op.Index to from length cells by place) = true
gives_pointer marks (Op.Move to from cells minus by place) = true
gives_pointer marks (Op.Deref to from target path place) = true
gives_pointer marks (Op.Load to address scalar place) = is_pointer_scalar scalar
gives_pointer marks (Op.LoadAny to address scalar place) = is_pointer_scalar scalar
gives_pointer marks operation = false

abbrev pub marked_at : List Bool → Operation → Option ℕ → List Bool
marked_at marks op None = marks
marked_at marks op (Some temp) = slice_set marks temp (gives_pointer marks op)

-- the marks after an operation: that of the temporary that it gives is new
abbrev pub marked : List Bool → Operation → List Bool
marked marks op = marked_at marks op (given op)

-- the marks after edges, in order
abbrev pub marked_by : List Bool → Edges → List Bool
marked_by marks [] = marks
marked_by marks (e ∷ graph) = marked_by (marked marks e.op) graph

-- the marks of so many temporaries after all edges of a graph
abbrev pub pointer_marks : Edges → ℕ → List Bool
pointer_marks graph count = marked_by (replicate count false) graph

-- ## What they tell

-- some edge gives the temporary
pub record IsGivenIn (graph : Edges) (temp : ℕ) : Type 0 where
  pub edge : Edge
  pub among : Among edge graph
  pub given : given edge.op ≡ Some temp

-- a copy is one of a temporary that one of these edges gives
abbrev pub IsCopyOfGiven : Edges → Operation → Type 0
IsCopyOfGiven before (Op.Copy to from) = IsGivenIn before from
IsCopyOfGiven before op = Unit {0}

-- behind these edges each copy is one of a temporary that an earlier edge gives
abbrev pub CopiesFollow : Edges → Edges → Type 0
CopiesFollow before [] = Unit {0}
CopiesFollow before (e ∷ graph) = IsCopyOfGiven before e.op × CopiesFollow (before ++ e ∷ []) graph

abbrev pub AreCopiesOfGiven : Edges → Type 0
AreCopiesOfGiven graph = CopiesFollow [] graph

abbrev pub is_pointers : Sort → Bool
is_pointers (numbers t) = false
is_pointers pointers = true

-- a temporary is marked exactly where it holds pointers
abbrev pub Tells : List Sort → List Bool → ℕ → Type 0
Tells sorts marks temp = (s : Sort) → slice_get sorts temp ≡ Some s → slice_index_or marks temp false ≡ is_pointers s
