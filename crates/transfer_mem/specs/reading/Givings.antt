-- The families of operations, and what those give that calculate.
use Rattle.std.specs.Prelude.{◌≡◌, ◌⊎◌}
use Rattle.flow_graph.specs.declared.operations.Operation.{Operation}
use Rattle.flow_graph.specs.declared.operations.Operation.TheVariants as Op
use Rattle.memory_effects.specs.calculations.transfer_rows.StateForms.{State}
use Rattle.memory_effects.specs.calculations.transfer_rows.Actions.{Calculation, gives}
use Rattle.memory_effects.specs.calculations.Given.{IsCalculated}
use Rattle.memory_effects.specs.edge_actions.declared.views.EdgeView.{EdgeView}
use Rattle.memory_effects.specs.edge_actions.Edges.{action_at}
use Rattle.transfer_mem.specs.declared.giving.Given.{Given}

-- those that work on numbers, or copy
abbrev pub IsOfNumbers : Operation → Type 0
IsOfNumbers (Op.Const to value) = Unit {0}
IsOfNumbers (Op.Copy to from) = Unit {0}
IsOfNumbers (Op.Un to operator of from place) = Unit {0}
IsOfNumbers (Op.Bin to operator of left right place) = Unit {0}
IsOfNumbers (Op.Convert to was of from) = Unit {0}
IsOfNumbers (Op.Any to low high) = Unit {0}
IsOfNumbers operation = ⊥

-- those that work on pointers
abbrev pub IsOfPointers : Operation → Type 0
IsOfPointers (Op.BinPointers to equal left right) = Unit {0}
IsOfPointers (Op.Base to object) = Unit {0}
IsOfPointers (Op.Offset to from cells) = Unit {0}
IsOfPointers (Op.Index to from count cells by place) = Unit {0}
IsOfPointers (Op.Move to from cells minus by place) = Unit {0}
IsOfPointers (Op.Deref to from target path place) = Unit {0}
IsOfPointers operation = ⊥

-- those that give a temporary without a look at memory
abbrev pub IsGiving : Operation → Type 0
IsGiving operation = IsOfNumbers operation ⊎ IsOfPointers operation

-- those that reach cells
abbrev pub IsAccess : Operation → Type 0
IsAccess (Op.Load to address scalar place) = Unit {0}
IsAccess (Op.LoadAny to address scalar place) = Unit {0}
IsAccess (Op.Store address value scalar into place) = Unit {0}
IsAccess (Op.Clear object) = Unit {0}
IsAccess operation = ⊥

-- all others
abbrev pub IsControl : Operation → Type 0
IsControl Op.Skip = Unit {0}
IsControl (Op.Usable pointer place) = Unit {0}
IsControl (Op.Assume test) = Unit {0}
IsControl (Op.Lock mutex place) = Unit {0}
IsControl (Op.Unlock mutex place) = Unit {0}
IsControl Op.Yield = Unit {0}
IsControl (Op.Probe to mutex place) = Unit {0}
IsControl operation = ⊥

-- the edge's action gives this temporary, and this is calculated for it
pub record IsGivenBy (view : EdgeView) (s : State) (given : Given) : Type 0 where
  pub calculation : Calculation
  pub is : action_at view ≡ gives given.to calculation
  pub calculated : IsCalculated calculation s given.calculated
