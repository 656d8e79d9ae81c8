-- When an edge may be applied to a state and a store.
use Rattle.std.specs.Prelude.{ℕ, ℤ, ◌<◌, ◌≤◌, length}
use Rattle.strided_dom.specs.Progression.{IsInReach, Has}
use Rattle.pointer_dom.specs.Advances.{IsInteger}
use Rattle.memory_effects.specs.calculations.transfer_int.Operands.{AreValues, AreRightOperands}
use Rattle.interfere_set.specs.Stores.{Interferences, HavePriorities}
use Rattle.tm_typed.specs.TypedFiles.{typed_file_tree}
use Rattle.tm_laid.specs.Layable.{IsLayable}
use Rattle.concrete_values.specs.declared.values.Value.{Value}
use Rattle.concrete_values.specs.declared.values.Value.TheVariants.{Number, Pointer}
use Rattle.flow_graph.specs.declared.operations.Operation.{Operation}
use Rattle.flow_graph.specs.declared.operations.Operation.TheVariants as Op
use Rattle.memory_effects.specs.calculations.transfer_rows.StateForms.{State, value_of}
use Rattle.memory_effects.specs.edge_actions.declared.views.EdgeView.{EdgeView}
use Rattle.edge_filters.specs.Tests.{IsTestable}

-- a number that is a constant is in the reach of strided sets
abbrev pub IsConstant : Value → Type 0
IsConstant (Number n) = IsInReach n
IsConstant (Pointer p) = Unit {0}

-- every number of a temporary is one of an integer type
abbrev pub AreIntegers : State → ℕ → Type 0
AreIntegers s t = (n : ℤ) → Has (value_of s t).numbers n → IsInteger n

-- The temporaries that the operation uses have values that it is made for: operands those of its type, a number of
-- elements some integer. Its own numbers are in the reach of strided sets, its comparison is one of the six, and its
-- mutex one of sixteen.
abbrev pub IsOperable : Operation → State → Type 0
IsOperable (Op.Const to value) s = IsConstant value
IsOperable (Op.Un to operator of from place) s = AreValues of (value_of s from).numbers
IsOperable (Op.Bin to operator of left right place) s =
    AreValues of (value_of s left).numbers × AreRightOperands operator of (value_of s right).numbers
IsOperable (Op.Move to from cells minus by place) s = AreIntegers s by
IsOperable (Op.Any to low high) s = IsInReach low × IsInReach high
IsOperable (Op.Assume test) s = IsTestable test
IsOperable (Op.Lock mutex place) s = mutex < 16
IsOperable (Op.Unlock mutex place) s = mutex < 16
IsOperable (Op.Probe to mutex place) s = mutex < 16
IsOperable operation s = Unit {0}

pub record IsApplicable (view : EdgeView) (s : State) (store : Interferences) : Type 0 where
  -- the task has a priority
  pub task : view.task < length view.priorities.now
  -- every task that wrote to the store has one
  pub writers : HavePriorities store (length view.priorities.now)
  -- the file of the layout can be laid out
  pub layable : IsLayable (typed_file_tree view.laid.now.file) view.laid.now.file.order.items
  -- there are no more cells than their limit
  pub few : length view.laid.now.cells.items ≤ 65536
  -- the temporaries have values that the operation is made for
  pub operable : IsOperable view.operation s
