-- What an operation reaches, adds to the store, and does not exclude.
use Rattle.std.specs.Prelude.{◌≡◌, ℕ, true, false, ◌&&◌, cond, eqb, IsTrue, pos, List, [], Option, Some, None}
use Rattle.std.specs.Int.{bit_at}
use Rattle.std.specs.FinMap.{get}
use Rattle.interfere_set.specs.strided_dom.Progression.{single}
use Rattle.tm_cint.specs.declared.Class.{Class}
use Rattle.tm_cint.specs.declared.Class.TheVariants.{Index, Pointer, Deref, Lock}
use Rattle.tm_cint.specs.declared.operators.BinOp.TheVariants.{Sub}
use Rattle.interfere_set.specs.pointer_dom.PointerSets.{HaveEqualSizes}
use Rattle.interfere_set.specs.pointer_dom.Values.{Values, no_value}
use Rattle.operator_values.specs.Classes.{may_fail, index_fails, move_fails, dereference_fails}
use Rattle.transfer_rows.specs.StateForms.{Cell, State, value_of}
use Rattle.transfer_rows.specs.Actions.{Around, Calculation, negated, operated, element, moved, dereferenced}
use Rattle.transfer_rows.specs.Actions.{Filter, usable, Action, gives, refines, loads, loads_any, stores, locks}
use Rattle.transfer_rows.specs.Actions.{unlocks}
use Rattle.transfer_rows.specs.Accesses.{is_among, targets_at}
use Rattle.transfer_rows.specs.Rows.{holds}

-- the abstract cells that an access reaches
unfoldable pub targets_of : Action → State → List ℕ
targets_of (loads spots target address) s = targets_at spots (value_of s address).pointers
targets_of (loads_any spots target address range) s = targets_at spots (value_of s address).pointers
targets_of (stores spots address source) s = targets_at spots (value_of s address).pointers
targets_of action s = []

-- The class of a calculation is not excluded.
unfoldable pub CalculationMayFail : Calculation → State → Class → Type 0
CalculationMayFail (negated t source) s class =
    IsTrue (may_fail Sub t (single (pos 0)) (value_of s source).numbers class)
CalculationMayFail (operated op t left right) s class =
    IsTrue (may_fail op t (value_of s left).numbers (value_of s right).numbers class)
CalculationMayFail (element count cells source index) s class =
    (class ≡ Index) × IsTrue (index_fails count (value_of s index).numbers)
CalculationMayFail (moved forward cells source count) s class =
    (class ≡ Pointer) × IsTrue (move_fails forward cells (value_of s count).numbers (value_of s source).pointers)
CalculationMayFail (dereferenced alive stands source) s class =
    (class ≡ Deref) × IsTrue (dereference_fails alive stands (value_of s source).pointers)
CalculationMayFail calculation s class = ⊥

abbrev pub FilterMayFail : Filter → State → Class → Type 0
FilterMayFail (usable source) s class = (class ≡ Pointer) × IsTrue (value_of s source).pointers.invalid
FilterMayFail filter s class = ⊥

-- what stands pending in a cell under a mutex
abbrev pub left_by : ℕ → Option Cell → Values
left_by m None = no_value
left_by m (Some c) = cond (eqb (bit_at c.pending m) 1) c.value no_value

-- no temporary has an object with one size in the one state, and with another in the other
pub record AgreeOnSizes (s s' : State) : Type 0 where
  pub sizes : (t : ℕ) → HaveEqualSizes (value_of s t).pointers (value_of s' t).pointers

module _ (around : Around) where
  -- what is added to the weak entry of a cell under the task and its held set: what a store writes, if the cell is a
  -- shared target
  unfoldable pub weak_of : Action → State → ℕ → Values
  weak_of (stores spots address source) s x =
      cond (around.is_shared x && is_among (targets_at spots (value_of s address).pointers) x) (value_of s source)
      no_value
  weak_of action s x = no_value

  -- what is added to the sync entry of a cell under the task and a mutex: its own value, if this mutex is unlocked and
  -- pending there
  unfoldable pub sync_of : Action → State → ℕ → ℕ → Values
  sync_of (unlocks m) s n x =
      cond (around.is_shared x && (eqb n m && holds around m)) (left_by m (get s.cells x)) no_value
  sync_of action s n x = no_value

  -- the class is not excluded
  unfoldable pub IsListed : Action → State → Class → Type 0
  IsListed (gives target calculation) s class = CalculationMayFail calculation s class
  IsListed (refines filter) s class = FilterMayFail filter s class
  IsListed (locks m) s class = (class ≡ Lock) × (holds around m ≡ true)
  IsListed (unlocks m) s class = (class ≡ Lock) × (holds around m ≡ false)
  IsListed action s class = ⊥
