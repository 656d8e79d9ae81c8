-- What the code of a calculation gives.
use Rattle.std.specs.Prelude.{◌≡◌, ◌↔◌, false, IsTrue}
use Rattle.tm_cint.specs.declared.Class.{Class}
use Rattle.transfer_int.specs.Outcomes.{notes}
use Rattle.transfer_int.specs.declared.outcomes.Classes.{Classes}
use Rattle.transfer_rows.specs.StateForms.{State}
use Rattle.transfer_rows.specs.Actions.{Calculation}
use Rattle.transfer_rows.specs.Calculations.{calculated}
use Rattle.transfer_rows.specs.Reports.{CalculationMayFail}
use Rattle.calculations.specs.declared.values.Calculated.{Calculated}

-- no class is noted
abbrev pub no_class : Classes
no_class = record {
  overflow = false;
  div = false;
  shift = false;
  index = false;
  pointer = false;
  deref = false;
  lock = false;
}

-- its value, and exactly the classes that are not excluded
pub record IsCalculated (calculation : Calculation) (s : State) (given : Calculated) : Type 0 where
  pub value : given.value ≡ calculated calculation s
  pub classes : (class : Class) → IsTrue (notes given.classes class) ↔ CalculationMayFail calculation s class
