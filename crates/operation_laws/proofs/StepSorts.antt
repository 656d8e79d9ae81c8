-- Steps whose variables have sorts: what is done for an expression or a statement fits them.
use Rattle.std.proofs.Common.{◌≡◌, ℕ, List, Option, Some, slice_get}
use Rattle.temporary_types.specs.tm_cint.declared.int_types.IntType.{IntType}
use Rattle.temporary_types.specs.tm_cint.declared.int_types.IntType.TheVariants as Ints
use Rattle.temporary_types.specs.tm_laid.Layouts.{LaidTree}
use Rattle.temporary_types.specs.Sorts.{Sort, numbers, Within, WorksTest, Works, Gives}
use Rattle.lowering_laws.specs.lowering.Steps.{Steps, Step, Inputs, Code, Fork, Plan, Parts}
use Rattle.operation_laws.proofs.Natures as Fit

abbrev pub sorted : LaidTree → Fit.Natures
sorted laid = record {
  Nature = Sort;
  Is = λ vs v s. slice_get vs v ≡ Some s;
  IsAny = λ s. ⊥;
  Acts = λ vs op. Works laid vs op × Unit {0};
  Yields = λ vs op s. Works laid vs op × Gives vs op s;
  Tests = WorksTest;
  IsTruth = λ s. s ≡ numbers Ints.Bool;
  IsCase = λ s. (t : IntType) × Within s (numbers t);
  Becomes = Within;
}

module _ (laid : LaidTree) (Call : ℕ → List Sort → Option Sort → Type 0) where
  abbrev pub StepsFit : List Sort → Steps → List Sort → Type 0
  StepsFit = Fit.StepsFit (sorted laid) Call

  abbrev pub StepFits : List Sort → Step → Option Sort → Type 0
  StepFits = Fit.StepFits (sorted laid) Call

  abbrev pub InputsFit : Inputs → List Sort → Type 0
  InputsFit = Fit.InputsFit (sorted laid) Call

  abbrev pub CodeFits : Code → Option Sort → Type 0
  CodeFits = Fit.CodeFits (sorted laid) Call

  abbrev pub ForkFits : Fork → Type 0
  ForkFits = Fit.ForkFits (sorted laid) Call

  abbrev pub MaybeFork : Option Fork → Type 0
  MaybeFork = Fit.MaybeFork (sorted laid) Call

  abbrev pub AnySteps : Steps → Type 0
  AnySteps = Fit.AnySteps (sorted laid) Call

  abbrev pub MaybeCode : Option Sort → Option Code → Type 0
  MaybeCode = Fit.MaybeCode (sorted laid) Call

  abbrev pub PlanFits : Option Sort → Plan → Type 0
  PlanFits = Fit.PlanFits (sorted laid) Call

  abbrev pub PartsFit : Option Sort → Parts → Type 0
  PartsFit = Fit.PartsFit (sorted laid) Call
