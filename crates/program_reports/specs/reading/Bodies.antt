-- What all copies of the first bodies give to a report.
use Rattle.std.specs.Prelude.{ℕ, ◌<◌, length}
use Rattle.tm_terms.specs.declared.alarms.Alarm.{Alarm}
use Rattle.post_recheck.specs.transfer_rows.StateForms.{State}
use Rattle.post_recheck.specs.table_covers.Solutions.{NodeTable}
use Rattle.post_recheck.specs.program_equations.Programs.{ProgramBodies, body_at}
use Rattle.access_races.specs.declared.accesses.Access.{Access}
use Rattle.program_reports.specs.reading.Found.{IsAlarmBelow, IsAccessBelow}

-- one of the first bodies gives it
pub record IsGivenUpTo (Gives : ℕ → Type 0) (n : ℕ) : Type 0 where
  pub body : ℕ
  pub below : body < n
  pub gives : Gives body

module _ (p : ProgramBodies) (tables : ℕ → NodeTable State) where
  -- a body gives the alarm
  abbrev pub IsAlarmOf : ℕ → Alarm → Type 0
  IsAlarmOf t a = (let b = body_at p t in IsAlarmBelow b (tables t) (length b.copies) a)

  -- a task gives the access
  abbrev pub IsAccessOf : ℕ → Access → Type 0
  IsAccessOf t x = (t < p.tasks) × (let b = body_at p t in IsAccessBelow b (tables t) (length b.copies) x)

  abbrev pub IsAlarmUpTo : ℕ → Alarm → Type 0
  IsAlarmUpTo n a = IsGivenUpTo (λ t. IsAlarmOf t a) n

  abbrev pub IsAccessUpTo : ℕ → Access → Type 0
  IsAccessUpTo n x = IsGivenUpTo (λ t. IsAccessOf t x) n
