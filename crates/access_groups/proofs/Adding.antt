-- What is new with one more task, and the body of a task.
use Rattle.std.proofs.Common.{◌↔◌, ◌⊎◌, ℕ, ◌<◌, inl, inr, length, arith}
use Rattle.mutex_configs.specs.declared.programs.Program.{Program}
use Rattle.program_reports.specs.post_recheck.transfer_rows.StateForms.{State}
use Rattle.program_reports.specs.post_recheck.table_covers.Solutions.{NodeTable}
use Rattle.program_reports.specs.post_recheck.program_equations.Programs.{ProgramBodies, body_at}
use Rattle.program_reports.specs.post_recheck.program_systems.Analysable.{IsAnalysable}
use Rattle.program_reports.specs.post_recheck.program_systems.ProgramFacts.{AllFacts, AreProgramFacts, program_with}
use Rattle.program_reports.proofs.low.program_systems.Bodies.{body_count}
use Rattle.access_races.proofs.Joins.{either}
use Rattle.access_groups.specs.declared.site.Site.{Site}
use Rattle.access_groups.specs.reading.Sites.{IsSiteBelow, IsSiteOf}

-- what is new, by all copies of a task, is what the task gives
pub of_task : {N O : Type 0} (p : ProgramBodies) (tables : ℕ → NodeTable State) (t : ℕ) → t < p.tasks → (x : Site)
    → (N ↔ (O ⊎ (let b = body_at p t in IsSiteBelow b (tables t) (length b.copies) x)))
    → (N ↔ (O ⊎ IsSiteOf p tables t x))
of_task p tables t below x h = (
  λ new. either (λ o. inl o) (λ g. inr (below, g)) (h.0 new),
  λ s. h.1 (either (λ o. inl o) (λ g. inr g.1) s),
)

-- a task is a body
pub in_bodies : (program : Program) (facts : AllFacts) → IsAnalysable program → AreProgramFacts program facts → (t : ℕ)
    → t < length program.laid.file.tasks.items → (let p = program_with program facts in t < length p.bodies)
in_bodies program facts analysable computed t below =
    let le = analysable.tasks in
    let count = body_count program facts analysable computed in omega (arith, below, le, count)
