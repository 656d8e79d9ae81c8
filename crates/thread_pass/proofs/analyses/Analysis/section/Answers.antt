use Rattle.std.proofs.Common.{◌<◌, ◌≤◌, subst, arith, length}
use Rattle.program_equality.specs.program_equations.Programs.{HasSection}
use Rattle.program_systems.specs.ReadPrograms.{program_of}
use Rattle.thread_pass.specs.Analyses.{IsSectionTable}
use Rattle.thread_pass.proofs.SectionTables.{has_section, no_section}
use Rattle.thread_pass.proofs.analyses.Analysis.section.Goals as goal

pub returns-then-len : goal.returns-then-len
returns-then-len c =
    let inside = c.self.inside in
    let some : length inside.program.laid.file.tasks.items < length inside.program.graphs.graphs.items =
    omega (
      arith,
      c.if-len.true,
      c.len.ensures,
      c.len-2.ensures,
      inside.program.laid.file.tasks.ok.0,
      inside.program.graphs.graphs.ok.0,
    ) in
    subst (λ v. HasSection (program_of v) × IsSectionTable (program_of v) inside.section) c.self.view_is (
      has_section inside.program inside.facts c.self.invariant.analysable c.self.invariant.facts some,
      c.self.invariant.section,
    )

pub returns-else-len : goal.returns-else-len
returns-else-len c =
    let inside = c.self.inside in
    let none : length inside.program.graphs.graphs.items ≤ length inside.program.laid.file.tasks.items =
    omega (
      arith,
      c.if-len.false,
      c.len.ensures,
      c.len-2.ensures,
      inside.program.laid.file.tasks.ok.0,
      inside.program.graphs.graphs.ok.0,
    ) in
    subst (λ v. HasSection (program_of v) → ⊥) c.self.view_is
    (no_section inside.program inside.facts c.self.invariant.analysable c.self.invariant.facts none)
