use Rattle.std.proofs.Common.{subst}
use Rattle.program_equality.specs.program_equations.Programs.{IsProgram}
use Rattle.program_systems.specs.ReadPrograms.{program_of}
use Rattle.program_systems.proofs.Bodies.{is_program}
use Rattle.thread_pass.proofs.passes.AnalysisPasser.tasks.Goals as goal

pub returns-clause-program : goal.returns-clause-program
returns-clause-program c =
    subst (λ v. IsProgram (program_of v)) c.self.view_is
    (is_program c.self.inside.program c.self.inside.facts c.self.invariant.analysable c.self.invariant.facts)
