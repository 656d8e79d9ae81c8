use Rattle.std.proofs.Common.{subst}
use Rattle.flow_graph.specs.tm_laid.Layouts.{laid_tree}
use Rattle.program_equality.specs.program_equations.Programs.{IsProgramOf}
use Rattle.program_systems.specs.ReadPrograms.{program_of}
use Rattle.program_systems.proofs.Bodies.{is_program_of}
use Rattle.thread_pass.proofs.analyses.Analysis.program.Goals as goal

pub returns-clause-program : goal.returns-clause-program
returns-clause-program c =
    let inside = c.self.inside in
    subst (λ v. IsProgramOf (laid_tree inside.program.laid) inside.program.graphs.graphs.items
    inside.program.configured.items inside.program.marks (program_of v)) c.self.view_is
    (is_program_of inside.program inside.facts c.self.invariant.analysable c.self.invariant.facts)
