use Rattle.std.specs.Prelude.{string_bytes}
use Rattle.worker_solutions.specs.program_systems.ReadPrograms.{program_of}
use Rattle.analyser.proofs.HistoryLines.{nothing_asked}
use Rattle.analyser.proofs.solvers.AloneSolver.solve.Goals as goal

pub returns : goal.returns
returns c = (
  c.in_ok-report.ensures,
  nothing_asked (program_of c.args.analysis) c.args._manner.workers (string_bytes c.new.result) c.args._manner.history
      c.requires.1 c.new.ensures.bytes,
)
