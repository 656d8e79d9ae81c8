use Rattle.std.proofs.Common.{subst}
use Rattle.program_solutions.specs.program_systems.ReadPrograms.{program_of}
use Rattle.program_solutions.specs.LeastReports.{IsLeastPair}
use Rattle.worker_solutions.proofs.EachTable.{if_ok_by}
use Rattle.worker_solutions.proofs.solutions.solution_by_workers.Goals as goal

pub returns : goal.returns
returns g c =
    if_ok_by c.core_solution.result c.core_solution.ensures
    (λ found least. subst (λ r. IsLeastPair (program_of r) found) c.in_ok-core.ensures.program least)
