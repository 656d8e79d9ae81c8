use Rattle.std.specs.Prelude.{Contains}
use Rattle.std.proofs.lemmas.Result.{IfOk-weaker}
use Rattle.program_reports.specs.post_recheck.program_equations.Solutions.{tables_of}
use Rattle.program_reports.specs.post_recheck.program_systems.ProgramFacts.{program_with}
use Rattle.program_reports.specs.post_recheck.Pairs.{lists_of}
use Rattle.request_circles.proofs.Same.{same_rings}
use Rattle.lock_waits.specs.Waits.{IsRequest}
use Rattle.lock_waits.proofs.waits.rings.Goals as goal

pub returns : goal.returns
returns c =
    IfOk-weaker c.shortest_rings.result _ _ (λ rings h facts are.
    same_rings (Contains c.in_ok-requests.requests.items)
    (IsRequest (program_with c.args.program.now facts) (tables_of (lists_of c.args.tables.now)))
    (λ r. c.in_ok-requests.ensures facts are r) rings.items h) c.shortest_rings.ensures
