use Rattle.std.proofs.Common.{◌↔◌}
use Rattle.std.specs.Prelude.{Contains}
use Rattle.request_circles.specs.declared.requests.Request.{Request as ARequest}
use Rattle.program_reports.specs.post_recheck.program_systems.ProgramFacts.{AllFacts, AreProgramFacts, program_with}
use Rattle.program_reports.specs.post_recheck.Pairs.{lists_of}
use Rattle.lock_waits.specs.reading.Bodies.{IsAskedUpTo}
use Rattle.lock_waits.proofs.waits.requests_of.Given as goal

abbrev pub invariant-loop-number : goal.invariant-loop-number
invariant-loop-number l = (facts : AllFacts) → AreProgramFacts l.program facts → (r : ARequest)
    → Contains l.requests.items r ↔ IsAskedUpTo (program_with l.program facts) (lists_of l.tables) l.number r
