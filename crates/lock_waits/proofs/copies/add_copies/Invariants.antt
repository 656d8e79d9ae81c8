use Rattle.std.proofs.Common.{◌↔◌, ◌⊎◌}
use Rattle.std.specs.Prelude.{Contains}
use Rattle.request_circles.specs.declared.requests.Request.{Request as ARequest}
use Rattle.lock_waits.specs.reading.Copies.{IsAskedBelow}
use Rattle.lock_waits.proofs.copies.add_copies.Given as goal

abbrev pub invariant-loop-copy : goal.invariant-loop-copy
invariant-loop-copy l = (r : ARequest) → Contains l.requests.items r ↔ (Contains l.initial.requests.items r
    ⊎ IsAskedBelow l.parts.number l.parts.edges.now l.parts.nodes.now l.parts.copies.now l.parts.table.now l.copy r)
