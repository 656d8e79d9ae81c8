use Rattle.std.proofs.Common.{◌≡◌, ◌++◌, drop}
use Rattle.cell_layout.specs.reading.Waits.{bodies_waiting}
use Rattle.cell_layout.proofs.paths.waiting_bodies.Given as goal

abbrev pub invariant-loop-function : goal.invariant-loop-function
invariant-loop-function l =
    (l.body ≡ l.function-index) × (l.waiting.items ++ bodies_waiting l.body (drop l.function-index l.bodies) ≡ bodies_waiting 0 l.bodies)
