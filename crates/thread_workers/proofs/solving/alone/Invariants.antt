use Rattle.std.specs.Arc.{arc_value}
use Rattle.thread_workers.proofs.Alone.{IsIdle}
use Rattle.thread_workers.proofs.solving.alone.Given as goal

abbrev pub invariant-loop : goal.invariant-loop
invariant-loop g l =
    (goal.iterator-loop g).can_next l.iterator' × (goal.iterator-loop g).is_finite l.iterator' × IsIdle (arc_value l.fn.program) l.fn.workers l.core
