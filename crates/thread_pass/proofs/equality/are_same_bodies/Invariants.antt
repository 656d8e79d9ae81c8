use Rattle.thread_pass.proofs.SameBodies.{AreSameBelow}
use Rattle.thread_pass.proofs.equality.are_same_bodies.Given as goal

abbrev pub invariant-loop-number : goal.invariant-loop-number
invariant-loop-number l = AreSameBelow l.one.graphs.graphs.items l.other.graphs.graphs.items l.one.configured.items
    l.other.configured.items l.one_facts.bodies l.other_facts.bodies l.number
