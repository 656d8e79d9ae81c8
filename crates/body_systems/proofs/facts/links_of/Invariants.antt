use Rattle.std.proofs.Common.{◌≡◌, take, map}
use Rattle.task_equations.specs.Equations.{link_of}
use Rattle.body_systems.proofs.facts.links_of.Given as goal

abbrev pub invariant-loop-copy : goal.invariant-loop-copy
invariant-loop-copy l = l.links.items ≡ map link_of (take l.copy-index l.copies)
