use Rattle.std.proofs.Common.{take}
use Rattle.tm_laid.specs.Layouts.{laid_tree}
use Rattle.edge_origins.specs.reading.Gathered.{AreAssembled}
use Rattle.edge_origins.proofs.assembling.all_bodies.Given as goal

-- the bodies so far are put together
abbrev pub invariant-loop-body : goal.invariant-loop-body
invariant-loop-body l = AreAssembled (laid_tree l.laid) l.notes 0 (take l.body l.graphs) l.bodies.items
