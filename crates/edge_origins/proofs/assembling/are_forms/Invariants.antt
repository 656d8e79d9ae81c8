use Rattle.std.proofs.Common.{take}
use Rattle.edge_origins.specs.Bodies.{AreOf}
use Rattle.edge_origins.proofs.assembling.are_forms.Given as goal

-- the operations so far have the forms that are noted
abbrev pub invariant-loop-number : goal.invariant-loop-number
invariant-loop-number l = AreOf (take l.number l.edges) (take l.number l.origins)
