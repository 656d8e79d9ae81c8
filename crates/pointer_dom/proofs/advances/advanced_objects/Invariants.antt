use Rattle.std.proofs.Common.{take}
use Rattle.pointer_dom.proofs.AdvanceFacts.{Reaches, Stay}
use Rattle.pointer_dom.proofs.WalkFacts.{IsWalkedUpTo}
use Rattle.pointer_dom.proofs.advances.advanced_objects.Given as goal

abbrev pub invariant-loop-object : goal.invariant-loop-object
invariant-loop-object l = IsWalkedUpTo (Reaches l.steps) (Stay l.steps) (take l.object-index l.object-items) l.reached l.inside
