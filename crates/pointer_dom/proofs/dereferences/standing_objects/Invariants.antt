use Rattle.std.proofs.Common.{take}
use Rattle.pointer_dom.specs.Selections.{IsStandingIn, AllStandAt}
use Rattle.pointer_dom.proofs.WalkFacts.{IsWalkedUpTo}
use Rattle.pointer_dom.proofs.dereferences.standing_objects.Given as goal

abbrev pub invariant-loop-object : goal.invariant-loop-object
invariant-loop-object g l = IsWalkedUpTo (IsStandingIn (g.L.Layout.alive l.layout) (g.L.Layout.stands l.layout)) (AllStandAt (g.L.Layout.alive l.layout) (g.L.Layout.stands l.layout)) (take l.object-index l.object-items) l.reached l.all
