use Rattle.calculations.specs.reading.Ends.{Alive, Stands}
use Rattle.std.proofs.Common.{take}
use Rattle.pointer_dom.specs.Selections.{IsStandingIn, AllStandAt}
use Rattle.pointer_dom.proofs.WalkFacts.{IsWalkedUpTo}
use Rattle.calculations.proofs.dereferences.standing_objects.Given as goal

abbrev pub invariant-loop-object : goal.invariant-loop-object
invariant-loop-object l = IsWalkedUpTo (IsStandingIn (Alive l.followed) (Stands l.followed)) (AllStandAt (Alive l.followed) (Stands l.followed)) (take l.object-index l.object-items) l.reached l.all
