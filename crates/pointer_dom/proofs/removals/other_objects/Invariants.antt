use Rattle.std.proofs.Common.{true, take}
use Rattle.std.specs.Prelude.{⊤}
use Rattle.pointer_dom.specs.Selections.{IsOtherOffset}
use Rattle.pointer_dom.proofs.WalkFacts.{IsWalkedUpTo}
use Rattle.pointer_dom.proofs.removals.other_objects.Given as goal

abbrev pub invariant-loop-key : goal.invariant-loop-key
invariant-loop-key l = IsWalkedUpTo (IsOtherOffset l.object l.offset) (λ key o. ⊤) (take l.key-index l.key-items) l.others true
