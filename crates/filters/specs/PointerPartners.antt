-- What is left of two sets of pointers where a comparison of their members is known to hold.
use Rattle.std.specs.Prelude.{◌≡◌, ◌≢◌, ◌⊎◌, Bool, true, false}
use Rattle.pointer_dom.specs.Pointer.{Pointer, invalid}
use Rattle.pointer_dom.specs.PointerSets.{Pointers, IsPointer, IsMeet}
use Rattle.pointer_dom.specs.Selections.{IsHullOfPointers}

-- x is a pointer of p that may be unequal to some pointer of q: it is another one, or that one is invalid, for two
-- invalid pointers are not told apart.
pub record MayBeUnequal (p q : Pointers) (x : Pointer) : Type 0 where
  pub member : IsPointer p x
  pub partner : Pointer
  pub in_other : IsPointer q partner
  pub unequal : (x ≢ partner) ⊎ (partner ≡ invalid)

-- What is left where `==` holds: the pointers in both. Where `!=` holds (`equal` is false): the least sets with the
-- pointers that may be unequal to one of the other set (C99 6.5.9).
abbrev pub ArePointersAssumed : Bool → Pointers → Pointers → Pointers → Pointers → Type 0
ArePointersAssumed true p q left right = IsMeet p q left × IsMeet p q right
ArePointersAssumed false p q left right = IsHullOfPointers (MayBeUnequal p q) p left
    × IsHullOfPointers (MayBeUnequal q p) q right
