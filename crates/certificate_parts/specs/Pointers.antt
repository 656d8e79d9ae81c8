-- Words of pointers.
use Rattle.std.specs.Prelude.{◌≡◌, ℕ, pos, Bool, true, false, List, [], ◌∷◌}
use Rattle.std.specs.FinMap.{entries}
use Rattle.pointer_dom.specs.OffsetSets.{OffsetSet}
use Rattle.pointer_dom.specs.PointerSets.{Pointers}
use Rattle.certificate_words.specs.Words.{Word, number}
use Rattle.certificate_parts.specs.Risings.{AreRising}
use Rattle.certificate_parts.specs.Objects.{object_onto, FitsObject, IsNoWord}

-- 1 where it is so, else 0
abbrev pub bit_word : Bool → Word
bit_word true = number (pos 1)
bit_word false = number (pos 0)

abbrev pub objects_words : List (ℕ × OffsetSet) → List Word
objects_words [] = []
objects_words (e ∷ es) = object_onto e (objects_words es)

-- whether null and the invalid pointer are there, and the objects
abbrev pub pointer_words : Pointers → List Word
pointer_words p = bit_word p.null ∷ bit_word p.invalid ∷ objects_words (entries p.objects)

-- the objects are there, with their sizes
abbrev pub FitsPointers : List ℕ → Pointers → Type 0
FitsPointers sizes p = AreRising object_onto (FitsObject sizes) IsNoWord 0 (entries p.objects)

-- the words are those of the pointers, and of no others
pub record ArePointers (sizes : List ℕ) (words : List Word) (p : Pointers) : Type 0 where
  pub fits : FitsPointers sizes p
  pub is : words ≡ pointer_words p
  pub one : (q : Pointers) → FitsPointers sizes q → words ≡ pointer_words q → q ≡ p

pub record HasNoPointers (sizes : List ℕ) (words : List Word) : Type 0 where
  pub never : (q : Pointers) → FitsPointers sizes q → words ≡ pointer_words q → ⊥

pub record BeginsWithNoBit (words : List Word) : Type 0 where
  pub never : (b : Bool) (more : List Word) → words ≡ bit_word b ∷ more → ⊥
