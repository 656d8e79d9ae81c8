-- Words of objects and of the offsets in them.
use Rattle.std.specs.Prelude.{◌≡◌, ℕ, ◌<◌, ℤ, pos, List, [], ◌∷◌, ◌++◌, length, get_or}
use Rattle.strided_dom.specs.Progression.{Progression, empty, Has}
use Rattle.pointer_dom.specs.Offset.{IsOffset}
use Rattle.pointer_dom.specs.OffsetSets.{OffsetSet, IsOffsetSet}
use Rattle.certificate_words.specs.Words.{Word, number}
use Rattle.certificate_words.specs.Numbers.{progression_words}
use Rattle.certificate_parts.specs.Risings.{AreRising, entries_onto}

-- an object with its offsets in front of words
abbrev pub object_onto : ℕ × OffsetSet → List Word → List Word
object_onto e words = number (pos e.0) ∷ (progression_words e.1.offsets ++ words)

-- the object is there and has this size, and an offset, each within it
pub record FitsObject (sizes : List ℕ) (e : ℕ × OffsetSet) : Type 0 where
  pub there : e.0 < length sizes
  pub size : e.1.size ≡ get_or sizes e.0 0
  pub within : IsOffsetSet e.1
  pub some : e.1.offsets ≡ empty → ⊥

abbrev pub IsNoWord : List Word → Type 0
IsNoWord words = words ≡ []

-- the words are those of no objects
pub record HasNoObjects (sizes : List ℕ) (words : List Word) : Type 0 where
  pub never : (fs : List (ℕ × OffsetSet)) → AreRising object_onto (FitsObject sizes) IsNoWord 0 fs
      → words ≡ entries_onto object_onto (FitsObject sizes) IsNoWord fs [] → ⊥

-- the number is that of an object of this size; or of none
pub record IsObject (sizes : List ℕ) (z : ℤ) (object size : ℕ) : Type 0 where
  pub is : z ≡ pos object
  pub there : object < length sizes
  pub size_is : size ≡ get_or sizes object 0

pub record IsNoObject (sizes : List ℕ) (z : ℤ) : Type 0 where
  pub never : (object : ℕ) → z ≡ pos object → object < length sizes → ⊥

-- all numbers of the set are offsets in an object of this size; or one is none
pub record AreAllOffsets (size : ℕ) (s : Progression) (o : OffsetSet) : Type 0 where
  pub size_is : o.size ≡ size
  pub are : o.offsets ≡ s
  pub within : IsOffsetSet o

pub record LeavesObject (size : ℕ) (s : Progression) : Type 0 where
  pub never : ((v : ℤ) → Has s v → IsOffset size v) → ⊥
