-- Pointers that advance within their objects.
use Rattle.std.specs.Prelude.{◌≡◌, ℕ, Bool, true, false, Option, ℤ, pos, neg_ℤ, ◌+ℤ◌, ◌*ℤ◌, ◌≤ℤ◌, ◌<ℤ◌, ◌^◌}
use Rattle.std.specs.FinMap as map
use Rattle.strided_dom.specs.Progression.{Progression, Has}
use Rattle.tm_lattice.specs.Tables.{Table}
use Rattle.pointer_dom.specs.Offset.{IsOffset}
use Rattle.pointer_dom.specs.OffsetSets.{OffsetSet, IsOffsetsOf}
use Rattle.pointer_dom.specs.PointerSets.{Pointers, offsets_or_none}

-- v is in the hull of the integers with the property P: in every strided set that holds them all.
abbrev pub IsInHull : (ℤ → Type 0) → ℤ → Type 0
IsInHull P v = (s : Progression) → ((w : ℤ) → P w → Has s w) → Has s v

-- v is one of the offsets, advanced by a step.
pub record IsAdvanced (Step : ℤ → Type 0) (offsets : Progression) (v : ℤ) : Type 0 where
  pub from : ℤ
  pub step : ℤ
  pub in_offsets : Has offsets from
  pub in_steps : Step step
  pub reached : v ≡ from +ℤ step

-- v is an offset in the object, and in the hull of the offsets that are advanced.
pub record IsReached (Step : ℤ → Type 0) (o : OffsetSet) (v : ℤ) : Type 0 where
  pub hull : IsInHull (IsAdvanced Step o.offsets) v
  pub offset : IsOffset o.size v

-- What has the offsets with the property P, which comes from the offsets before: in one object, and in each.
abbrev pub IsGivenAt : (OffsetSet → ℤ → Type 0) → Option OffsetSet → Option OffsetSet → Type 0
IsGivenAt P a b = let o = offsets_or_none a in IsOffsetsOf o.size (P o) (offsets_or_none b)

abbrev pub IsGiven : (ℕ → OffsetSet → ℤ → Type 0) → Table OffsetSet → Table OffsetSet → Type 0
IsGiven P s t = (object : ℕ) → IsGivenAt (P object) (map.get s object) (map.get t object)

-- Each pointer to an object is advanced by each step, as far as it stays in the object. Null and the invalid pointer
-- are dropped.
pub record IsAdvance (Step : ℤ → Type 0) (p reached : Pointers) : Type 0 where
  pub null : reached.null ≡ false
  pub invalid : reached.invalid ≡ false
  pub objects : IsGiven (λ object. IsReached Step) p.objects reached.objects

-- Each pointer to an object that is advanced by a step stays in the object.
abbrev pub StayInside : (ℤ → Type 0) → Table OffsetSet → Type 0
StayInside Step s = (object : ℕ) (v : ℤ) → let o = offsets_or_none (map.get s object) in IsAdvanced Step o.offsets v
    → IsOffset o.size v

-- No pointer is null or invalid, and each one stays in its object (C99 6.5.6).
pub record IsSafeAdvance (Step : ℤ → Type 0) (p : Pointers) : Type 0 where
  pub null : p.null ≡ false
  pub invalid : p.invalid ≡ false
  pub inside : StayInside Step p.objects

-- i is a subscript of an array of n elements (C99 6.5.2.1).
pub record IsSubscript (n : ℕ) (i : ℤ) : Type 0 where
  pub from : pos 0 ≤ℤ i
  pub below : i <ℤ pos n

-- Each number is a subscript of an array of n elements.
abbrev pub AreSubscripts : ℕ → Progression → Type 0
AreSubscripts n s = (i : ℤ) → Has s i → IsSubscript n i

-- v cells lie between the array and its element with one of these subscripts, where an element has this many cells.
pub record IsElementStep (n cells : ℕ) (s : Progression) (v : ℤ) : Type 0 where
  pub index : ℤ
  pub member : Has s index
  pub subscript : IsSubscript n index
  pub step : v ≡ index *ℤ pos cells

-- Forward by a number of cells, or back.
abbrev pub directed : Bool → ℕ → ℤ
directed true cells = pos cells
directed false cells = neg_ℤ (pos cells)

-- n is a number of an integer type of C, of at most 64 bits.
pub record IsInteger (n : ℤ) : Type 0 where
  pub low : neg_ℤ (pos (2 ^ 63)) ≤ℤ n
  pub high : n <ℤ pos (2 ^ 64)

-- n is so small that its sum with an offset is in the reach of strided sets.
pub record IsShortStep (n : ℤ) : Type 0 where
  pub low : neg_ℤ (pos (2 ^ 99)) ≤ℤ n
  pub high : n ≤ℤ pos (2 ^ 99)

-- The set without the invalid pointer.
abbrev pub usable_pointers : Pointers → Pointers
usable_pointers p = record { null = p.null; invalid = false; objects = p.objects }
