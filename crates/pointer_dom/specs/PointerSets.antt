-- Sets of pointers: what a `PointerSet` is in every contract.
use Rattle.std.specs.Prelude.{◌≡◌, ℕ, Bool, false, ◌&&◌, ◌||◌, IsTrue, List, ℤ, pos, min, Option, Some, None}
use Rattle.std.specs.FinMap as map
use Rattle.strided_dom.specs.Progression.{single, Has}
use Rattle.strided_dom.specs.Combinations.{IsInBoth}
use Rattle.tm_lattice.specs.Tables.{Table, IsTable, IsTableBelow, joined_table, rounded_table}
use Rattle.pointer_dom.specs.Pointer.{Pointer, null, invalid, to}
use Rattle.pointer_dom.specs.OffsetSets.{OffsetSet, IsOffsetSet, HasNoOffset, IsOffsetsOf, IsOffsetsBelow, no_offset}
use Rattle.pointer_dom.specs.OffsetSets.{joined_offsets, rounded_offsets}

-- Whether the null pointer and the invalid pointer are there, and the offsets for each object to which a pointer is
-- there.
pub record Pointers : Type 0 where
  pub null : Bool
  pub invalid : Bool
  pub objects : Table OffsetSet

-- Each object of the table has an offset, and its offsets lie in it.
abbrev pub IsPointers : Pointers → Type 0
IsPointers p = IsTable IsOffsetSet HasNoOffset p.objects

-- The empty set.
abbrev pub no_pointer : Pointers
no_pointer = record { null = false; invalid = false; objects = map.empty }

-- The pointer to an object of this size, at this offset, alone.
abbrev pub pointer_to : ℕ → ℕ → ℕ → Pointers
pointer_to object size offset = record {
  null = false;
  invalid = false;
  objects = map.insert map.empty object record { size = size; offsets = single (pos offset) };
}

-- The offsets of an object; none where it is not in the table.
abbrev pub offsets_or_none : Option OffsetSet → OffsetSet
offsets_or_none None = no_offset
offsets_or_none (Some o) = o

-- The offsets of the pointers to an object.
abbrev pub offsets_at : Pointers → ℕ → OffsetSet
offsets_at p object = offsets_or_none (map.get p.objects object)

-- The pointer is in the set.
abbrev pub IsPointer : Pointers → Pointer → Type 0
IsPointer p null = IsTrue p.null
IsPointer p invalid = IsTrue p.invalid
IsPointer p (to object offset) = let o = offsets_at p object in Has o.offsets (pos offset)

-- The order goes part by part.
pub record IsPointersBelow (p q : Pointers) : Type 0 where
  pub null : IsTrue p.null → IsTrue q.null
  pub invalid : IsTrue p.invalid → IsTrue q.invalid
  pub objects : IsTableBelow IsOffsetsBelow p.objects q.objects

-- The join goes part by part.
abbrev pub joined_pointers : Pointers → Pointers → Pointers
joined_pointers p q = record {
  null = p.null || q.null;
  invalid = p.invalid || q.invalid;
  objects = joined_table joined_offsets p.objects q.objects;
}

-- The rounding goes object by object.
abbrev pub rounded_pointers : List ℤ → Pointers → Pointers
rounded_pointers marks p = record {
  null = p.null;
  invalid = p.invalid;
  objects = rounded_table (rounded_offsets marks) p.objects;
}

-- What is met at one object: the common offsets, and the lesser of the sizes.
abbrev pub IsMeetAt : Option OffsetSet → Option OffsetSet → Option OffsetSet → Type 0
IsMeetAt a b met =
    let o = offsets_or_none a in
    let o' = offsets_or_none b in
    IsOffsetsOf (min o.size o'.size) (IsInBoth o.offsets o'.offsets) (offsets_or_none met)

-- The table of the meet: what is met at each object.
abbrev pub IsTableMeet : Table OffsetSet → Table OffsetSet → Table OffsetSet → Type 0
IsTableMeet s t met = (object : ℕ) → IsMeetAt (map.get s object) (map.get t object) (map.get met object)

-- The meet goes part by part.
pub record IsMeet (p q met : Pointers) : Type 0 where
  pub null : met.null ≡ (p.null && q.null)
  pub invalid : met.invalid ≡ (p.invalid && q.invalid)
  pub objects : IsTableMeet p.objects q.objects met.objects

-- The two sets give no object two sizes.
abbrev pub HaveEqualSizes : Pointers → Pointers → Type 0
HaveEqualSizes p q = (object : ℕ) (o o' : OffsetSet) → map.get p.objects object ≡ Some o
    → map.get q.objects object ≡ Some o' → o.size ≡ o'.size
