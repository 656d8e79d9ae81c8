-- Equality of pointers.
use Rattle.std.specs.Prelude.{◌≡◌, ◌≢◌, ◌⊎◌, ℕ, Bool, true, false, ℤ, pos}
use Rattle.std.specs.FinMap as map
use Rattle.strided_dom.specs.Progression.{Progression, Has}
use Rattle.tm_lattice.specs.Tables.{Table}
use Rattle.pointer_dom.specs.OffsetSets.{OffsetSet}
use Rattle.pointer_dom.specs.Pointer.{Pointer}
use Rattle.pointer_dom.specs.PointerSets.{Pointers, IsPointer, no_pointer, offsets_or_none}

-- The value of `x == y`, or of `x != y` where `equal` is false: 1 where it holds, else 0 (C99 6.5.9).
abbrev pub IsEqualityOf : Bool → Pointer → Pointer → ℤ → Type 0
IsEqualityOf true x y v = ((v ≡ pos 1) × (x ≡ y)) ⊎ ((v ≡ pos 0) × (x ≢ y))
IsEqualityOf false x y v = ((v ≡ pos 1) × (x ≢ y)) ⊎ ((v ≡ pos 0) × (x ≡ y))

-- v is the value of the comparison for a pointer of p and one of q.
pub record IsEqualityValue (equal : Bool) (p q : Pointers) (v : ℤ) : Type 0 where
  pub left : Pointer
  pub right : Pointer
  pub in_left : IsPointer p left
  pub in_right : IsPointer q right
  pub truth : IsEqualityOf equal left right v

-- The sets have a pointer in common.
pub record Meet (p q : Pointers) : Type 0 where
  pub common : Pointer
  pub in_left : IsPointer p common
  pub in_right : IsPointer q common

-- A pointer of the one set differs from one of the other.
pub record Differ (p q : Pointers) : Type 0 where
  pub left : Pointer
  pub right : Pointer
  pub in_left : IsPointer p left
  pub in_right : IsPointer q right
  pub differ : left ≢ right

-- x is the one pointer of the set.
pub record IsOnly (p : Pointers) (x : Pointer) : Type 0 where
  pub member : IsPointer p x
  pub only : (y : Pointer) → IsPointer p y → y ≡ x

-- The set has no pointer, or two.
abbrev pub HasNoneOrTwo : Pointers → Type 0
HasNoneOrTwo p = (p ≡ no_pointer) ⊎ Differ p p

-- v is an offset in both sets.
pub record MeetAt (o o' : OffsetSet) : Type 0 where
  pub common : ℤ
  pub in_left : Has o.offsets common
  pub in_right : Has o'.offsets common

-- Some object has an offset in both tables.
pub record MeetTables (s t : Table OffsetSet) : Type 0 where
  pub object : ℕ
  pub meet : MeetAt (offsets_or_none (map.get s object)) (offsets_or_none (map.get t object))

-- The set has two members.
pub record HasTwo (s : Progression) : Type 0 where
  pub one : ℤ
  pub other : ℤ
  pub in_set : Has s one
  pub other_in_set : Has s other
  pub differ : one ≢ other
