-- Pointers of a set that have a property, and what a dereference reaches.
use Rattle.std.specs.Prelude.{◌≡◌, ◌≢◌, ◌↔◌, ℕ, IsTrue, ℤ, pos}
use Rattle.std.specs.FinMap as map
use Rattle.strided_dom.specs.Progression.{Has}
use Rattle.tm_lattice.specs.Tables.{Table}
use Rattle.pointer_dom.specs.Pointer.{Pointer, null, invalid, to}
use Rattle.pointer_dom.specs.OffsetSets.{OffsetSet, IsOffsetsOf}
use Rattle.pointer_dom.specs.PointerSets.{Pointers, IsPointer, offsets_or_none, offsets_at}
use Rattle.pointer_dom.specs.Advances.{IsInHull}

-- v is an offset in the object to which a pointer has the property P.
pub record IsOffsetTo (P : Pointer → Type 0) (object : ℕ) (v : ℤ) : Type 0 where
  pub offset : ℕ
  pub is : v ≡ pos offset
  pub pointer : P (to object offset)

-- The set has exactly what has the property P of null and the invalid pointer, and in each object the hull of the
-- offsets that have it. The sizes of objects are those of p.
pub record IsHullOfPointers (P : Pointer → Type 0) (p hull : Pointers) : Type 0 where
  pub null : IsTrue hull.null ↔ P null
  pub invalid : IsTrue hull.invalid ↔ P invalid
  pub objects : (object : ℕ) → let o = offsets_at p object in
      IsOffsetsOf o.size (IsInHull (IsOffsetTo P object)) (offsets_at hull object)

-- The pointer leads to an object that is alive, and to an offset at which the cells of the pointed type stand (C99
-- 6.5.3.2).
abbrev pub Reaches : (ℕ → Type 0) → (ℕ → ℕ → Type 0) → Pointer → Type 0
Reaches Alive Stands null = ⊥
Reaches Alive Stands invalid = ⊥
Reaches Alive Stands (to object offset) = Alive object × Stands object offset

-- The pointers of a set that may be dereferenced.
abbrev pub IsTarget : (ℕ → Type 0) → (ℕ → ℕ → Type 0) → Pointers → Pointer → Type 0
IsTarget Alive Stands p x = IsPointer p x × Reaches Alive Stands x

-- v is one of the offsets, and the cells of the pointed type stand there.
pub record IsStanding (Stands : ℕ → Type 0) (o : OffsetSet) (v : ℤ) : Type 0 where
  pub offset : ℕ
  pub is : v ≡ pos offset
  pub member : Has o.offsets v
  pub stands : Stands offset

-- The cells of the pointed type stand at each offset.
abbrev pub AllStand : (ℕ → Type 0) → OffsetSet → Type 0
AllStand Stands o = (offset : ℕ) → Has o.offsets (pos offset) → Stands offset

-- v is in the hull of the offsets at which a dereference finds cells.
abbrev pub IsStandingIn : (ℕ → Type 0) → (ℕ → ℕ → Type 0) → ℕ → OffsetSet → ℤ → Type 0
IsStandingIn Alive Stands object o = IsInHull (IsStanding (λ offset. Reaches Alive Stands (to object offset)) o)

-- A dereference finds cells at each offset.
abbrev pub AllStandAt : (ℕ → Type 0) → (ℕ → ℕ → Type 0) → ℕ → OffsetSet → Type 0
AllStandAt Alive Stands object o = AllStand (λ offset. Reaches Alive Stands (to object offset)) o

abbrev pub AllStandIn : (ℕ → Type 0) → (ℕ → ℕ → Type 0) → Table OffsetSet → Type 0
AllStandIn Alive Stands s = (object : ℕ) → AllStandAt Alive Stands object (offsets_or_none (map.get s object))

-- A pointer of the set other than x.
abbrev pub IsOtherPointer : Pointers → Pointer → Pointer → Type 0
IsOtherPointer p x y = IsPointer p y × (y ≢ x)

-- v is one of the offsets in the object `key`, and not this one in this object.
abbrev pub IsLeft : ℕ → ℕ → ℕ → OffsetSet → ℤ → Type 0
IsLeft object offset key o v = Has o.offsets v × (key ≡ object → v ≢ pos offset)

-- v is in the hull of these.
abbrev pub IsOtherOffset : ℕ → ℕ → ℕ → OffsetSet → ℤ → Type 0
IsOtherOffset object offset key o = IsInHull (IsLeft object offset key o)
