-- Sets of offsets in one object: what an `Offsets` is in every contract.
use Rattle.std.specs.Prelude.{◌≡◌, ◌≢◌, ℕ, ◌≤◌, max, List, ℤ, pos}
use Rattle.strided_dom.specs.Progression.{Progression, empty, Has, IsSubset, IsExactly, first_of, last_of}
use Rattle.pointer_dom.specs.Offset.{IsOffset}
use Rattle.pointer_dom.specs.StridedSets.{hull, rounding_within}

-- How many cells the object has, and a set of offsets in it.
pub record OffsetSet : Type 0 where
  pub size : ℕ
  pub offsets : Progression

-- Each offset is one in the object. The empty set is written in one way: with the size 0.
pub record IsOffsetSet (o : OffsetSet) : Type 0 where
  pub within : (v : ℤ) → Has o.offsets v → IsOffset o.size v
  pub none : o.offsets ≡ empty → o.size ≡ 0

-- The empty set.
abbrev pub no_offset : OffsetSet
no_offset = record { size = 0; offsets = empty }

-- The set has no offset.
abbrev pub HasNoOffset : OffsetSet → Type 0
HasNoOffset o = o.offsets ≡ empty

-- The offsets are exactly the integers with the property P, in an object of this size.
pub record IsOffsetsOf (size : ℕ) (P : ℤ → Type 0) (o : OffsetSet) : Type 0 where
  pub offsets : IsExactly P o.offsets
  pub some : o.offsets ≢ empty → o.size ≡ size
  pub none : o.offsets ≡ empty → o.size ≡ 0

-- There are offsets, and these are the first and the last.
pub record AreEnds (o : OffsetSet) (first last : ℕ) : Type 0 where
  pub some : o.offsets ≢ empty
  pub first_is : first_of o.offsets ≡ pos first
  pub last_is : last_of o.offsets ≡ pos last

-- The order goes part by part: sizes as numbers, offsets by inclusion.
pub record IsOffsetsBelow (o p : OffsetSet) : Type 0 where
  pub size : o.size ≤ p.size
  pub offsets : IsSubset o.offsets p.offsets

-- The join: the greater size, and the hull of the union.
abbrev pub joined_offsets : OffsetSet → OffsetSet → OffsetSet
joined_offsets o p = record { size = max o.size p.size; offsets = hull o.offsets p.offsets }

-- The rounding: that of the offsets, met with 0 to the size.
abbrev pub rounded_offsets : List ℤ → OffsetSet → OffsetSet
rounded_offsets marks o = record { size = o.size; offsets = rounding_within o.size marks o.offsets }
