-- How a pointer is followed, and what was found of the offsets below a number.
use Rattle.std.specs.Prelude.{◌≡◌, ◌↔◌, ℕ, ◌<◌, ℤ, pos, Bool, IsTrue}
use Rattle.strided_dom.specs.Progression.{Progression, Has, IsHull}
use Rattle.pointer_dom.specs.OffsetSets.{OffsetSet}
use Rattle.tm_laid.specs.Layouts.{laid_tree, is_alive, stands_at}
use Rattle.calculations.specs.declared.dereferences.Followed.{Followed}

-- the object is alive
abbrev pub Alive : Followed → ℕ → Type 0
Alive f object = IsTrue (is_alive (laid_tree f.laid.now) f.path object)

-- the type stands at the offset
abbrev pub Stands : Followed → ℕ → ℕ → Type 0
Stands f object offset = IsTrue (stands_at (laid_tree f.laid.now) object offset f.target)

-- v is one of the offsets below the end, and the type stands there
pub record IsStandingBelow (StandsThere : ℕ → Type 0) (o : OffsetSet) (end : ℕ) (v : ℤ) : Type 0 where
  pub offset : ℕ
  pub is : v ≡ pos offset
  pub member : Has o.offsets v
  pub stands : StandsThere offset
  pub below : offset < end

-- the least set with those offsets below the end at which the type stands, and whether it does at all of them
pub record IsStandingUpTo (StandsThere : ℕ → Type 0) (o : OffsetSet) (end : ℕ) (found : Progression)
    (whole : Bool) : Type 0
  where
    pub hull : IsHull (IsStandingBelow StandsThere o end) found
    pub all : IsTrue whole ↔ ((offset : ℕ) → offset < end → Has o.offsets (pos offset) → StandsThere offset)
