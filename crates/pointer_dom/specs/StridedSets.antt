-- Join and rounding of strided sets as functions. Each gives the one set that its description determines.
use Rattle.std.specs.Prelude.{ℕ, List, ℤ}
use Rattle.strided_dom.specs.Progression.{Progression, IsExactly, IsHull}
use Rattle.strided_dom.specs.Combinations.{IsInEither}
use Rattle.strided_dom.specs.Rounding.{IsInRounding}
use Rattle.pointer_dom.specs.Offset.{IsInRoundingWithin}
use Rattle.pointer_dom.specs.laws.Existence.{hull_exists, rounding_exists, rounding_within_exists}

-- The join: the least strided set with the members of both.
unfoldable pub hull : Progression → Progression → Progression
hull s t = (hull_exists s t).0

pub hull_is : (s t : Progression) → IsHull (IsInEither s t) (hull s t)
unfolding hull
hull_is s t = (hull_exists s t).1

-- The rounding of a set onto marks.
unfoldable pub rounding : List ℤ → Progression → Progression
rounding marks s = (rounding_exists marks s).0

pub rounding_is : (marks : List ℤ) (s : Progression) → IsExactly (IsInRounding marks s) (rounding marks s)
unfolding rounding
rounding_is marks s = (rounding_exists marks s).1

-- The rounding of a set onto marks, met with the offsets in an object.
unfoldable pub rounding_within : ℕ → List ℤ → Progression → Progression
rounding_within size marks s = (rounding_within_exists marks s size).0

pub rounding_within_is : (size : ℕ) (marks : List ℤ) (s : Progression)
    → IsExactly (IsInRoundingWithin size marks s) (rounding_within size marks s)
unfolding rounding_within
rounding_within_is size marks s = (rounding_within_exists marks s size).1
