-- How a `Strided` is kept: by its least and its greatest member and its stride.
use Rattle.std.specs.Prelude.{◌≡◌, ℕ, zero, suc, ◌*◌, ◌/◌, ℤ, pos, nat_abs, ◌+ℤ◌, ◌-ℤ◌, ◌≤ℤ◌, int_lt, true, false}
use Rattle.std.specs.Prelude.{if◌then◌else◌}
use Rattle.std.specs.Int.{◌∣◌}
use Rattle.strided_dom.specs.Progression.{Progression, empty, single, row, Has, IsSpaced, IsInReach, first_of, last_of}
use Rattle.strided_dom.specs.Progression.{stride_of}
use Rattle.tm_numbers.specs.Congruence.{IsCongruent}
use Rattle.strided_dom.specs.declared.sets.Strided.TheInside.{Inside}

-- The set of the `steps` + 1 numbers from lo on.
unfoldable pub stepped : ℤ → ℕ → ℕ → Progression
stepped lo zero steps = single lo
stepped lo (suc gap) zero = single lo
stepped lo (suc gap) (suc more) = row lo gap more

-- How many strides there are from lo to hi.
abbrev pub steps_between : ℤ → ℤ → ℕ → ℕ
steps_between lo hi stride = nat_abs (hi -ℤ lo) / stride

-- The set that the fields stand for: none where hi is below lo.
unfoldable pub progression_of : Inside → Progression
progression_of s = if int_lt s.hi s.lo then empty else stepped s.lo s.stride (steps_between s.lo s.hi s.stride)

-- The fields of a set.
unfoldable pub fields_of : Progression → Inside
fields_of empty = record { lo = pos 1; hi = pos 0; stride = 0 }
fields_of (single v) = record { lo = v; hi = v; stride = 0 }
fields_of (row first gap more) = record { lo = first; hi = first +ℤ pos (suc more * suc gap); stride = suc gap }

-- The fields are in reach, and are those of their set.
pub record IsKept (s : Inside) : Type 0 where
  pub low : IsInReach s.lo
  pub high : IsInReach s.hi
  pub none : int_lt s.hi s.lo ≡ true → (s.lo ≡ pos 1) × (s.hi ≡ pos 0) × (s.stride ≡ 0)
  pub flat : int_lt s.hi s.lo ≡ false → s.stride ≡ 0 → s.hi ≡ s.lo
  pub spread : int_lt s.hi s.lo ≡ false → (gap : ℕ) → s.stride ≡ suc gap → (more : ℕ)
      × ((steps_between s.lo s.hi s.stride ≡ suc more) × (s.hi ≡ s.lo +ℤ pos (suc more * suc gap)))

-- lo, hi and stride are the ends and the stride of s, which has a member and is in reach.
pub record AreEndsOf (s : Progression) (lo hi : ℤ) (stride : ℕ) : Type 0 where
  pub some : Has s (first_of s)
  pub first : lo ≡ first_of s
  pub last : hi ≡ last_of s
  pub step : stride ≡ stride_of s
  pub low : IsInReach lo
  pub high : IsInReach hi

-- The numbers from lo to hi in steps of m are among those from lo' to hi' in steps of m'.
pub record AreEndsWithin (lo hi : ℤ) (m : ℕ) (lo' hi' : ℤ) (m' : ℕ) : Type 0 where
  pub from : lo' ≤ℤ lo
  pub to : hi ≤ℤ hi'
  pub congruent : IsCongruent m' lo lo'
  pub divides : m' ∣ m

-- lo, hi and m are in reach and belong together as the ends and the stride of a set do.
pub record AreEnds (lo hi : ℤ) (m : ℕ) : Type 0 where
  pub low : IsInReach lo
  pub high : IsInReach hi
  pub ordered : lo ≤ℤ hi
  pub congruent : IsCongruent m hi lo
  pub flat : lo ≡ hi → m ≡ 0

-- v is one of the numbers from lo' to top in steps of m', and is congruent to lo modulo m.
pub record IsCommon (lo : ℤ) (m : ℕ) (lo' top : ℤ) (m' : ℕ) (v : ℤ) : Type 0 where
  pub spaced : IsSpaced lo' top m' v
  pub congruent : IsCongruent m v lo
