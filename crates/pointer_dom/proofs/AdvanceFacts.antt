-- Offsets that advance by the members of a set, in one object.
use Rattle.std.proofs.Common.{◌≡◌, ◌↔◌, ℕ, ◌<◌, ◌^◌, ℤ, subst, arith}
use Rattle.std.proofs.lemmas.Int.{ints}
use Rattle.strided_dom.specs.Progression.{Progression, empty, Has, IsSubset, IsHull, IsInReach}
use Rattle.strided_dom.specs.Combinations.{IsSum}
use Rattle.strided_dom.proofs.Members.{not_in_empty}
use Rattle.pointer_dom.specs.Offset.{IsOffset, IsOffsetAmong}
use Rattle.pointer_dom.specs.OffsetSets.{OffsetSet, IsOffsetSet, IsOffsetsOf, no_offset}
use Rattle.pointer_dom.specs.Advances.{IsInHull, IsAdvanced, IsReached, IsShortStep}

-- a sum of an offset and a step is in reach
pub sum_in_reach : (o : OffsetSet) (s steps : Progression) → s ≡ o.offsets → IsOffsetSet o → o.size < 2 ^ 32 → ((n : ℤ) → Has steps n → IsShortStep n) → (v : ℤ) → IsSum s steps v → IsInReach v
sum_in_reach o s steps same o-is small short v p =
    let a = o-is.within p.left (subst (λ x. Has x p.left) same p.in_left) in
    let b = short p.right p.in_right in
    record { low = omega (arith, ints, small, a.from, a.to, b.low, b.high, p.sum); high = omega (arith, ints, small, a.from, a.to, b.low, b.high, p.sum) }

-- what a hull holds is what every set holds that holds the same numbers
pub in_hull : (P : ℤ → Type 0) (s : Progression) → IsHull P s → (v : ℤ) → Has s v → IsInHull P v
in_hull P s h v m = λ t k. (h.least t k).within v m

pub from_hull : (P : ℤ → Type 0) (s : Progression) → IsHull P s → (v : ℤ) → IsInHull P v → Has s v
from_hull P s h v p = p s h.complete

pub hull_weaken : (P Q : ℤ → Type 0) → ((v : ℤ) → P v → Q v) → (v : ℤ) → IsInHull P v → IsInHull Q v
hull_weaken P Q f v p = λ t k. p t (λ w q. k w (f w q))

module _ (o : OffsetSet) (steps sums : Progression) (reached : OffsetSet) (hull : IsHull (IsSum o.offsets steps) sums) (within : IsOffsetsOf o.size (IsOffsetAmong o.size sums) reached) where
  advance_from_sum : (v : ℤ) → IsSum o.offsets steps v → IsAdvanced (Has steps) o.offsets v
  advance_from_sum v p = record { from = p.left; step = p.right; in_offsets = p.in_left; in_steps = p.in_right; reached = p.sum }

  sum_from_advance : (v : ℤ) → IsAdvanced (Has steps) o.offsets v → IsSum o.offsets steps v
  sum_from_advance v p = record { left = p.from; right = p.step; in_left = p.in_offsets; in_right = p.in_steps; sum = p.reached }

  pub advanced_is : IsOffsetsOf o.size (IsReached (Has steps) o) reached
  advanced_is = record {
    offsets = record {
      sound = λ v m. (let q = within.offsets.sound v m in record {
        hull = hull_weaken (IsSum o.offsets steps) (IsAdvanced (Has steps) o.offsets) advance_from_sum v (in_hull (IsSum o.offsets steps) sums hull v q.member);
        offset = q.offset;
      });
      complete = λ v p. within.offsets.complete v (record {
        member = from_hull (IsSum o.offsets steps) sums hull v (hull_weaken (IsAdvanced (Has steps) o.offsets) (IsSum o.offsets steps) sum_from_advance v p.hull);
        offset = p.offset;
      });
    };
    some = within.some;
    none = within.none;
  }

  pub stay_is : IsSubset sums reached.offsets ↔ ((v : ℤ) → IsAdvanced (Has steps) o.offsets v → IsOffset o.size v)
  stay_is = (
    λ h v p. (within.offsets.sound v (h.within v (hull.complete v (sum_from_advance v p)))).offset,
    λ h. hull.least reached.offsets (λ v p. within.offsets.complete v (record { member = hull.complete v p; offset = h v (advance_from_sum v p) })),
  )

-- nothing is reached from no offset
pub never_reached : (Step : ℤ → Type 0) (v : ℤ) → IsReached Step no_offset v → ⊥
never_reached Step v p = not_in_empty v (p.hull empty (λ w q. absurd (not_in_empty q.from q.in_offsets)))

pub none_stay : (Step : ℤ → Type 0) (v : ℤ) → IsAdvanced Step empty v → IsOffset 0 v
none_stay Step v p = absurd (not_in_empty p.from p.in_offsets)

-- what is reached in each object, and whether all stay there
abbrev pub Reaches : Progression → ℕ → OffsetSet → ℤ → Type 0
Reaches steps object = IsReached (Has steps)

abbrev pub Stay : Progression → ℕ → OffsetSet → Type 0
Stay steps object o = (v : ℤ) → IsAdvanced (Has steps) o.offsets v → IsOffset o.size v
