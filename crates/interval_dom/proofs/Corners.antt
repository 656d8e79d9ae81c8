-- Numbers between two numbers, and between four.
use Rattle.std.proofs.Common.{◌≡◌, ℤ, ◌≤ℤ◌, arith, ap, ◌∙◌}
use Rattle.std.proofs.lemmas.Int.{ints, clamps}
use Rattle.std.specs.Int.{int_min, int_max}
use Rattle.interval_dom.specs.Interval.{Span, InInterval, IsOrdered, IsWithin}
use Rattle.interval_dom.specs.Rows.{least, greatest, spanned}

pub ≤ℤ_trans : {a b c : ℤ} → a ≤ℤ b → b ≤ℤ c → a ≤ℤ c
≤ℤ_trans h k = omega (arith, ints)

pub ≤ℤ_refl : (a : ℤ) → a ≤ℤ a
≤ℤ_refl a = omega (arith, ints)

pub min_l : (p q : ℤ) → int_min p q ≤ℤ p
min_l p q = omega (arith, ints, clamps)

pub min_r : (p q : ℤ) → int_min p q ≤ℤ q
min_r p q = omega (arith, ints, clamps)

pub max_l : (p q : ℤ) → p ≤ℤ int_max p q
max_l p q = omega (arith, ints, clamps)

pub max_r : (p q : ℤ) → q ≤ℤ int_max p q
max_r p q = omega (arith, ints, clamps)

pub min_in : (z p q : ℤ) → z ≤ℤ p → z ≤ℤ q → z ≤ℤ int_min p q
min_in z p q h k = omega (arith, ints, clamps)

pub max_in : (z p q : ℤ) → p ≤ℤ z → q ≤ℤ z → int_max p q ≤ℤ z
max_in z p q h k = omega (arith, ints, clamps)

abbrev pub span_from : ℤ → ℤ → Span
span_from l h = record { lo = l; hi = h }

pub same_span : {p q : Span} → p.lo ≡ q.lo → p.hi ≡ q.hi → p ≡ q
same_span {p} {q} e f = with_lo p.hi e ∙ with_hi q.lo f
  where
    with_lo : {l m : ℤ} (h : ℤ) → l ≡ m → span_from l h ≡ span_from m h
    with_lo h e = ap (λ (x : ℤ). span_from x h) e

    with_hi : {h k : ℤ} (l : ℤ) → h ≡ k → span_from l h ≡ span_from l k
    with_hi l e = ap (λ (x : ℤ). span_from l x) e

pub same_ends : {p q : Span} → IsWithin p q → IsWithin q p → p ≡ q
same_ends h k = same_span (omega (arith, ints, h.low, k.low)) (omega (arith, ints, h.high, k.high))

-- z lies between p and q, whichever is less
pub data Between (p q z : ℤ) : Type 0 where
  rising : p ≤ℤ z → z ≤ℤ q → Between p q z
  falling : q ≤ℤ z → z ≤ℤ p → Between p q z

above : (w p q z : ℤ) → w ≤ℤ p → w ≤ℤ q → Between p q z → w ≤ℤ z
above w p q z h k (rising a b) = ≤ℤ_trans h a
above w p q z h k (falling a b) = ≤ℤ_trans k a

below : (w p q z : ℤ) → p ≤ℤ w → q ≤ℤ w → Between p q z → z ≤ℤ w
below w p q z h k (rising a b) = ≤ℤ_trans b k
below w p q z h k (falling a b) = ≤ℤ_trans b h

-- z lies between u and v, which lie between p and q, and between r and s
pub in_spanned : (p q r s u v z : ℤ) → Between p q u → Between r s v → Between u v z → InInterval (spanned p q r s) z
unfolding least greatest
in_spanned p q r s u v z f g h = record {
  low = above _ u v z
      (above _ p q u (≤ℤ_trans (min_l (int_min p q) (int_min r s)) (min_l p q)) (≤ℤ_trans (min_l (int_min p q) (int_min r s)) (min_r p q)) f)
      (above _ r s v (≤ℤ_trans (min_r (int_min p q) (int_min r s)) (min_l r s)) (≤ℤ_trans (min_r (int_min p q) (int_min r s)) (min_r r s)) g) h;
  high = below _ u v z
      (below _ p q u (≤ℤ_trans (max_l p q) (max_l (int_max p q) (int_max r s))) (≤ℤ_trans (max_r p q) (max_l (int_max p q) (int_max r s))) f)
      (below _ r s v (≤ℤ_trans (max_l r s) (max_r (int_max p q) (int_max r s))) (≤ℤ_trans (max_r r s) (max_r (int_max p q) (int_max r s))) g) h;
}

-- an interval that holds the four numbers holds all that they span
pub spanned_within : (p q r s : ℤ) (i : Span) → InInterval i p → InInterval i q → InInterval i r → InInterval i s → IsWithin (spanned p q r s) i
unfolding least greatest
spanned_within p q r s i hp hq hr hs = record {
  low = min_in i.lo _ _ (min_in i.lo p q hp.low hq.low) (min_in i.lo r s hr.low hs.low);
  high = max_in i.hi _ _ (max_in i.hi p q hp.high hq.high) (max_in i.hi r s hr.high hs.high);
}

pub spanned_ordered : (p q r s : ℤ) → IsOrdered (spanned p q r s)
unfolding least greatest
spanned_ordered p q r s = ≤ℤ_trans (≤ℤ_trans (min_l (int_min p q) (int_min r s)) (min_l p q)) (≤ℤ_trans (max_l p q) (max_l (int_max p q) (int_max r s)))

-- the ends of an interval, and of what lies within it
pub holds_lo : {a c : Span} → IsOrdered a → IsWithin a c → InInterval c a.lo
holds_lo o w = record { low = w.low; high = ≤ℤ_trans o w.high }

pub holds_hi : {a c : Span} → IsOrdered a → IsWithin a c → InInterval c a.hi
holds_hi o w = record { low = ≤ℤ_trans w.low o; high = w.high }
