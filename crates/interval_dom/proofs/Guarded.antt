-- The rows of `&`, `|` and `^`, which stand under guards.
use Rattle.std.proofs.Common.{◌≡◌, ℕ, ◌-◌, ◌^◌, ◌<◌, ◌≤◌, ℤ, pos, ◌≤ℤ◌, Bool, true, false, ◌&&◌, ◌||◌, arith, refl, sym, ap, subst, ◌∙◌}
use Rattle.std.specs.Prelude.{Option, Some, IfSome, IsSome, is_some, int_le, unsigned_abs}
use Rattle.std.specs.Int.{int_max}
use Rattle.std.proofs.lemmas.Int.{ints}
use Rattle.std.proofs.Math.Nat.{pow-le-pow_right}
use Rattle.interval_dom.specs.Bitwise.{bit_length, int_and, int_or, int_xor}
use Rattle.interval_dom.specs.Interval.{Span, InInterval, IsOrdered, IsWithin}
use Rattle.interval_dom.specs.Laws.{GrowsIfAny, HoldsIfAny, StandsWhere, none_negative, one_not_negative}
use Rattle.interval_dom.specs.Rows.{meet, meet_rows, row_if, and_row, or_row, xor_row, exact_row, from_zero_to, has_one, is_not_negative, ones_over, only}
use Rattle.interval_dom.proofs.Bits.{and_between, int_and_comm, or_between, xor_between}
use Rattle.interval_dom.proofs.Corners.{span_from, ≤ℤ_trans, max_in, max_l, max_r}
use Rattle.interval_dom.proofs.Lengths.{below_length, length_grows}
use Rattle.interval_dom.proofs.Meets.{meet_only, in_meet, in_row_if, meet_grows, row_if_grows}

pub both_true : (p q : Bool) → (p && q) ≡ true → (p ≡ true) × (q ≡ true)
both_true true q e = (refl, e)
both_true false q e = cc

true_both : (p q : Bool) → p ≡ true → q ≡ true → (p && q) ≡ true
true_both true q e f = f
true_both false q e f = cc

pub is_le : (p q : ℤ) → int_le p q ≡ true → p ≤ℤ q
is_le p q e = omega (arith, ints)

le_is : (p q : ℤ) → p ≤ℤ q → int_le p q ≡ true
le_is p q h = sym (omega (arith, ints))

-- ---- the exact value

one_of : (a : Span) (x : ℤ) → has_one a ≡ true → InInterval a x → x ≡ a.lo
one_of a x e h = let k = is_le a.hi a.lo e in omega (arith, ints, h.low, h.high)

in_only : (v z : ℤ) → z ≡ v → InInterval (only v) z
in_only v z e = record { low = omega (arith, ints); high = omega (arith, ints) }

same_results : (op : ℤ → ℤ → ℤ) (x y v w : ℤ) → x ≡ v → y ≡ w → op x y ≡ op v w
same_results op x y v w e f = cc

exact_holds : (op : ℤ → ℤ → ℤ) → HoldsIfAny (exact_row op) op
exact_holds op a b x y h k = in_row_if (has_one a && has_one b) _ _ (λ e.
    let t = both_true (has_one a) (has_one b) e in
    in_only _ _ (same_results op _ _ _ _ (one_of a x t.0 h) (one_of b y t.1 k)))

one_within : (a c : Span) → IsOrdered a → IsWithin a c → has_one c ≡ true → (has_one a ≡ true) × (a.lo ≡ c.lo)
one_within a c o h e =
    let k = is_le c.hi c.lo e in
    (le_is a.hi a.lo (omega (arith, ints, h.low, h.high)), omega (arith, ints, h.low, h.high))

only_within : (v w : ℤ) → v ≡ w → IsWithin (only v) (only w)
only_within v w e = record { low = omega (arith, ints); high = omega (arith, ints) }

exact_grows : (op : ℤ → ℤ → ℤ) → GrowsIfAny (exact_row op)
exact_grows op a b c d o p h k = row_if_grows _ _ _ _ (λ e.
    let t = both_true (has_one c) (has_one d) e in
    let u = one_within a c o h t.0 in
    let v = one_within b d p k t.1 in
    (true_both _ _ u.0 v.0, only_within _ _ (same_results op _ _ _ _ u.1 v.1)))

-- ---- `&`

not_negative_within : (a c : Span) → IsWithin a c → is_not_negative c ≡ true → is_not_negative a ≡ true
not_negative_within a c h e = le_is (pos 0) a.lo (≤ℤ_trans (is_le (pos 0) c.lo e) h.low)

from_zero_within : (a c : Span) → IsWithin a c → IsWithin (from_zero_to a.hi) (from_zero_to c.hi)
from_zero_within a c h = record { low = omega (arith, ints); high = h.high }

in_from_zero : (hi z : ℤ) → (pos 0 ≤ℤ z) × (z ≤ℤ hi) → InInterval (from_zero_to hi) z
in_from_zero hi z h = record { low = h.0; high = h.1 }

and_left : (a : Span) (x y : ℤ) → InInterval a x → is_not_negative a ≡ true → InInterval (from_zero_to a.hi) (int_and x y)
and_left a x y h e =
    let t = and_between x y (≤ℤ_trans (is_le (pos 0) a.lo e) h.low) in
    in_from_zero _ _ (t.0, ≤ℤ_trans t.1 h.high)

and_right : (b : Span) (x y : ℤ) → InInterval b y → is_not_negative b ≡ true → InInterval (from_zero_to b.hi) (int_and x y)
and_right b x y k e = subst (λ (z : ℤ). InInterval (from_zero_to b.hi) z) (int_and_comm y x) (and_left b y x k e)

pub and_holds : HoldsIfAny and_row int_and
and_holds a b x y h k =
    in_meet _ _ _ (in_row_if (is_not_negative a) _ _ (and_left a x y h))
    (in_meet _ _ _ (in_row_if (is_not_negative b) _ _ (and_right b x y k)) (exact_holds int_and a b x y h k))

pub and_grows : GrowsIfAny and_row
and_grows a b c d o p h k =
    meet_grows _ _ _ _ (row_if_grows _ _ _ _ (λ e. (not_negative_within a c h e, from_zero_within a c h)))
    (meet_grows _ _ _ _ (row_if_grows _ _ _ _ (λ e. (not_negative_within b d k e, from_zero_within b d k))) (exact_grows int_and a b c d o p h k))

-- ---- `|` and `^`

size_of_max : (p q x : ℤ) → pos 0 ≤ℤ x → x ≤ℤ int_max p q → unsigned_abs x ≤ unsigned_abs (int_max p q)
size_of_max p q x h k = size_le x (int_max p q) h k
  where
    size_le : (x t : ℤ) → pos 0 ≤ℤ x → x ≤ℤ t → unsigned_abs x ≤ unsigned_abs t
    size_le x t h k = omega (arith, ints)

digits_of_left : (a b : Span) (x : ℤ) → pos 0 ≤ℤ x → x ≤ℤ a.hi → unsigned_abs x < 2 ^ bit_length (unsigned_abs (int_max a.hi b.hi))
digits_of_left a b x h k = omega (arith, size_of_max a.hi b.hi x h (≤ℤ_trans k (max_l a.hi b.hi)), below_length (unsigned_abs (int_max a.hi b.hi)))

digits_of_right : (a b : Span) (y : ℤ) → pos 0 ≤ℤ y → y ≤ℤ b.hi → unsigned_abs y < 2 ^ bit_length (unsigned_abs (int_max a.hi b.hi))
digits_of_right a b y h k = omega (arith, size_of_max a.hi b.hi y h (≤ℤ_trans k (max_r a.hi b.hi)), below_length (unsigned_abs (int_max a.hi b.hi)))

not_negative_of : (a : Span) (x : ℤ) → is_not_negative a ≡ true → InInterval a x → pos 0 ≤ℤ x
not_negative_of a x e h = ≤ℤ_trans (is_le (pos 0) a.lo e) h.low

or_guarded : (a b : Span) (x y : ℤ) → InInterval a x → InInterval b y
    → IfSome (row_if (is_not_negative a && is_not_negative b) (span_from (int_max a.lo b.lo) (ones_over a b))) (λ r. InInterval r (int_or x y))
or_guarded a b x y h k = in_row_if (is_not_negative a && is_not_negative b) _ _ (λ e.
    let t = both_true (is_not_negative a) (is_not_negative b) e in
    let s = not_negative_of a x t.0 h in
    let r = not_negative_of b y t.1 k in
    let u = or_between x y _ s r (digits_of_left a b x s h.high) (digits_of_right a b y r k.high) in
    record { low = max_in _ _ _ (≤ℤ_trans h.low u.0) (≤ℤ_trans k.low u.1); high = u.2 })

xor_guarded : (a b : Span) (x y : ℤ) → InInterval a x → InInterval b y
    → IfSome (row_if (is_not_negative a && is_not_negative b) (from_zero_to (ones_over a b))) (λ r. InInterval r (int_xor x y))
xor_guarded a b x y h k = in_row_if (is_not_negative a && is_not_negative b) _ _ (λ e.
    let t = both_true (is_not_negative a) (is_not_negative b) e in
    let s = not_negative_of a x t.0 h in
    let r = not_negative_of b y t.1 k in
    in_from_zero _ _ (xor_between x y _ s r (digits_of_left a b x s h.high) (digits_of_right a b y r k.high)))

exactly : (t : Bool) (p : Option Span) (v : ℤ) (r : Span) → t ≡ true → r ≡ only v → IfSome p (λ q. InInterval q v) → meet_rows p (row_if t (only v)) ≡ Some r
exactly true p v r e f h = meet_only p v h ∙ ap Some (sym f)
exactly false p v r e f h = cc

pub or_holds : HoldsIfAny or_row int_or
or_holds a b x y h k = in_meet _ _ _ (or_guarded a b x y h k) (exact_holds int_or a b x y h k)

pub xor_holds : HoldsIfAny xor_row int_xor
xor_holds a b x y h k = in_meet _ _ _ (xor_guarded a b x y h k) (exact_holds int_xor a b x y h k)

max_grows : (p q r s : ℤ) → p ≤ℤ r → q ≤ℤ s → int_max p q ≤ℤ int_max r s
max_grows p q r s h k = max_in _ _ _ (≤ℤ_trans h (max_l r s)) (≤ℤ_trans k (max_r r s))

ones_grow : (m n : ℕ) → m ≤ n → pos (2 ^ bit_length m - 1) ≤ℤ pos (2 ^ bit_length n - 1)
ones_grow m n h =
    let k : 2 ^ bit_length m ≤ 2 ^ bit_length n = pow-le-pow_right (omega arith) (length_grows m n h) in
    omega (arith, ints)

ones_over_grows : (a b c d : Span) → pos 0 ≤ℤ a.hi → IsWithin a c → IsWithin b d → ones_over a b ≤ℤ ones_over c d
ones_over_grows a b c d z h k = ones_grow _ _ (size_of_max c.hi d.hi (int_max a.hi b.hi) (≤ℤ_trans z (max_l a.hi b.hi)) (max_grows _ _ _ _ h.high k.high))

pub or_grows : GrowsIfAny or_row
or_grows a b c d o p h k = meet_grows _ _ _ _
    (row_if_grows _ _ _ _ (λ e.
    let t = both_true (is_not_negative c) (is_not_negative d) e in
    let s = not_negative_within a c h t.0 in (
      true_both _ _ s (not_negative_within b d k t.1),
      record { low = max_grows _ _ _ _ h.low k.low; high = ones_over_grows a b c d (≤ℤ_trans (is_le (pos 0) a.lo s) o) h k },
    )))
    (exact_grows int_or a b c d o p h k)

pub xor_grows : GrowsIfAny xor_row
xor_grows a b c d o p h k = meet_grows _ _ _ _
    (row_if_grows _ _ _ _ (λ e.
    let t = both_true (is_not_negative c) (is_not_negative d) e in
    let s = not_negative_within a c h t.0 in (
      true_both _ _ s (not_negative_within b d k t.1),
      record { low = omega (arith, ints); high = ones_over_grows a b c d (≤ℤ_trans (is_le (pos 0) a.lo s) o) h k },
    )))
    (exact_grows int_xor a b c d o p h k)

-- ---- what the code takes

at_lo : (a : Span) → IsOrdered a → InInterval a a.lo
at_lo a o = record { low = omega (arith, ints); high = o }

pub and_exact : (a b r : Span) → IsOrdered a → IsOrdered b → (has_one a && has_one b) ≡ true → r ≡ only (int_and a.lo b.lo) → and_row a b ≡ Some r
and_exact a b r o p e f =
    ap (λ (t : Bool). meet_rows (row_if (is_not_negative a) (from_zero_to a.hi)) (meet_rows (row_if (is_not_negative b) (from_zero_to b.hi)) (row_if t (only (int_and a.lo b.lo))))) e
    ∙ ap (λ (t : Option Span). meet_rows (row_if (is_not_negative a) (from_zero_to a.hi)) t)
    (meet_only (row_if (is_not_negative b) (from_zero_to b.hi)) _ (in_row_if (is_not_negative b) _ _ (and_right b a.lo b.lo (at_lo b p))))
    ∙ meet_only (row_if (is_not_negative a) (from_zero_to a.hi)) _ (in_row_if (is_not_negative a) _ _ (and_left a a.lo b.lo (at_lo a o)))
    ∙ ap Some (sym f)

pub and_left_alone : (p q t : Bool) (x y z r : Span) → p ≡ true → q ≡ false → t ≡ false → r ≡ x → meet_rows (row_if p x) (meet_rows (row_if q y) (row_if t z)) ≡ Some r
and_left_alone true false false x y z r e f g h = ap Some (sym h)
and_left_alone false q t x y z r e f g h = cc
and_left_alone true true t x y z r e f g h = cc
and_left_alone true false true x y z r e f g h = cc

pub and_right_alone : (p q t : Bool) (x y z r : Span) → p ≡ false → q ≡ true → t ≡ false → r ≡ y → meet_rows (row_if p x) (meet_rows (row_if q y) (row_if t z)) ≡ Some r
and_right_alone false true false x y z r e f g h = ap Some (sym h)
and_right_alone true q t x y z r e f g h = cc
and_right_alone false false t x y z r e f g h = cc
and_right_alone false true true x y z r e f g h = cc

pub and_both : (p q t : Bool) (x y z r : Span) → p ≡ true → q ≡ true → t ≡ false → r ≡ meet x y → meet_rows (row_if p x) (meet_rows (row_if q y) (row_if t z)) ≡ Some r
and_both true true false x y z r e f g h = ap Some (sym h)
and_both false q t x y z r e f g h = cc
and_both true false t x y z r e f g h = cc
and_both true true true x y z r e f g h = cc

-- some guard holds, and not the others
pub right_guard : (p q t : Bool) (x y z : Span) → IsSome (meet_rows (row_if p x) (meet_rows (row_if q y) (row_if t z))) → p ≡ false → t ≡ false → q ≡ true
right_guard p true t x y z s e f = refl
right_guard true false t x y z s e f = cc
right_guard false false true x y z s e f = cc
right_guard false false false x y z s e f = cc

pub only_guard : (p t : Bool) (x z : Span) → IsSome (meet_rows (row_if p x) (row_if t z)) → t ≡ false → p ≡ true
only_guard true t x z s f = refl
only_guard false true x z s f = cc
only_guard false false x z s f = cc

pub left_row : (p t : Bool) (x z r : Span) → p ≡ true → t ≡ false → r ≡ x → meet_rows (row_if p x) (row_if t z) ≡ Some r
left_row true false x z r e f h = ap Some (sym h)
left_row false t x z r e f h = cc
left_row true true x z r e f h = cc

pub or_exact : (a b r : Span) → IsOrdered a → IsOrdered b → (has_one a && has_one b) ≡ true → r ≡ only (int_or a.lo b.lo) → or_row a b ≡ Some r
or_exact a b r o p e f = exactly (has_one a && has_one b) _ _ r e f (or_guarded a b a.lo b.lo (at_lo a o) (at_lo b p))

pub xor_exact : (a b r : Span) → IsOrdered a → IsOrdered b → (has_one a && has_one b) ≡ true → r ≡ only (int_xor a.lo b.lo) → xor_row a b ≡ Some r
xor_exact a b r o p e f = exactly (has_one a && has_one b) _ _ r e f (xor_guarded a b a.lo b.lo (at_lo a o) (at_lo b p))

-- each operand's least number is not below 0
pub lows_of : (a b : Span) → (is_not_negative a && is_not_negative b) ≡ true → (pos 0 ≤ℤ a.lo) × (pos 0 ≤ℤ b.lo)
lows_of a b e = let t = both_true (is_not_negative a) (is_not_negative b) e in (is_le (pos 0) a.lo t.0, is_le (pos 0) b.lo t.1)

pub lows_below_ones : (a b : Span) → IsOrdered a → IsOrdered b → (pos 0 ≤ℤ a.lo) × (pos 0 ≤ℤ b.lo) → int_max a.lo b.lo ≤ℤ ones_over a b
lows_below_ones a b o p s =
    let u = or_between a.lo b.lo _ s.0 s.1 (digits_of_left a b a.lo s.0 o) (digits_of_right a b b.lo s.1 p) in
    max_in _ _ _ (≤ℤ_trans u.0 u.2) (≤ℤ_trans u.1 u.2)

-- ---- where the rows stand

some_of_two : (p t : Bool) (x z : Span) → is_some (meet_rows (row_if p x) (row_if t z)) ≡ (p || t)
some_of_two true true x z = refl
some_of_two true false x z = refl
some_of_two false true x z = refl
some_of_two false false x z = refl

some_of_three : (p q t : Bool) (x y z : Span) → is_some (meet_rows (row_if p x) (meet_rows (row_if q y) (row_if t z))) ≡ (p || (q || t))
some_of_three true true true x y z = refl
some_of_three true true false x y z = refl
some_of_three true false true x y z = refl
some_of_three true false false x y z = refl
some_of_three false q t x y z = some_of_two q t y z

pub and_stands : StandsWhere and_row one_not_negative
and_stands a b = some_of_three (is_not_negative a) (is_not_negative b) (has_one a && has_one b) (from_zero_to a.hi) (from_zero_to b.hi) (only (int_and a.lo b.lo))

pub or_stands : StandsWhere or_row none_negative
or_stands a b = some_of_two (is_not_negative a && is_not_negative b) (has_one a && has_one b) (span_from (int_max a.lo b.lo) (ones_over a b)) (only (int_or a.lo b.lo))

pub xor_stands : StandsWhere xor_row none_negative
xor_stands a b = some_of_two (is_not_negative a && is_not_negative b) (has_one a && has_one b) (from_zero_to (ones_over a b)) (only (int_xor a.lo b.lo))
