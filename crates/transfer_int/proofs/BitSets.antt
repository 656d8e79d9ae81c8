-- The sets that `&`, `|` and `^` give.
use Rattle.std.proofs.Common.{◌≡◌, ◌⊎◌, inl, inr, ⊎_elim, ℕ, ◌+◌, ◌-◌, ◌*◌, ◌^◌, ◌<◌, ◌≤◌, ℤ, pos, negsuc, ◌+ℤ◌, ◌≤ℤ◌, true, false, ◌&&◌, ◌||◌, refl, sym, ap, ◌∙◌, subst, arith, bit_and, bit_or, bit_xor}
use Rattle.std.specs.Prelude as P
use Rattle.std.specs.Prelude.{Option, Some, IsSome, Result, Ok, Err, int_le, unsigned_abs}
use Rattle.std.specs.Int.{int_max}
use Rattle.std.proofs.lemmas.Int.{ints, clamps}
use Rattle.std.proofs.lemmas.Nat.{pow_pos}
use Rattle.std.proofs.Math.Nat.{pow-le-pow_right}
use Rattle.strided_dom.specs.Progression.{Progression, empty, single, row, Has, IsExactly, IsInReach, first_of, last_of}
use Rattle.strided_dom.proofs.Members.{has_last, first_le_last}
use Rattle.interval_dom.specs.Bitwise.{bit_length}
use Rattle.interval_dom.specs.Interval.{Span, InInterval}
use Rattle.interval_dom.specs.Rows.{meet_rows, row_if, and_row, or_row, xor_row, from_zero_to, has_one, is_not_negative, ones_over}
use Rattle.interval_dom.proofs.Guarded.{both_true, is_le, and_stands, or_stands, xor_stands}
use Rattle.interval_dom.proofs.Lengths.{length_least}
use Rattle.tm_cint.specs.IntTypes.{IsIn, precision_of, hi_of}
use Rattle.tm_cint.specs.Operators.{outcome, bitwise, result_type, IsRightOperand}
use Rattle.tm_cint.proofs.Values.{outcome-in}
use Rattle.tm_cint.specs.declared.Class.{Class}
use Rattle.tm_cint.specs.declared.int_types.IntType.{IntType}
use Rattle.tm_cint.specs.declared.operators.BinOp.{BinOp}
use Rattle.tm_cint.specs.declared.operators.BinOp.TheVariants.{And, Or, Xor}
use Rattle.transfer_int.specs.Operands.{AreValues, span_of_set}
use Rattle.transfer_int.specs.Rows.{InBits, InAnd, InOr}
use Rattle.transfer_int.specs.Values.{IsFitted, IsValue}
use Rattle.transfer_int.proofs.Holding.{value_holds}
use Rattle.transfer_int.proofs.Inside.{fits_inside, fitted_inside}
use Rattle.transfer_int.proofs.Placing.{ends_of}

pub le_is : (p q : ℤ) → p ≤ℤ q → int_le p q ≡ true
le_is p q h = sym (omega (arith, ints))

-- a set of one number
pub one_member : (a : Progression) → Has a (first_of a) → has_one (span_of_set a) ≡ true → a ≡ single (first_of a)
unfolding Has first_of last_of
one_member empty h e = absurd h
one_member (single w) h e = refl
one_member (row first gap more) h e = absurd (let l = is_le (first +ℤ pos ((more + 1) * (gap + 1))) first e in omega (arith, ints, l))

has_one_same : (x : ℤ) → has_one (span_of_set (single x)) ≡ true
unfolding first_of last_of
has_one_same x = le_is x x (omega (arith, ints))

single_has_one : (a : Progression) (x : ℤ) → a ≡ single x → has_one (span_of_set a) ≡ true
single_has_one a x e = subst (λ s. has_one (span_of_set s) ≡ true) (sym e) (has_one_same x)

pub true_both : (p q : P.Bool) → p ≡ true → q ≡ true → (p && q) ≡ true
true_both true q e f = f
true_both false q e f = cc

-- ---- of two single numbers

module _ (f : ℕ → ℕ → ℕ) (t : IntType) (a b s : Progression) (R : ℤ → Type 0) (bits : (v : ℤ) → R v → InBits f t a b v) where
  pub exactly_one : (z : ℤ) → Has a (first_of a) → Has b (first_of b) → (has_one (span_of_set a) && has_one (span_of_set b)) ≡ true
      → z ≡ bitwise f t (first_of a) (first_of b) → IsFitted t R z → s ≡ single z → IsExactly (IsFitted t R) s
  unfolding Has
  exactly_one z p q ones is holds e = record {
    sound = λ v h. (let g : v ≡ z = subst (λ x. Has x v) e h in subst (λ x. IsFitted t R x) (sym g) holds);
    complete = λ v h.
        (let i = bits v (fits_inside t R v (λ r k. (bits r k).in_type) h) in
        let o = both_true (has_one (span_of_set a)) (has_one (span_of_set b)) ones in
        let g : v ≡ z = i.exact (first_of a) (first_of b) (one_member a p o.0) (one_member b q o.1) ∙ sym is in
        subst (λ x. Has x v) (sym e) g);
  }

-- ---- what the rows hold

neither : (p q : P.Bool) → (p || q) ≡ false → (p ≡ false) × (q ≡ false)
neither false q e = (refl, e)
neither true q e = cc

-- v is between 0 and the greatest number of each set without a negative one, of which there is one
record IsUnderBoth (p q : P.Bool) (g h v : ℤ) : Type 0 where
  left : p ≡ true → (pos 0 ≤ℤ v) × (v ≤ℤ g)
  right : q ≡ true → (pos 0 ≤ℤ v) × (v ≤ℤ h)
  some : (p ≡ true) ⊎ (q ≡ true)

abbrev some_span : Span → Option Span
some_span p = Some p

same_row : (p q : Span) → some_span p ≡ some_span q → p ≡ q
same_row p q e = cc

same_ends : (p q : Span) → some_span p ≡ some_span q → (p.lo ≡ q.lo) × (p.hi ≡ q.hi)
same_ends p q e = let f = same_row p q e in (ap (λ (s : Span). s.lo) f, ap (λ (s : Span). s.hi) f)

in_and_row : (p q u : P.Bool) (g h : ℤ) (z r : Span) → u ≡ false → meet_rows (row_if p (from_zero_to g)) (meet_rows (row_if q (from_zero_to h)) (row_if u z)) ≡ Some r → (v : ℤ)
    → (InInterval r v → IsUnderBoth p q g h v) × ((p ≡ true → (pos 0 ≤ℤ v) × (v ≤ℤ g)) → (q ≡ true → (pos 0 ≤ℤ v) × (v ≤ℤ h)) → InInterval r v)
in_and_row true true false g h z r f e v =
    let k = same_ends _ r e in (
      λ i. record {
        left = λ t. (omega (arith, ints, clamps, i.low, k.0), omega (arith, ints, clamps, i.high, k.1));
        right = λ t. (omega (arith, ints, clamps, i.low, k.0), omega (arith, ints, clamps, i.high, k.1));
        some = inl refl;
      },
      λ m n. record { low = omega (arith, ints, clamps, (m refl).0, k.0); high = omega (arith, ints, clamps, (m refl).1, (n refl).1, k.1) },
    )
in_and_row true false false g h z r f e v =
    let k = same_ends _ r e in (
      λ i. record { left = λ t. (omega (arith, ints, i.low, k.0), omega (arith, ints, i.high, k.1)); right = λ t. absurd cc; some = inl refl },
      λ m n. record { low = omega (arith, ints, (m refl).0, k.0); high = omega (arith, ints, (m refl).1, k.1) },
    )
in_and_row false true false g h z r f e v =
    let k = same_ends _ r e in (
      λ i. record { left = λ t. absurd cc; right = λ t. (omega (arith, ints, i.low, k.0), omega (arith, ints, i.high, k.1)); some = inr refl },
      λ m n. record { low = omega (arith, ints, (n refl).0, k.0); high = omega (arith, ints, (n refl).1, k.1) },
    )
in_and_row false false false g h z r f e v = absurd cc
in_and_row p q true g h z r f e v = absurd cc

alone : (p u : P.Bool) (x z r : Span) → u ≡ false → meet_rows (row_if p x) (row_if u z) ≡ Some r → (p ≡ true) × (x ≡ r)
alone true false x z r f e = (refl, same_row x r e)
alone false false x z r f e = cc
alone p true x z r f e = cc

-- 2^k - 1 is in the type, where the greatest numbers are
ones_within : (t : IntType) (g h : ℤ) → pos 0 ≤ℤ g → IsIn t g → IsIn t h → pos (2 ^ bit_length (unsigned_abs (int_max g h)) - 1) ≤ℤ hi_of t
ones_within t g h n i j =
    let below : unsigned_abs (int_max g h) < 2 ^ precision_of t = below_precision (int_max g h) (omega (arith, ints, clamps, n)) (omega (arith, ints, clamps, i.at_most, j.at_most)) in
    let k : 2 ^ bit_length (unsigned_abs (int_max g h)) ≤ 2 ^ precision_of t = pow-le-pow_right (omega arith) (length_least _ _ below) in
    omega (arith, ints, k)
  where
    below_precision : (z : ℤ) → pos 0 ≤ℤ z → z ≤ℤ hi_of t → unsigned_abs z < 2 ^ precision_of t
    below_precision (pos m) l k = omega (arith, ints, k, pow_pos (precision_of t))
    below_precision (negsuc m) l k = absurd (omega (arith, ints, l))

-- ---- else

module _ (t : IntType) (a b : Progression) (p : Has a (first_of a)) (q : Has b (first_of b)) (many : (has_one (span_of_set a) && has_one (span_of_set b)) ≡ false) where
  bits_in : (f : ℕ → ℕ → ℕ) (v : ℤ) → IsIn t v → InBits f t a b v
  bits_in f v h = record {
    left = p;
    right = q;
    in_type = h;
    exact = λ x y e k. absurd (let m = true_both _ _ (single_has_one a x e) (single_has_one b y k) in let n = many in cc);
  }

  -- `&` where each set has a negative number
  pub and_anything : (v : ℤ) → (is_not_negative (span_of_set a) || is_not_negative (span_of_set b)) ≡ false → IsIn t v → InAnd t a b v
  and_anything v n h =
      let m = neither (is_not_negative (span_of_set a)) (is_not_negative (span_of_set b)) n in
      record {
        bits = bits_in bit_and v h;
        under_left = λ l. absurd (let e = le_is (pos 0) (first_of a) l in let g = m.0 in cc);
        under_right = λ l. absurd (let e = le_is (pos 0) (first_of b) l in let g = m.1 in cc);
      }

  -- and where one has none
  pub and_is : (r : Span) → AreValues t a → AreValues t b → and_row (span_of_set a) (span_of_set b) ≡ Some r → (v : ℤ) → (InInterval r v → InAnd t a b v) × (InAnd t a b v → InInterval r v)
  and_is r va vb e v =
      let k = in_and_row (is_not_negative (span_of_set a)) (is_not_negative (span_of_set b)) _ (last_of a) (last_of b) _ r many e v in (
        λ h.
            (let u = k.0 h in record {
              bits = bits_in bit_and v (in_type u);
              under_left = λ l. u.left (le_is (pos 0) (first_of a) l);
              under_right = λ l. u.right (le_is (pos 0) (first_of b) l);
            }),
        λ h. k.1 (λ l. h.under_left (is_le (pos 0) (first_of a) l)) (λ l. h.under_right (is_le (pos 0) (first_of b) l)),
      )
    where
      in_type : IsUnderBoth (is_not_negative (span_of_set a)) (is_not_negative (span_of_set b)) (last_of a) (last_of b) v → IsIn t v
      in_type u =
          ⊎_elim
          (λ g. (let w = u.left g in record { at_least = omega (arith, ints, w.0, ends_of t); at_most = omega (arith, ints, w.1, (va.all (last_of a) (has_last a p)).at_most) }))
          (λ g. (let w = u.right g in record { at_least = omega (arith, ints, w.0, ends_of t); at_most = omega (arith, ints, w.1, (vb.all (last_of b) (has_last b q)).at_most) }))
          u.some

  -- `|` and `^` where a set has a negative number
  pub or_anything : (f : ℕ → ℕ → ℕ) (low v : ℤ) → (is_not_negative (span_of_set a) && is_not_negative (span_of_set b)) ≡ false → IsIn t v → InOr f low t a b v
  or_anything f low v n h = record {
    bits = bits_in f v h;
    spread = λ l m. absurd (let e = true_both _ _ (le_is (pos 0) (first_of a) l) (le_is (pos 0) (first_of b) m) in let g = n in cc);
  }

  -- and where none has one
  pub or_is : (f : ℕ → ℕ → ℕ) (low : ℤ) (r : Span) (z : Span) → AreValues t a → AreValues t b → pos 0 ≤ℤ low
      → meet_rows (row_if (is_not_negative (span_of_set a) && is_not_negative (span_of_set b)) (record { lo = low; hi = ones_over (span_of_set a) (span_of_set b) }))
      (row_if (has_one (span_of_set a) && has_one (span_of_set b)) z)
      ≡ Some r
      → (v : ℤ) → (InInterval r v → InOr f low t a b v) × (InOr f low t a b v → InInterval r v)
  or_is f low r z va vb natural e v =
      let k = alone (is_not_negative (span_of_set a) && is_not_negative (span_of_set b)) _ _ z r many e in
      let n = both_true (is_not_negative (span_of_set a)) (is_not_negative (span_of_set b)) k.0 in (
        λ h.
            (let from : low ≤ℤ v = omega (arith, ints, h.low, ap (λ (s : Span). s.lo) k.1) in
            let to : v ≤ℤ ones_over (span_of_set a) (span_of_set b) = omega (arith, ints, h.high, ap (λ (s : Span). s.hi) k.1) in
            record { bits = bits_in f v (in_type from to); spread = λ l m. (from, to) }),
        λ h.
            (let u = h.spread (is_le (pos 0) (first_of a) n.0) (is_le (pos 0) (first_of b) n.1) in
            subst (λ s. InInterval s v) k.1 (record { low = u.0; high = u.1 })),
      )
    where
      last_natural : pos 0 ≤ℤ last_of a
      last_natural =
          let k = alone (is_not_negative (span_of_set a) && is_not_negative (span_of_set b)) _ _ z r many e in
          let n : (is_not_negative (span_of_set a) ≡ true) × (is_not_negative (span_of_set b) ≡ true) = both_true _ _ k.0 in
          omega (arith, ints, is_le (pos 0) (first_of a) n.0, first_le_last a)

      in_type : low ≤ℤ v → v ≤ℤ ones_over (span_of_set a) (span_of_set b) → IsIn t v
      in_type from to =
          let c = ones_within t (last_of a) (last_of b) last_natural (va.all (last_of a) (has_last a p)) (vb.all (last_of b) (has_last b q)) in
          record { at_least = omega (arith, ints, from, natural, ends_of t); at_most = omega (arith, ints, to, c) }

-- ---- the three operators

module _ (t : IntType) (a b : Progression) (va : AreValues t a) (p : Has a (first_of a)) (q : Has b (first_of b)) where
  module _ (vb : AreValues t b) where
    pub and_of_ones : (s : Progression) → (has_one (span_of_set a) && has_one (span_of_set b)) ≡ true → s ≡ single (bitwise bit_and t (first_of a) (first_of b)) → IsExactly (IsValue And t a b) s
    and_of_ones s o e =
        exactly_one bit_and t a b s (InAnd t a b) (λ v h. h.bits) _ p q o refl (value_holds And t a b _ _ _ (va.all _ p) (vb.all _ q) p q refl) e

    pub or_of_ones : (s : Progression) → (has_one (span_of_set a) && has_one (span_of_set b)) ≡ true → s ≡ single (bitwise bit_or t (first_of a) (first_of b)) → IsExactly (IsValue Or t a b) s
    or_of_ones s o e =
        exactly_one bit_or t a b s _ (λ v h. h.bits) _ p q o refl (value_holds Or t a b _ _ _ (va.all _ p) (vb.all _ q) p q refl) e

    pub xor_of_ones : (s : Progression) → (has_one (span_of_set a) && has_one (span_of_set b)) ≡ true → s ≡ single (bitwise bit_xor t (first_of a) (first_of b)) → IsExactly (IsValue Xor t a b) s
    xor_of_ones s o e =
        exactly_one bit_xor t a b s _ (λ v h. h.bits) _ p q o refl (value_holds Xor t a b _ _ _ (va.all _ p) (vb.all _ q) p q refl) e

-- R is a property of the type's values that the set has
pub of_rows : (t : IntType) (P R : ℤ → Type 0) (s : Progression) → ((v : ℤ) → (P v → R v) × (R v → P v)) → ((v : ℤ) → R v → IsIn t v) → IsExactly P s → IsExactly (IsFitted t R) s
of_rows t P R s same within exact = fitted_inside t R s within (record { sound = λ v h. (same v).0 (exact.sound v h); complete = λ v h. exact.complete v ((same v).1 h) })

-- ---- what the code asks

has_row : (p q u : P.Bool) → (p || q) ≡ true → (p || (q || u)) ≡ true
has_row true q u e = refl
has_row false true u e = refl
has_row false false u e = absurd cc

has_row_of_both : (p u : P.Bool) → p ≡ true → (p || u) ≡ true
has_row_of_both true u e = refl
has_row_of_both false u e = absurd cc

module _ (x y i j : Span) (e : i ≡ x) (f : j ≡ y) where
  pub and_guard : (is_not_negative x || is_not_negative y) ≡ true → IsSome (and_row i j)
  and_guard g = and_stands i j ∙ has_row (is_not_negative i) (is_not_negative j) _ (ap (λ s. is_not_negative s || is_not_negative j) e ∙ ap (λ s. is_not_negative x || is_not_negative s) f ∙ g)

  both_natural : (is_not_negative x && is_not_negative y) ≡ true → (is_not_negative i && is_not_negative j) ≡ true
  both_natural g = ap (λ s. is_not_negative s && is_not_negative j) e ∙ ap (λ s. is_not_negative x && is_not_negative s) f ∙ g

  pub or_guard : (is_not_negative x && is_not_negative y) ≡ true → IsSome (or_row i j)
  or_guard g = or_stands i j ∙ has_row_of_both (is_not_negative i && is_not_negative j) _ (both_natural g)

  pub xor_guard : (is_not_negative x && is_not_negative y) ≡ true → IsSome (xor_row i j)
  xor_guard g = xor_stands i j ∙ has_row_of_both (is_not_negative i && is_not_negative j) _ (both_natural g)

  pub row_of_sets : (of : Span → Span → Option Span) (r : Span) → of i j ≡ Some r → of x y ≡ Some r
  row_of_sets of r g = ap (λ s. of s y) (sym e) ∙ ap (λ s. of i s) (sym f) ∙ g

pub natural_low : (a b : Progression) → (is_not_negative (span_of_set a) && is_not_negative (span_of_set b)) ≡ true → pos 0 ≤ℤ int_max (first_of a) (first_of b)
natural_low a b e =
    let n = both_true (is_not_negative (span_of_set a)) (is_not_negative (span_of_set b)) e in
    omega (arith, ints, clamps, is_le (pos 0) (first_of a) n.0)

pub value_reaches : (t : IntType) (v : ℤ) → IsIn t v → IsInReach v
value_reaches t v h = record { low = omega (arith, ints, h.at_least, ends_of t); high = omega (arith, ints, h.at_most, ends_of t) }

pub result_reaches : (op : BinOp) (t : IntType) (x y r : ℤ) → IsIn t x → IsRightOperand op t y → outcome op t x y ≡ Ok r → IsInReach r
result_reaches op t x y r h k e = value_reaches (result_type op t) r (outcome-in op t x y r h k e)

abbrev ok : ℤ → Result ℤ Class
ok z = Ok z

same_value : (p q : ℤ) → ok p ≡ ok q → p ≡ q
same_value p q e = cc

pub single_of_result : (o : Result ℤ Class) (s : Progression) (r : ℤ) → o ≡ Ok r → s ≡ single r → (z : ℤ) → o ≡ Ok z → s ≡ single z
single_of_result o s r e f z g = f ∙ ap single (same_value r z (sym e ∙ g))

pub none_of_error : (o : Result ℤ Class) (s : Progression) (class : Class) → o ≡ Err class → (z : ℤ) → o ≡ Ok z → s ≡ single z
none_of_error o s class e z g = absurd cc
