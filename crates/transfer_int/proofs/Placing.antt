-- The wrapping of a progression: moved by turns where it then lies in the type, else its class in the type.
use Rattle.std.proofs.Common.{◌≡◌, ℕ, zero, suc, ◌/◌, ◌%◌, ◌^◌, ◌<◌, ◌≤◌, ℤ, pos, negsuc, neg_ℤ, ◌+ℤ◌, ◌-ℤ◌, ◌*ℤ◌, ◌≤ℤ◌, refl, sym, ap, ◌∙◌, subst, arith, ◌≢◌, ⊎_elim, true, false, nat_abs, to_z, of_z}
use Rattle.std.specs.Prelude.{◌<ℤ◌, unsigned_abs}
use Rattle.std.specs.Int.{◌∣◌, IsGcd, w128}
use Rattle.std.proofs.lemmas.Int.{ints, to_z-of_z}
use Rattle.std.proofs.lemmas.Nat.Gcd.{le_of_dvd}
use Rattle.std.proofs.Math.Nat.{eq-zero_of_zero-dvd, mod-lt}
use Rattle.std.specs.Prelude as P
use Rattle.strided_dom.specs.Progression.{Progression, empty, single, Has, IsExactly, IsSpaced, first_of, last_of, stride_of}
use Rattle.strided_dom.proofs.Members.{not_in_empty, some_or_empty, spaced_from, has_from, has_last, first_le_last}
use Rattle.tm_cint.specs.Conversions.{converted_value}
use Rattle.tm_cint.proofs.Values.{wrapped-in, converted_value-turned}
use Rattle.tm_numbers.specs.Divisors.{Divides}
use Rattle.tm_numbers.proofs.Divisibility.{divides_same, divides_add, divides_sub, divides_times}
use Rattle.tm_numbers.proofs.Divisibility.{divides_trans, divides_from_abs, to_natural, from_natural}
use Rattle.tm_numbers.proofs.Integers.{mul_neg}
use Rattle.tm_cint.specs.IntTypes.{IsIn, width_of, lo_of, hi_of}
use Rattle.tm_cint.specs.declared.int_types.IntType.{IntType}
use Rattle.tm_cint.specs.declared.int_types.IntType.TheVariants.{Bool, Char, UChar, Short, UShort, Int, UInt, Long, ULong, LLong, ULLong}
use Rattle.std.proofs.lemmas.Nat.{pow_pos, div-add-mod'}
use Rattle.transfer_int.specs.Values.{turns, IsWrapped}
use Rattle.tm_numbers.proofs.Congruences.{divided, congruent_from}
use Rattle.transfer_int.proofs.Wrapping.{same_turns, wrapping_grows}

module _ (t : IntType) (low first k : ℤ) (extent m : ℕ) (start : IsIn t low) (moved : first ≡ low +ℤ turns t k) (steps : m ∣ extent) where
  abbrev Row : ℤ → Type 0
  Row = IsSpaced first (first +ℤ pos extent) m

  begins : Row first
  begins = record { from = omega (arith, ints); to = omega (arith, ints); congruent = congruent_from m first first (record { quotient = pos 0; is = omega (arith, ints) }) }

  ends : Row (first +ℤ pos extent)
  ends = record { from = omega (arith, ints); to = omega (arith, ints); congruent = congruent_from m (first +ℤ pos extent) first (divides_same (pos m) (omega (arith, ints)) (from_natural m (pos extent) steps)) }

  up : (v : ℤ) → IsSpaced low (low +ℤ pos extent) m v → Row (v +ℤ turns t k)
  up v h = record {
    from = omega (arith, ints, moved, h.from);
    to = omega (arith, ints, moved, h.to);
    congruent = congruent_from m (v +ℤ turns t k) first (divides_same (pos m) (omega (arith, ints, moved)) (divided m v low h.congruent));
  }

  down : (v : ℤ) → Row (v +ℤ turns t k) → IsSpaced low (low +ℤ pos extent) m v
  down v h = record {
    from = omega (arith, ints, moved, h.from);
    to = omega (arith, ints, moved, h.to);
    congruent = congruent_from m v low (divides_same (pos m) (omega (arith, ints, moved)) (divided m (v +ℤ turns t k) first h.congruent));
  }

  turn_divides : (d : ℤ) → Divides d (pos (2 ^ width_of t)) → Divides d (turns t k)
  turn_divides d h = divides_same d (omega (arith, ints)) (divides_times d (pos (2 ^ width_of t)) k h)

  -- the progression lies in the type
  pub fits : (s : Progression) → (low +ℤ pos extent) ≤ℤ hi_of t → IsExactly (IsSpaced low (low +ℤ pos extent) m) s → IsExactly (IsWrapped t Row) s
  fits s within exact = record {
    sound = λ v p.
        (let q = exact.sound v p in
        record {
          in_type = record { at_least = omega (arith, ints, q.from, start.at_least); at_most = omega (arith, ints, q.to, within) };
          some = first;
          in_rows = begins;
          congruent = λ d h all. divides_same d (omega (arith, ints, moved)) (divides_sub d ((v +ℤ turns t k) -ℤ first) (turns t k) (all (v +ℤ turns t k) (up v q)) (turn_divides d h));
          in_turn = λ j all. subst (λ x. Row (v +ℤ x)) (same_turns t low first k j moved start (all first begins)) (up v q);
        });
    complete = λ v p. exact.complete v (down v (p.in_turn k (λ r q.
        record { at_least = omega (arith, ints, moved, q.from, start.at_least); at_most = omega (arith, ints, moved, q.to, within) })));
  }

  -- it does not
  pub leaves : (s : Progression) (g : ℕ) (from : ℤ) → hi_of t <ℤ (low +ℤ pos extent) → IsGcd m (2 ^ width_of t) g → Divides (pos g) (low -ℤ from)
      → lo_of t ≤ℤ from → from <ℤ (lo_of t +ℤ pos g) → IsExactly (IsSpaced from (hi_of t) g) s → IsExactly (IsWrapped t Row) s
  leaves s g from out gcd near low_from high_from exact = record {
    sound = λ v p.
        (let q = exact.sound v p in
        record {
          in_type = record { at_least = omega (arith, ints, q.from, low_from); at_most = q.to };
          some = first;
          in_rows = begins;
          congruent = λ d h all.
              (let dg = common d h all in
              let a = divides_trans d (pos g) (v -ℤ from) dg (divided g v from q.congruent) in
              let b = divides_trans d (pos g) (low -ℤ from) dg near in
              divides_same d (omega (arith, ints, moved)) (divides_sub d ((v -ℤ from) -ℤ (low -ℤ from)) (turns t k) (divides_sub d (v -ℤ from) (low -ℤ from) a b) (turn_divides d h)));
          in_turn = λ j all.
              (let e = same_turns t low first k j moved start (all first begins) in
              let i = all (first +ℤ pos extent) ends in
              absurd (omega (arith, ints, moved, e, i.at_most, out)));
        });
    complete = λ v p.
        (let n = near_from v p in
        exact.complete v (record { from = above v p.in_type.at_least n; to = p.in_type.at_most; congruent = congruent_from g v from n }));
  }
    where
      some_extent : 1 ≤ extent
      some_extent = omega (arith, ints, out, start.at_most)

      -- what all numbers of the row agree modulo divides the stride
      common : (d : ℤ) → Divides d (pos (2 ^ width_of t)) → ((r : ℤ) → Row r → Divides d (r -ℤ first)) → Divides d (pos g)
      common d h all =
          let le : m ≤ extent = le_of_dvd some_extent steps in
          let next : Row (first +ℤ pos m) = record { from = omega (arith, ints); to = omega (arith, ints, le); congruent = congruent_from m (first +ℤ pos m) first (record { quotient = pos 1; is = omega (arith, ints) }) } in
          let dm : Divides d (pos m) = divides_same d (omega (arith, ints)) (all (first +ℤ pos m) next) in
          divides_from_abs d (pos g) (from_natural (unsigned_abs d) (pos g) (gcd.2 (unsigned_abs d) (to_natural d (pos m) dm) (to_natural d (pos (2 ^ width_of t)) h)))

      turn : Divides (pos g) (pos (2 ^ width_of t))
      turn = from_natural g (pos (2 ^ width_of t)) gcd.1

      of_row : (r : ℤ) → Row r → Divides (pos g) (r -ℤ first)
      of_row r h = divides_trans (pos g) (pos m) (r -ℤ first) (from_natural g (pos m) gcd.0) (divided m r first h.congruent)

      near_from : (v : ℤ) → IsWrapped t Row v → Divides (pos g) (v -ℤ from)
      near_from v p =
          let s = of_row p.some p.in_rows in
          let a = p.congruent (pos g) turn (λ r h. divides_same (pos g) (omega (arith, ints)) (divides_sub (pos g) (r -ℤ first) (p.some -ℤ first) (of_row r h) s)) in
          let b = divides_add (pos g) (v -ℤ p.some) (p.some -ℤ first) a s in
          let c = divides_add (pos g) ((v -ℤ p.some) +ℤ (p.some -ℤ first)) (turns t k) b (turn_divides (pos g) turn) in
          divides_same (pos g) (omega (arith, ints, moved)) (divides_add (pos g) (((v -ℤ p.some) +ℤ (p.some -ℤ first)) +ℤ turns t k) (low -ℤ from) c near)

      above : (v : ℤ) → lo_of t ≤ℤ v → Divides (pos g) (v -ℤ from) → from ≤ℤ v
      above v l d = by_sign d.quotient d.is
        where
          by_sign : (q : ℤ) → v -ℤ from ≡ pos g *ℤ q → from ≤ℤ v
          by_sign (pos n) e = omega (arith, ints, e)
          by_sign (negsuc n) e = absurd (let f = mul_neg (pos g) (pos (suc n)) in omega (arith, ints, e, f, l, high_from))

pub one_number : (low : ℤ) (extent m : ℕ) (s : Progression) → extent ≡ 0 → s ≡ single low → IsExactly (IsSpaced low (low +ℤ pos extent) m) s
unfolding Has
one_number low extent m s z e = record {
  sound = λ v p. (let q : v ≡ low = subst (λ x. Has x v) e p in
      record { from = omega (arith, ints, q); to = omega (arith, ints, q, z); congruent = congruent_from m v low (record { quotient = pos 0; is = omega (arith, ints, q) }) });
  complete = λ v p. (let q : v ≡ low = omega (arith, ints, p.from, p.to, z) in subst (λ x. Has x v) (sym e) q);
}

pub not_zero_divisor : (m n : ℕ) → (n ≡ 0 → ⊥) → m ∣ n → 1 ≤ m
not_zero_divisor zero n h d = absurd (h (eq-zero_of_zero-dvd d))
not_zero_divisor (suc m) n h d = omega arith

pub respaced : (lo lo' hi hi' : ℤ) (m m' : ℕ) (s : Progression) → lo ≡ lo' → hi ≡ hi' → m ≡ m' → IsExactly (IsSpaced lo hi m) s → IsExactly (IsSpaced lo' hi' m') s
respaced lo lo' hi hi' m m' s e f g h =
    subst (λ x. IsExactly (IsSpaced lo' hi' x) s) g (subst (λ x. IsExactly (IsSpaced lo' x m) s) f (subst (λ x. IsExactly (IsSpaced x hi m) s) e h))

pub rewrapped : (t : IntType) (R S : ℤ → Type 0) (s : Progression) → ((v : ℤ) → R v → S v) → ((v : ℤ) → S v → R v) → IsExactly (IsWrapped t R) s → IsExactly (IsWrapped t S) s
rewrapped t R S s to from h = record { sound = λ v p. wrapping_grows t R S v to (h.sound v p); complete = λ v p. h.complete v (wrapping_grows t S R v from p) }

-- the ends of a type
pub ends_of : (t : IntType) → (neg_ℤ (pos (2 ^ 63)) ≤ℤ lo_of t) × ((lo_of t ≤ℤ pos 0) × ((pos 0 ≤ℤ hi_of t) × ((hi_of t <ℤ pos (2 ^ 64)) × (2 ^ width_of t ≤ 2 ^ 64))))
ends_of Bool = (omega (arith, ints), (omega (arith, ints), (omega (arith, ints), (omega (arith, ints), omega arith))))
ends_of Char = (omega (arith, ints), (omega (arith, ints), (omega (arith, ints), (omega (arith, ints), omega arith))))
ends_of UChar = (omega (arith, ints), (omega (arith, ints), (omega (arith, ints), (omega (arith, ints), omega arith))))
ends_of Short = (omega (arith, ints), (omega (arith, ints), (omega (arith, ints), (omega (arith, ints), omega arith))))
ends_of UShort = (omega (arith, ints), (omega (arith, ints), (omega (arith, ints), (omega (arith, ints), omega arith))))
ends_of Int = (omega (arith, ints), (omega (arith, ints), (omega (arith, ints), (omega (arith, ints), omega arith))))
ends_of UInt = (omega (arith, ints), (omega (arith, ints), (omega (arith, ints), (omega (arith, ints), omega arith))))
ends_of Long = (omega (arith, ints), (omega (arith, ints), (omega (arith, ints), (omega (arith, ints), omega arith))))
ends_of ULong = (omega (arith, ints), (omega (arith, ints), (omega (arith, ints), (omega (arith, ints), omega arith))))
ends_of LLong = (omega (arith, ints), (omega (arith, ints), (omega (arith, ints), (omega (arith, ints), omega arith))))
ends_of ULLong = (omega (arith, ints), (omega (arith, ints), (omega (arith, ints), (omega (arith, ints), omega arith))))

-- the step is a positive divisor of 2^width
pub step_within : (t : IntType) (m g : ℕ) → IsGcd m (2 ^ width_of t) g → (1 ≤ g) × (g ≤ 2 ^ 64)
step_within t m g h =
    (not_zero_divisor g (2 ^ width_of t) (λ e. omega (arith, pow_pos (width_of t), e)) h.1, omega (arith, le_of_dvd (pow_pos (width_of t)) h.1, (ends_of t).1.1.1.1))

pub nearest : (l low : ℤ) (d g : ℕ) → 1 ≤ g → pos d ≡ low -ℤ l → Divides (pos g) (low -ℤ (l +ℤ pos (d % g)))
nearest l low d g p e = record { quotient = pos (d / g); is = (let q = div-add-mod' d g in omega (arith, ints, q, e)) }

-- what the code computes of the class
pub class_exactly : (t : IntType) (low first : ℤ) (extent m g d : ℕ) (s : Progression) → IsIn t low → m ∣ extent → IsGcd m (2 ^ width_of t) g
    → hi_of t <ℤ (low +ℤ pos extent) → pos d ≡ low -ℤ lo_of t → first ≡ lo_of t +ℤ pos (d % g) → IsExactly (IsSpaced first (hi_of t) g) s
    → (from k : ℤ) → from ≡ low +ℤ turns t k → IsExactly (IsWrapped t (IsSpaced from (from +ℤ pos extent) m)) s
class_exactly t low first extent m g d s i steps gcd out e f exact from k start =
    let p = (step_within t m g gcd).0 in
    let r : d % g < g = mod-lt d p in
    leaves t low from k extent m i start steps s g first out gcd
    (divides_same (pos g) (omega (arith, ints, f)) (nearest (lo_of t) low d g p e)) (omega (arith, ints, f)) (omega (arith, ints, f, r)) exact

converted_in : (t : IntType) (v : ℤ) → t ≢ Bool → IsIn t (converted_value v t)
converted_in Bool v n = absurd (n refl)
converted_in Char v n = wrapped-in Char v
converted_in UChar v n = wrapped-in UChar v
converted_in Short v n = wrapped-in Short v
converted_in UShort v n = wrapped-in UShort v
converted_in Int v n = wrapped-in Int v
converted_in UInt v n = wrapped-in UInt v
converted_in Long v n = wrapped-in Long v
converted_in ULong v n = wrapped-in ULong v
converted_in LLong v n = wrapped-in LLong v
converted_in ULLong v n = wrapped-in ULLong v

-- a value of a type is kept by 128 bits
pub value_kept : (t : IntType) (v : ℤ) → IsIn t v → to_z w128 (of_z w128 v) ≡ v
value_kept t v h = to_z-of_z w128 v (omega (arith, ints, ends_of t, h.at_least, h.at_most))

-- the converted least member
pub start_in : (t : IntType) (x y : ℤ) → t ≢ Bool → x ≡ converted_value y t → IsIn t (to_z w128 (of_z w128 x))
start_in t x y n e = let h : IsIn t x = subst (λ z. IsIn t z) (sym e) (converted_in t y n) in subst (λ z. IsIn t z) (sym (value_kept t x h)) h

pub start_kept : (t : IntType) (x y : ℤ) → t ≢ Bool → x ≡ converted_value y t → to_z w128 (of_z w128 x) ≡ converted_value y t
start_kept t x y n e = value_kept t x (subst (λ z. IsIn t z) (sym e) (converted_in t y n)) ∙ e

pub wrapped_none : (t : IntType) (a : Progression) → a ≡ empty → IsExactly (IsWrapped t (Has a)) a
wrapped_none t a e = record {
  sound = λ v h. absurd (not_in_empty v (subst (λ x. Has x v) e h));
  complete = λ v h. absurd (not_in_empty h.some (subst (λ x. Has x h.some) e h.in_rows));
}

pub strides_divide : (a : Progression) → Has a (first_of a) → stride_of a ∣ nat_abs (last_of a -ℤ first_of a)
strides_divide a h = to_natural (pos (stride_of a)) (last_of a -ℤ first_of a) (divided (stride_of a) (last_of a) (first_of a) (spaced_from a (last_of a) (has_last a h)).congruent)

pub some_member : (a : Progression) (b : P.Bool) → ((b ≡ true) → a ≡ empty) × ((a ≡ empty) → (b ≡ true)) → b ≡ false → Has a (first_of a)
some_member a b h e = ⊎_elim (λ s. s) (λ z. absurd (let f = h.1 z in cc)) (some_or_empty a)

pub wrapped_exactly : (t : IntType) (a s : Progression) (low : ℤ) (extent m : ℕ) → t ≢ Bool → Has a (first_of a) → low ≡ converted_value (first_of a) t
    → extent ≡ nat_abs (last_of a -ℤ first_of a) → m ≡ stride_of a
    → ((first k : ℤ) → first ≡ low +ℤ turns t k → IsExactly (IsWrapped t (IsSpaced first (first +ℤ pos extent) m)) s) → IsExactly (IsWrapped t (Has a)) s
wrapped_exactly t a s low extent m n some e f g h =
    let c = converted_value-turned (first_of a) t n in
    let end : first_of a +ℤ pos extent ≡ last_of a = omega (arith, ints, f, first_le_last a) in
    let exact = h (first_of a) c.0 (c.1 ∙ ap (λ x. x +ℤ turns t c.0) (sym e)) in
    rewrapped t (IsSpaced (first_of a) (last_of a) (stride_of a)) (Has a) s (λ v p. has_from a v some p) (λ v p. spaced_from a v p)
    (subst (λ x. IsExactly (IsWrapped t (IsSpaced (first_of a) (last_of a) x)) s) g
    (subst (λ x. IsExactly (IsWrapped t (IsSpaced (first_of a) x m)) s) end exact))

-- the first number of the class, as it is computed
pub first_kept : (t : IntType) (l : ℤ) (r : ℕ) → l ≡ lo_of t → r < 2 ^ 64 → to_z w128 (of_z w128 (to_z w128 (of_z w128 l) +ℤ to_z w128 r)) ≡ lo_of t +ℤ pos r
first_kept t l r e h =
    let n : to_z w128 r ≡ pos r = omega (arith, ints, h) in
    let k : to_z w128 (of_z w128 l) ≡ lo_of t = rw e (to_z-of_z w128 (lo_of t) (omega (arith, ints, ends_of t))) in
    rw (k, n) (to_z-of_z w128 (lo_of t +ℤ pos r) (omega (arith, ints, h, ends_of t)))

pub hi_kept : (t : IntType) (h : ℤ) → h ≡ hi_of t → to_z w128 (of_z w128 h) ≡ hi_of t
hi_kept t h e = rw e (to_z-of_z w128 (hi_of t) (omega (arith, ints, ends_of t)))

pub rest_small : (t : IntType) (m g d : ℕ) → IsGcd m (2 ^ width_of t) g → d % g < 2 ^ 64
rest_small t m g d h =
    let s = step_within t m g h in
    let r : d % g < g = mod-lt d s.0 in
    omega (arith, r, s.1)
