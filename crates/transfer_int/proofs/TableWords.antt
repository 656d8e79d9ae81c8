-- The wrapping of what is exactly a strided set is the table's.
use Rattle.std.proofs.Common.{◌≡◌, ◌⊎◌, inl, inr, ⊎_elim, ◌^◌, ℤ, pos, ◌+ℤ◌, ◌-ℤ◌, ◌*ℤ◌, subst, arith}
use Rattle.std.specs.Prelude.{◌↔◌}
use Rattle.std.proofs.Math.IntN.{*ℤ_comm}
use Rattle.std.proofs.lemmas.Int.{ints, by_lt_z}
use Rattle.strided_dom.specs.Progression.{Progression, Has, IsExactly, first_of, last_of, stride_of}
use Rattle.strided_dom.proofs.Members.{some_from, has_last, has_next, spaced_from, cong_members}
use Rattle.tm_numbers.specs.Divisors.{Divides, int_gcd}
use Rattle.tm_numbers.proofs.Congruences.{divided}
use Rattle.tm_numbers.proofs.Divisibility.{divides_same, divides_add, divides_sub, divides_times}
use Rattle.tm_numbers.proofs.Divisibility.{divides_trans}
use Rattle.tm_numbers.proofs.Gcds.{is_greatest}
use Rattle.tm_cint.specs.IntTypes.{IsIn, width_of, hi_of}
use Rattle.tm_cint.specs.Conversions.{wrapped}
use Rattle.tm_cint.specs.declared.int_types.IntType.{IntType}
use Rattle.tm_cint.proofs.Values.{wrapped-in, wrapped-turned}
use Rattle.transfer_int.specs.Values.{turns, IsWrapped}
use Rattle.transfer_int.specs.Wrappings.{AreInTurn, IsInTurn, IsInNoTurn, IsWrappedSet}
use Rattle.transfer_int.proofs.Wrapping.{same_turns}

-- what divides 2^width divides turns
divides_turns : (t : IntType) (d k : ℤ) → Divides d (pos (2 ^ width_of t)) → Divides d (turns t k)
divides_turns t d k h = divides_same d (*ℤ_comm (pos (2 ^ width_of t)) k) (divides_times d (pos (2 ^ width_of t)) k h)

-- a turn that holds the first and the last member holds all
between : (t : IntType) (r : Progression) (k : ℤ) → IsIn t (first_of r -ℤ turns t k) → IsIn t (last_of r -ℤ turns t k) → AreInTurn t r k
between t r k low high = λ x h.
    let s = spaced_from r x h in
    record { at_least = omega (arith, ints, low.at_least, s.from); at_most = omega (arith, ints, high.at_most, s.to) }

-- some turn holds all of the set, or none does
turn_or_none : (t : IntType) (r : Progression) → Has r (first_of r) → ((k : ℤ) × AreInTurn t r k) ⊎ ((k : ℤ) → ¬ AreInTurn t r k)
turn_or_none t r some =
    let k = wrapped-turned t (first_of r) in
    let start : IsIn t (first_of r -ℤ turns t k.0) = subst (λ x. IsIn t x) (back (first_of r) _ (turns t k.0) k.1) (wrapped-in t (first_of r)) in
    let s = spaced_from r (last_of r) (has_last r (some_from r _ some)) in
    by_lt_z (hi_of t) (last_of r -ℤ turns t k.0)
    (λ out. inr (λ j all.
    let e = same_turns t (wrapped t (first_of r)) (first_of r) k.0 j k.1 (wrapped-in t (first_of r)) (all (first_of r) some) in
    let last = (all (last_of r) (has_last r (some_from r _ some))).at_most in
    omega (arith, ints, out, e, last)))
    (λ within. inl (k.0, between t r k.0 start (record { at_least = omega (arith, ints, start.at_least, s.from); at_most = within })))
  where
    back : (x y m : ℤ) → x ≡ y +ℤ m → y ≡ x -ℤ m
    back x y m e = omega (arith, ints)

module _ (t : IntType) (R : ℤ → Type 0) (r : Progression) (exact : IsExactly R r) (v : ℤ) where
  abbrev size : ℤ
  size = pos (2 ^ width_of t)

  abbrev common : ℤ
  common = int_gcd (pos (stride_of r)) size

  -- members differ by multiples of the common divisor
  of_members : (x y : ℤ) → Has r x → Has r y → Divides common (x -ℤ y)
  of_members x y h k = divides_trans common (pos (stride_of r)) (x -ℤ y) (is_greatest.left (pos (stride_of r)) size) (divided (stride_of r) x y (cong_members r x y h k))

  in_class : IsWrapped t R v → Has r (first_of r) → Divides common (v -ℤ first_of r)
  in_class w some =
      let some' = exact.complete w.some w.in_rows in
      let a = w.congruent common (is_greatest.right (pos (stride_of r)) size) (λ x p. of_members x w.some (exact.complete x p) some') in
      let b = of_members w.some (first_of r) some' some in
      divides_same common (omega (arith, ints)) (divides_add common (v -ℤ w.some) (w.some -ℤ first_of r) a b)

  to_words : IsWrapped t R v → IsWrappedSet t r v
  to_words w =
      let some : Has r (first_of r) = some_from r w.some (exact.complete w.some w.in_rows) in
      record {
        some = some;
        in_type = w.in_type;
        either = ⊎_elim
            (λ k. inl (record { turn = k.0; all = k.1; moved = exact.complete _ (w.in_turn k.0 (λ x p. k.1 x (exact.complete x p))) }))
            (λ none. inr (record { none = none; class = in_class w some }))
            (turn_or_none t r some);
      }

  in_turn_from : Has r (first_of r) → IsIn t v → IsInTurn t r v → IsWrapped t R v
  in_turn_from some is h = record {
    in_type = is;
    some = first_of r;
    in_rows = exact.sound _ some;
    congruent = λ d k all.
        divides_same d (omega (arith, ints)) (divides_sub d ((v +ℤ turns t h.turn) -ℤ first_of r) (turns t h.turn) (all _ (exact.sound _ h.moved)) (divides_turns t d h.turn k));
    in_turn = λ k all.
        let e = same_turns t (first_of r -ℤ turns t h.turn) (first_of r) h.turn k (omega (arith, ints)) (h.all _ some) (all _ (exact.sound _ some)) in
        subst (λ (x : ℤ). R (v +ℤ x)) e (exact.sound _ h.moved);
  }

  -- what divides all differences of members divides the stride
  divides_stride : (d : ℤ) → Has r (first_of r) → ((x : ℤ) → R x → Divides d (x -ℤ first_of r)) → Divides d (pos (stride_of r))
  divides_stride d some all = divides_same d (omega (arith, ints)) (all _ (exact.sound _ (has_next r some)))

  in_no_turn_from : Has r (first_of r) → IsIn t v → IsInNoTurn t r v → IsWrapped t R v
  in_no_turn_from some is h = record {
    in_type = is;
    some = first_of r;
    in_rows = exact.sound _ some;
    congruent = λ d k all. divides_trans d common (v -ℤ first_of r) (is_greatest.greatest d (pos (stride_of r)) size (divides_stride d some all) k) h.class;
    in_turn = λ k all. absurd (h.none k (λ x p. all x (exact.sound x p)));
  }

  from_words : IsWrappedSet t r v → IsWrapped t R v
  from_words h = ⊎_elim (in_turn_from h.some h.in_type) (in_no_turn_from h.some h.in_type) h.either

  pub by_words : IsWrapped t R v ↔ IsWrappedSet t r v
  by_words = (to_words, from_words)
