-- The least and the greatest of the results on two sets.
use Rattle.std.proofs.Common.{◌≡◌, ◌≢◌, ◌⊎◌, ⊎_elim, ◌^◌, nat_abs, ℤ, pos, ◌-ℤ◌, true, false, cond, refl, sym, subst, arith}
use Rattle.std.specs.Prelude.{Bool, ◌<ℤ◌, int_lt}
use Rattle.std.specs.Int.{int_max, int_min}
use Rattle.std.proofs.lemmas.Int.{ints, clamps}
use Rattle.strided_dom.specs.Progression.{Progression, empty, Has, IsExactly, IsSpaced, first_of}
use Rattle.strided_dom.specs.Combinations.{IsInBoth}
use Rattle.tm_numbers.proofs.Congruences.{cong_up}
use Rattle.strided_dom.proofs.Members.{has_last, some_or_empty}
use Rattle.interval_dom.specs.Interval.{Span, InInterval, span_of}
use Rattle.interval_dom.specs.declared.intervals.Interval.{Interval}
use Rattle.interval_dom.specs.Rows.{least, greatest, spanned, at_ends}
use Rattle.congruence_dom.specs.Class.{InClass}
use Rattle.tm_numbers.specs.Divisors.{Divides}
use Rattle.congruence_dom.specs.declared.classes.Cong.{Cong}
use Rattle.transfer_int.specs.Operands.{AreValues, IsResult, IsBetween, span_of_set}
use Rattle.transfer_int.specs.reading.Fittings.{AreRows}
use Rattle.transfer_int.specs.reading.Parts.{IsPart, IsLeastSpan}
use Rattle.transfer_int.proofs.Inside.{none_in}
use Rattle.tm_cint.specs.declared.int_types.IntType.{IntType}

-- ---- parts

pub part_is : (a r s : Progression) (lo hi : ℤ) → IsExactly (IsSpaced lo hi 1) r → IsExactly (IsInBoth a r) s → IsExactly (IsPart a lo hi) s
part_is a r s lo hi spaced both = record {
  sound = λ v h. (let p = both.sound v h in let q = spaced.sound v p.1 in record { member = p.0; from = q.from; to = q.to });
  complete = λ v h. both.complete v (h.member, spaced.complete v (record { from = h.from; to = h.to; congruent = cong_up 1 (nat_abs (v -ℤ lo)) v lo (omega (arith, ints, h.from)) }));
}

pub any_class : (v : ℤ) → Divides (pos 1) (v -ℤ pos 0)
any_class v = record { quotient = v; is = omega (arith, ints) }

-- ---- the least and the greatest

min_has : (P : ℤ → Type 0) (x y : ℤ) → P x → P y → P (int_min x y)
min_has P x y h k = by_test (int_lt y x)
  where
    by_test : (b : Bool) → P (cond b y x)
    by_test true = k
    by_test false = h

max_has : (P : ℤ → Type 0) (x y : ℤ) → P x → P y → P (int_max x y)
max_has P x y h k = by_test (int_lt y x)
  where
    by_test : (b : Bool) → P (cond b x y)
    by_test true = h
    by_test false = k

spanned_least : (P : ℤ → Type 0) (p q r s : ℤ) → P p → P q → P r → P s → ((z : ℤ) → P z → InInterval (spanned p q r s) z) → IsLeastSpan P (spanned p q r s)
unfolding least greatest
spanned_least P p q r s hp hq hr hs within = record {
  least = record { member = min_has P (int_min p q) (int_min r s) (min_has P p q hp hq) (min_has P r s hr hs); bound = λ y h. (within y h).low };
  greatest = record { member = max_has P (int_max p q) (int_max r s) (max_has P p q hp hq) (max_has P r s hr hs); bound = λ y h. (within y h).high };
}

module _ (op : ℤ → ℤ → ℤ) (a b : Progression) (p : Has a (first_of a)) (q : Has b (first_of b)) where
  result : (x y : ℤ) → Has a x → Has b y → IsResult op (Has a) (Has b) (op x y)
  result x y h k = record { left = x; right = y; in_left = h; in_right = k; is = refl }

  -- a row whose ends are the results on ends
  pub ends_least : ((x y : ℤ) → Has a x → Has b y → InInterval (at_ends op (span_of_set a) (span_of_set b)) (op x y)) → IsLeastSpan (IsResult op (Has a) (Has b)) (at_ends op (span_of_set a) (span_of_set b))
  ends_least within =
      let l = has_last a p in
      let m = has_last b q in
      spanned_least _ _ _ _ _ (result _ _ p q) (result _ _ p m) (result _ _ l q) (result _ _ l m)
      (λ z h. subst (λ w. InInterval (at_ends op (span_of_set a) (span_of_set b)) w) (sym h.is) (within h.left h.right h.in_left h.in_right))

pub same_least : (P Q : ℤ → Type 0) (i : Span) → ((z : ℤ) → P z → Q z) → ((z : ℤ) → Q z → P z) → IsLeastSpan P i → IsLeastSpan Q i
same_least P Q i to from h = record {
  least = record { member = to i.lo h.least.member; bound = λ y k. h.least.bound y (from y k) };
  greatest = record { member = to i.hi h.greatest.member; bound = λ y k. h.greatest.bound y (from y k) };
}

pub joined_least : (P Q R : ℤ → Type 0) (i j k : Span) → ((z : ℤ) → P z → R z) → ((z : ℤ) → Q z → R z) → ((z : ℤ) → R z → P z ⊎ Q z)
    → IsLeastSpan P i → IsLeastSpan Q j → k.lo ≡ int_min i.lo j.lo → k.hi ≡ int_max i.hi j.hi → IsLeastSpan R k
joined_least P Q R i j k left right either p q e f = record {
  least = record {
    member = subst R (sym e) (min_has R i.lo j.lo (left i.lo p.least.member) (right j.lo q.least.member));
    bound = λ y h. ⊎_elim (λ u. (let l = p.least.bound y u in omega (arith, ints, clamps, l, e))) (λ u. (let l = q.least.bound y u in omega (arith, ints, clamps, l, e))) (either y h);
  };
  greatest = record {
    member = subst R (sym f) (max_has R i.hi j.hi (left i.hi p.greatest.member) (right j.hi q.greatest.member));
    bound = λ y h. ⊎_elim (λ u. (let l = p.greatest.bound y u in omega (arith, ints, clamps, l, f))) (λ u. (let l = q.greatest.bound y u in omega (arith, ints, clamps, l, f))) (either y h);
  };
}

-- what lies between two results lies in the least interval
pub between_in : (P : ℤ → Type 0) (i : Span) (v : ℤ) → IsLeastSpan P i → IsBetween P v → InInterval i v
between_in P i v h b = record { low = omega (arith, ints, h.least.bound b.low b.low_is, b.from); high = omega (arith, ints, h.greatest.bound b.high b.high_is, b.to) }

pub in_between : (P : ℤ → Type 0) (i : Span) (v : ℤ) → IsLeastSpan P i → InInterval i v → IsBetween P v
in_between P i v h k = record { low = i.lo; high = i.hi; low_is = h.least.member; high_is = h.greatest.member; from = k.low; to = k.high }

pub part_values : (t : IntType) (a s : Progression) (lo hi : ℤ) → AreValues t a → IsExactly (IsPart a lo hi) s → AreValues t s
part_values t a s lo hi h e = record { all = λ x p. h.all x (e.sound x p).member }

pub some_of : (a : Progression) → a ≢ empty → Has a (first_of a)
some_of a n = ⊎_elim (λ h. h) (λ e. absurd (n e)) (some_or_empty a)

pub not_empty_from : (a : Progression) (x : ℤ) → Has a x → a ≢ empty
not_empty_from a x h e = none_in a x e h

-- ---- rows

-- the rows of a least interval and a class
pub rows_of : (P Q R : ℤ → Type 0) (i : Interval) (k : Cong) → ((v : ℤ) → R v → IsBetween P v × Q v) → ((v : ℤ) → IsBetween P v → Q v → R v) → IsLeastSpan P (span_of i)
    → ((v : ℤ) → (InClass k v → Q v) × (Q v → InClass k v)) → (i.hi -ℤ i.lo) <ℤ pos (2 ^ 127) → AreRows R i k
rows_of P Q R i k from to least class narrow = record {
  narrow = narrow;
  sound = λ v h. to v (in_between P (span_of i) v least h.in_span) ((class v).0 h.in_class);
  complete = λ v h. (let r = from v h in record { in_span = between_in P (span_of i) v least r.0; in_class = (class v).1 r.1 });
}
