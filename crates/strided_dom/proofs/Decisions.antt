-- What the tests on sets and spans decide.
use Rattle.std.proofs.Common.{◌≡◌, ◌≢◌, ◌↔◌, ℕ, ◌%◌, ℤ, pos, ◌+ℤ◌, ◌-ℤ◌, ◌≤ℤ◌, nat_abs, Bool, true, false, IsTrue, eqb, refl, sym, subst, arith}
use Rattle.std.specs.Int.{◌∣◌}
use Rattle.std.proofs.lemmas.Nat.Gcd.{dvd_of_mod-eq-zero, mod-eq-zero_of_dvd}
use Rattle.std.proofs.Math.Nat.{eq-zero_of_zero-dvd, one-dvd}
use Rattle.std.proofs.lemmas.Int.{ints}
use Rattle.std.proofs.lemmas.Bool.Decides.{nat_tests}
use Rattle.strided_dom.specs.Progression.{Progression, empty, Has, IsSubset, IsSpaced, first_of, last_of, stride_of}
use Rattle.tm_numbers.specs.Congruence.{IsCongruent}
use Rattle.strided_dom.specs.reading.Fields.{AreEndsOf, AreEndsWithin}
use Rattle.tm_numbers.proofs.Congruences.{cong_trans, cong_from_dvd, cong_weaken, dvd_from_cong}
use Rattle.strided_dom.proofs.Members.{spaced_from, has_from, has_last, not_in_empty, stride_dvd}

test_zero : (n : ℕ) → (IsTrue (eqb n 0) ↔ (n ≡ 0))
test_zero n = grind (arith, nat_tests)

pub none_of_zero : (d n : ℕ) → d ≡ 0 → n ≢ 0 → (IsTrue false ↔ (d ∣ n))
none_of_zero d n e some = ((λ t. cc), λ h. absurd (some (eq-zero_of_zero-dvd (subst (λ x. x ∣ n) e h))))

pub each_of_one : (d n : ℕ) → d ≡ 1 → (IsTrue true ↔ (d ∣ n))
each_of_one d n e = ((λ t. subst (λ x. x ∣ n) (sym e) (one-dvd n)), λ h. refl)

pub multiple_by_rest : (d n : ℕ) → (IsTrue (eqb (n % d) 0) ↔ (d ∣ n))
multiple_by_rest d n =
    (λ t. dvd_of_mod-eq-zero d ((test_zero (n % d)).0 t), λ h. (test_zero (n % d)).1 (mod-eq-zero_of_dvd d h))

-- a number above another is congruent to it exactly where their distance is a multiple
pub distance_iff : (m : ℕ) (v w : ℤ) → w ≤ℤ v → ((m ∣ nat_abs (v -ℤ w)) ↔ IsCongruent m v w)
distance_iff m v w above =
    (λ h. subst (λ x. IsCongruent m x w) (sym v_is) (cong_from_dvd m (nat_abs (v -ℤ w)) w h), λ h. dvd_from_cong w (subst (λ x. IsCongruent m x w) v_is h))
  where
    v_is : v ≡ w +ℤ pos (nat_abs (v -ℤ w))
    v_is = omega (arith, ints)

pub has_none : (s : Progression) (v : ℤ) → s ≡ empty → (IsTrue false ↔ Has s v)
has_none s v e = ((λ t. cc), λ h. absurd (not_in_empty v (subst (λ x. Has x v) e h)))

pub has_iff : (s : Progression) (lo hi : ℤ) (m : ℕ) (v : ℤ) (b : Bool) → AreEndsOf s lo hi m → (IsTrue b ↔ IsSpaced lo hi m v) → (IsTrue b ↔ Has s v)
has_iff s lo hi m v b h t =
    (λ p. has_from s v h.some (rw (h.first, h.last, h.step) at (t.0 p)), λ p. t.1 (rw (h.first, h.last, h.step) (spaced_from s v p)))

pub below_empty : (s t : Progression) → s ≡ empty → (IsTrue true ↔ IsSubset s t)
below_empty s t e = ((λ p. record { within = λ v h. absurd (not_in_empty v (subst (λ x. Has x v) e h)) }), λ p. refl)

pub below_none : (s t : Progression) (lo hi : ℤ) (m : ℕ) → AreEndsOf s lo hi m → t ≡ empty → (IsTrue false ↔ IsSubset s t)
below_none s t lo hi m h e = ((λ p. cc), λ p. absurd (not_in_empty _ (subst (λ x. Has x (first_of s)) e (p.within (first_of s) h.some))))

pub below_iff : (s t : Progression) (lo hi : ℤ) (m : ℕ) (lo' hi' : ℤ) (m' : ℕ) (b : Bool) → AreEndsOf s lo hi m → AreEndsOf t lo' hi' m' → (IsTrue b ↔ AreEndsWithin lo hi m lo' hi' m') → (IsTrue b ↔ IsSubset s t)
below_iff s t lo hi m lo' hi' m' b h k test = ((λ p. record { within = λ v q. member v (test.0 p) (spaced_from s v q) }), λ p. test.1 (parts p))
  where
    member : (v : ℤ) → AreEndsWithin lo hi m lo' hi' m' → IsSpaced (first_of s) (last_of s) (stride_of s) v → Has t v
    member v p q = has_from t v k.some (rw (← k.first, ← k.last, ← k.step) (record {
      from = omega (arith, ints, p.from, q.from, h.first);
      to = omega (arith, ints, p.to, q.to, h.last);
      congruent = cong_trans (cong_weaken m' p.divides (rw (← h.step, ← h.first) at q.congruent)) p.congruent;
    }))

    parts : IsSubset s t → AreEndsWithin lo hi m lo' hi' m'
    parts p =
        let first = spaced_from t _ (p.within _ h.some) in
        let last = spaced_from t _ (p.within _ (has_last s h.some)) in
        rw (h.first, h.last, h.step, k.first, k.last, k.step) (record {
          from = first.from;
          to = last.to;
          congruent = first.congruent;
          divides = stride_dvd s t h.some p;
        })

-- which numbers lie between two ends
pub outside : (lo hi : ℤ) (m : ℕ) (v : ℤ) → (IsSpaced lo hi m v → ⊥) → (IsTrue false ↔ IsSpaced lo hi m v)
outside lo hi m v h = ((λ p. cc), λ p. absurd (h p))

pub inside_iff : (lo hi : ℤ) (m : ℕ) (v : ℤ) (b : Bool) → lo ≤ℤ v → v ≤ℤ hi → (IsTrue b ↔ (m ∣ nat_abs (v -ℤ lo))) → (IsTrue b ↔ IsSpaced lo hi m v)
inside_iff lo hi m v b from to test =
    (λ p. record { from = from; to = to; congruent = (distance_iff m v lo from).0 (test.0 p) }, λ p. test.1 ((distance_iff m v lo from).1 p.congruent))

-- which spans lie within one another
pub not_span_below : (lo hi : ℤ) (m : ℕ) (lo' hi' : ℤ) (m' : ℕ) → (AreEndsWithin lo hi m lo' hi' m' → ⊥) → (IsTrue false ↔ AreEndsWithin lo hi m lo' hi' m')
not_span_below lo hi m lo' hi' m' h = ((λ p. cc), λ p. absurd (h p))

pub apart_spans : (lo hi : ℤ) (m : ℕ) (lo' hi' : ℤ) (m' : ℕ) (b : Bool) → b ≡ false → lo' ≤ℤ lo → (IsTrue b ↔ (m' ∣ nat_abs (lo -ℤ lo'))) → AreEndsWithin lo hi m lo' hi' m' → ⊥
apart_spans lo hi m lo' hi' m' b never from test p = (let t = test.1 ((distance_iff m' lo lo' from).1 p.congruent) in cc)

pub span_below_iff : (lo hi : ℤ) (m : ℕ) (lo' hi' : ℤ) (m' : ℕ) (a b : Bool) → a ≡ true → lo' ≤ℤ lo → hi ≤ℤ hi' → (IsTrue a ↔ (m' ∣ nat_abs (lo -ℤ lo'))) → (IsTrue b ↔ (m' ∣ m)) → (IsTrue b ↔ AreEndsWithin lo hi m lo' hi' m')
span_below_iff lo hi m lo' hi' m' a b sure from to test test' =
    (λ p. record { from = from; to = to; congruent = (distance_iff m' lo lo' from).0 (test.0 sure); divides = test'.0 p }, λ p. test'.1 p.divides)
