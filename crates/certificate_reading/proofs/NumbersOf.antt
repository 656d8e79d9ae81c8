-- Lists of rising numbers.
use Rattle.std.proofs.Common.{◌≡◌, refl, sym, subst, ℕ, ◌+◌, ◌<◌, ◌≤◌, List, [], ◌∷◌, ◌++◌, ◌⊎◌, inl, inr, arith}
use Rattle.interfere_set.specs.laws.Joins.{IsOf}
use Rattle.certificate_parts.specs.Runs.{IsNoneOf, AreDistinct}
use Rattle.certificate_reading.specs.reading.Shapes.{RiseFrom, AreNumbersOf, AreNumbersBelow}

-- ## No number is twice in them

none_above : (bound k : ℕ) (ks : List ℕ) → k < bound → RiseFrom bound ks → IsNoneOf k ks
none_above bound k [] less h = tt
none_above bound k (d ∷ ds) less h =
    let b = h.0 in ((λ e. omega (arith, b, e, less)), none_above (d + 1) k ds (omega (arith, b, less)) h.1)

pub distinct : (bound : ℕ) (ks : List ℕ) → RiseFrom bound ks → AreDistinct ks
distinct bound [] h = tt
distinct bound (k ∷ ks) h = (none_above (k + 1) k ks (omega arith) h.1, distinct (k + 1) ks h.1)

-- ## Those of a property

at_end : (ks : List ℕ) (n : ℕ) → IsOf (ks ++ n ∷ []) n
at_end [] n = inl refl
at_end (k ∷ ks) n = inr (at_end ks n)

in_front : (ks : List ℕ) (n k : ℕ) → IsOf ks k → IsOf (ks ++ n ∷ []) k
in_front [] n k h = absurd h
in_front (d ∷ ks) n k (inl e) = inl e
in_front (d ∷ ks) n k (inr h) = inr (in_front ks n k h)

of_both : (ks : List ℕ) (n k : ℕ) → IsOf (ks ++ n ∷ []) k → IsOf ks k ⊎ (k ≡ n)
of_both [] n k (inl e) = inr e
of_both [] n k (inr h) = absurd h
of_both (d ∷ ks) n k (inl e) = inl (inl e)
of_both (d ∷ ks) n k (inr h) = elim (of_both ks n k h) [
  | inl m ↦ inl (inr m)
  | inr e ↦ inr e
]

rise_more : (bound : ℕ) (ks : List ℕ) (n : ℕ) → RiseFrom bound ks → bound ≤ n → ((k : ℕ) → IsOf ks k → k < n)
    → RiseFrom bound (ks ++ n ∷ [])
rise_more bound [] n h low below = (low, tt)
rise_more bound (k ∷ ks) n h low below =
    let b = below k (inl refl) in
    (h.0, rise_more (k + 1) ks n h.1 (omega (arith, b)) (λ d m. below d (inr m)))

less_or_same : (k n : ℕ) → k < n + 1 → (k < n) ⊎ (k ≡ n)
less_or_same k n h = grind arith

module _ (P : ℕ → Type 0) where
  pub no_numbers : AreNumbersBelow P 0 []
  no_numbers =
      record {
        rising = tt;
        below = λ k h. absurd h;
        are = λ k h. absurd h;
        all = λ k l p. absurd (omega (arith, l));
      }

  pub with_number : (n : ℕ) (ks now : List ℕ) → AreNumbersBelow P n ks → P n → now ≡ ks ++ n ∷ []
      → AreNumbersBelow P (n + 1) now
  with_number n ks now h p e = subst (AreNumbersBelow P (n + 1)) (sym e)
      record {
        rising = rise_more 0 ks n h.rising (omega arith) h.below;
        below = below;
        are = are;
        all = all;
      }
    where
      below : (k : ℕ) → IsOf (ks ++ n ∷ []) k → k < n + 1
      below k m = elim (of_both ks n k m) [
        | inl f ↦ (let b = h.below k f in omega (arith, b))
        | inr s ↦ omega (arith, s)
      ]

      are : (k : ℕ) → IsOf (ks ++ n ∷ []) k → P k
      are k m = elim (of_both ks n k m) [
        | inl f ↦ h.are k f
        | inr s ↦ subst P (sym s) p
      ]

      all : (k : ℕ) → k < n + 1 → P k → IsOf (ks ++ n ∷ []) k
      all k l q = elim (less_or_same k n l) [
        | inl b ↦ in_front ks n k (h.all k b q)
        | inr s ↦ subst (IsOf (ks ++ n ∷ [])) (sym s) (at_end ks n)
      ]

  pub without_number : (n : ℕ) (ks now : List ℕ) → AreNumbersBelow P n ks → (P n → ⊥) → now ≡ ks
      → AreNumbersBelow P (n + 1) now
  without_number n ks now h not e = subst (AreNumbersBelow P (n + 1)) (sym e)
      record {
        rising = h.rising;
        below = λ k m. (let b = h.below k m in omega (arith, b));
        are = h.are;
        all = all;
      }
    where
      all : (k : ℕ) → k < n + 1 → P k → IsOf ks k
      all k l q = elim (less_or_same k n l) [
        | inl b ↦ h.all k b q
        | inr s ↦ absurd (not (subst P s q))
      ]

  pub all_numbers : (n : ℕ) (ks : List ℕ) → AreNumbersBelow P n ks → ((k : ℕ) → P k → k < n) → AreNumbersOf P ks
  all_numbers n ks h bounded =
      record { rising = h.rising; are = h.are; all = λ k p. h.all k (bounded k p) p }
