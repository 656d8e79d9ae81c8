-- Pairs in order, and what is found by halving.
use Rattle.std.proofs.Common.{◌≡◌, ◌↔◌, ◌⊎◌, ℕ, ◌+◌, ◌<◌, ◌≤◌, refl, ap, sym, subst, ◌∙◌, inl, inr, true}
use Rattle.std.proofs.Common.{List, [], length, get_or, take, arith}
use Rattle.std.specs.Prelude.{Contains}
use Rattle.std.specs.List.{dedup}
use Rattle.std.specs.List.Sorted.{IsStrictlySortedBy, IsSorted, IsPermutation}
use Rattle.std.specs.List.Retain.{IsFiltered, DiffersFromLast}
use Rattle.std.specs.Ordering.{nat_cmp, ordering_then, is_eq, MatchOrdering}
use Rattle.std.specs.declared.cmp.Ordering.{Ordering}
use Rattle.std.specs.declared.cmp.Ordering.TheVariants.{Less, Equal, Greater}
use Rattle.std.proofs.lemmas.Bool.{cases_eq, cases_lt}
use Rattle.std.proofs.lemmas.Cmp.{ranked}
use Rattle.std.proofs.lemmas.List.{get_or_default}
use Rattle.std.proofs.lemmas.List.Filters.{dedup_is}
use Rattle.std.proofs.lemmas.List.Kept.{IsStrictlySortedBy-dedup, Contains-dedup, Contains-from_dedup}
use Rattle.std.proofs.lemmas.List.Sorted.{Contains-permutation, IsPermutation-sym}
use Rattle.std.proofs.lemmas.Map.Keys.{Less-from_sorted}
use Rattle.operand_orders.specs.declared.pairs.Pair.{Pair}
use Rattle.operand_orders.specs.contracts.pairs.PairOrd.TheImpl.{cmp-value}
use Rattle.operand_orders.specs.contracts.pairs.PairOrd.TheImpl.Laws.{total-law, matches_eq-law}
use Rattle.operand_orders.specs.contracts.pairs.PairPartialEq.TheImpl.{eq-value}
use Rattle.operand_orders.specs.contracts.pairs.PairEq.TheImpl.Laws.{laws-law}
use Rattle.operand_orders.specs.reading.Pairs.{pair, swapped, IsBefore, pair_at, AreRising, AreInOrder}
use Rattle.operand_orders.specs.reading.Pairs.{IsFirstNotBefore}
use Rattle.access_races.proofs.Joins.{either, front_more}
use Rattle.operand_orders.proofs.Elements.{IsInPart}

-- ## The order

pub before_trans : (p q r : Pair) → IsBefore p q → IsBefore q r → IsBefore p r
before_trans p q r (inl a) (inl b) = inl (omega (arith, a, b))
before_trans p q r (inl a) (inr b) = inl (let e = b.0 in omega (arith, a, e))
before_trans p q r (inr a) (inl b) = inl (let e = a.0 in omega (arith, e, b))
before_trans p q r (inr a) (inr b) = inr (a.0 ∙ b.0, (let u = a.1 in let v = b.1 in omega (arith, u, v)))

before_by : (a b : Pair) (r s : Ordering) → MatchOrdering r (a.first < b.first) (a.first ≡ b.first) (b.first < a.first)
    → MatchOrdering s (a.second < b.second) (a.second ≡ b.second) (b.second < a.second)
    → ordering_then r s ≡ Less → IsBefore a b
before_by a b Less s m n e = inl m
before_by a b Equal Less m n e = inr (m, n)
before_by a b Equal Equal m n e = absurd cc
before_by a b Equal Greater m n e = absurd cc
before_by a b Greater s m n e = absurd cc

less_before : (a b : Pair) → cmp-value.it a b ≡ Less → IsBefore a b
less_before a b e =
    before_by a b (nat_cmp a.first b.first) (nat_cmp a.second b.second)
    (ranked a.first b.first (nat_cmp a.first b.first) refl) (ranked a.second b.second (nat_cmp a.second b.second) refl)
    e

same_by : (a b : Pair) (r s : Ordering) → MatchOrdering r (a.first < b.first) (a.first ≡ b.first) (b.first < a.first)
    → MatchOrdering s (a.second < b.second) (a.second ≡ b.second) (b.second < a.second)
    → is_eq (ordering_then r s) ≡ true → a ≡ b
same_by a b Equal Equal m n e = λ i. record { first = m i; second = n i }
same_by a b Less s m n e = absurd cc
same_by a b Greater s m n e = absurd cc
same_by a b Equal Less m n e = absurd cc
same_by a b Equal Greater m n e = absurd cc

same_pair : (a b : Pair) → eq-value.it a b ≡ true → a ≡ b
same_pair a b e =
    same_by a b (nat_cmp a.first b.first) (nat_cmp a.second b.second)
    (ranked a.first b.first (nat_cmp a.first b.first) refl) (ranked a.second b.second (nat_cmp a.second b.second) refl)
    (sym (matches_eq-law a b) ∙ e)

-- ## Sorting

rising_from : (pairs : List Pair) → IsStrictlySortedBy cmp-value.it pairs → AreRising pairs
rising_from pairs sorted = record {
  each = λ i j lt within. less_before (pair_at pairs i) (pair_at pairs j)
      (Less-from_sorted cmp-value.it pairs i j (pair 0 0) sorted lt within);
}

module _ (given sorted once : List Pair) (moved : IsPermutation given sorted) (is : IsSorted cmp-value.it sorted)
    (filtered : IsFiltered (DiffersFromLast eq-value.it) [] sorted once) where
  once_is : once ≡ dedup eq-value.it sorted
  once_is = dedup_is eq-value.it sorted once filtered

  pub ordered_is : AreInOrder given once
  ordered_is = record {
    rising = rising_from once (subst (IsStrictlySortedBy cmp-value.it) (sym once_is)
        (IsStrictlySortedBy-dedup total-law matches_eq-law sorted is));
    same = λ q. (
      λ h. Contains-permutation sorted given q (IsPermutation-sym given sorted moved)
          (Contains-from_dedup eq-value.it sorted q (subst (λ l. Contains l q) once_is h)),
      λ h. subst (λ l. Contains l q) (sym once_is)
          (Contains-dedup laws-law same_pair sorted q (Contains-permutation given sorted q moved h)),
    );
  }

pub swapped_is : (xs : List Pair) (i : ℕ) → i < length xs → (p : Pair) → Contains (take (i + 1) xs) (swapped p)
    ↔ (Contains (take i xs) (swapped p) ⊎ (p ≡ swapped (get_or xs i (pair 0 0))))
swapped_is xs i lt p =
    let more = front_more xs i (pair 0 0) lt (swapped p) in (
      λ h. either (λ o. inl o) (λ e. inr (sym (ap swapped e))) (more.0 h),
      λ h. more.1 (either (λ o. inl o) (λ (e : p ≡ swapped (get_or xs i (pair 0 0))). inr (sym (ap swapped e))) h),
    )

-- ## Halving

module _ (pairs : List Pair) (wanted : Pair) (rising : AreRising pairs) (m : ℕ) (within : m < length pairs) where
  pub before_middle : IsBefore (pair_at pairs m) wanted → (k : ℕ) → k < m + 1 → IsBefore (pair_at pairs k) wanted
  before_middle h k lt =
      either (λ same. subst (λ n. IsBefore (pair_at pairs n) wanted) (sym same) h)
      (λ other. before_trans (pair_at pairs k) (pair_at pairs m) wanted
      (rising.each k m (omega (arith, lt, other)) within) h) (cases_eq k m)

  pub after_middle : (IsBefore (pair_at pairs m) wanted → ⊥) → (k : ℕ) → m ≤ k → k < length pairs
      → IsBefore (pair_at pairs k) wanted → ⊥
  after_middle differs k le lt h =
      either (λ (same : k ≡ m). differs (subst (λ n. IsBefore (pair_at pairs n) wanted) same h))
      (λ other. differs (before_trans (pair_at pairs m) (pair_at pairs k) wanted
      (rising.each m k (omega (arith, le, other)) lt) h)) (cases_eq k m)

-- ## Ranges

abbrev first_of : Pair → ℕ
first_of q = q.first

-- a pair by its number
at_pair : (pairs : List Pair) (p : Pair) (k : ℕ) → k < length pairs → get_or pairs k p ≡ p → pair_at pairs k ≡ p
at_pair pairs p k lt e = get_or_default pairs k (pair 0 0) p lt ∙ e

module _ (pairs : List Pair) (first end from to : ℕ) (low : IsFirstNotBefore pairs (pair first 0) from)
    (high : IsFirstNotBefore pairs (pair end 0) to) where
  -- a pair of the list whose first number is in the range stands between both
  stands_between : (p : Pair) (k : ℕ) → k < length pairs → get_or pairs k p ≡ p → first ≤ p.first → p.first < end
      → (from ≤ k) × (k < to)
  stands_between p k lt e above below = (
    either
        (λ before. either (λ (l : (pair_at pairs k).first < first). absurd (omega (arith, l, ap first_of is, above)))
        (λ (l : ((pair_at pairs k).first ≡ first) × ((pair_at pairs k).second < 0)). absurd (let z = l.1 in omega
        (arith, z)))
        (low.before k before)) (λ le. le) (cases_lt k from),
    either (λ before. before)
        (λ le. absurd (high.after k le lt (inl (let i = ap first_of is in omega (arith, i, below))))) (cases_lt k to),
  )
    where
      is : pair_at pairs k ≡ p
      is = at_pair pairs p k lt e

  -- and one that stands there has it in the range
  between_stands : (p : Pair) (k : ℕ) → k < length pairs → get_or pairs k p ≡ p → from ≤ k → k < to
      → (first ≤ p.first) × (p.first < end)
  between_stands p k lt e le below = (
    either (λ less. absurd (low.after k le lt (inl (let i = ap first_of is in omega (arith, i, less)))))
        (λ above. above)
        (cases_lt p.first first),
    either (λ (l : (pair_at pairs k).first < end). let i = ap first_of is in omega (arith, i, l))
        (λ (l : ((pair_at pairs k).first ≡ end) × ((pair_at pairs k).second < 0)). absurd (let z = l.1 in omega
        (arith, z)))
        (high.before k below),
  )
    where
      is : pair_at pairs k ≡ p
      is = at_pair pairs p k lt e

  pub part_is : from ≤ to → (p : Pair) → IsInPart pairs from to p
      ↔ (Contains pairs p × (first ≤ p.first) × (p.first < end))
  part_is ordered p = (
    λ h. let r = between_stands p h.at h.within h.is h.low h.high in ((h.at, h.within, h.is), r.0, r.1),
    λ ((k, lt, e), above, below). let r = stands_between p k lt e above below in record {
      at = k;
      low = r.0;
      high = r.1;
      within = lt;
      is = e;
    },
  )
