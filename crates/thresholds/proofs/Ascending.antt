-- A strictly sorted list of numbers in reach is a list of thresholds.
use Rattle.std.proofs.Common.{◌≡◌, refl, true, List, [], slice_index_or, ℤ, ◌<ℤ◌, All, sym, subst}
use Rattle.std.specs.Ordering.{int_cmp, int_eq, MatchOrdering}
use Rattle.std.specs.declared.cmp.Ordering.TheVariants.{Less}
use Rattle.std.specs.Cmp.{int_ranks}
use Rattle.std.specs.List.{dedup}
use Rattle.std.specs.List.Sorted.{IsStrictlySortedBy, IsSorted, IsPermutation}
use Rattle.std.specs.List.Retain.{IsFiltered, DiffersFromLast}
use Rattle.std.proofs.lemmas.Cmp.{int_cmp_total, int_eq_equiv}
use Rattle.std.proofs.lemmas.Bool.Decides.{Decides-int_eq}
use Rattle.std.proofs.lemmas.List.Filters.{dedup_is, All-dedup}
use Rattle.std.proofs.lemmas.List.Kept.{IsStrictlySortedBy-dedup, Contains-dedup, Contains-from_dedup}
use Rattle.std.proofs.lemmas.List.Sorted.{All-permutation, Contains-permutation, IsPermutation-sym}
use Rattle.std.proofs.lemmas.Map.Keys.{Less-from_sorted}
use Rattle.std.proofs.lemmas.List.Elements.{All-get_or}
use Rattle.strided_dom.specs.Progression.{IsInReach}
use Rattle.strided_dom.specs.Rounding.{IsMarkList}
use Rattle.thresholds.specs.Thresholds.{AreInOrder}

less : (x y : ℤ) → int_cmp x y ≡ Less → x <ℤ y
less x y e = subst (λ r. MatchOrdering r (x <ℤ y) (x ≡ y) (y <ℤ x)) e (int_ranks x y)

pub are_marks : (xs : List ℤ) → IsStrictlySortedBy int_cmp xs → All IsInReach xs → IsMarkList xs
are_marks xs s r = record {
  ascending = λ i j d h k. less (slice_index_or xs i d) (slice_index_or xs j d) (Less-from_sorted int_cmp xs i j d s h k);
  in_reach = λ i d h. All-get_or IsInReach xs i d h r;
}

-- what `==` tells of two numbers
is_equal : (x y : ℤ) → int_eq x y ≡ true → x ≡ y
is_equal x y e = (Decides-int_eq x y).0 e

-- a list that was sorted, with each number once
kept_marks_of : (xs ys : List ℤ) → IsPermutation xs ys → IsSorted int_cmp ys → All IsInReach xs → IsMarkList (dedup int_eq ys)
kept_marks_of xs ys p s r =
    are_marks (dedup int_eq ys) (IsStrictlySortedBy-dedup int_cmp_total (λ x y. refl) ys s) (All-dedup int_eq IsInReach ys (All-permutation IsInReach xs ys p r))

in_order_of : (xs ys : List ℤ) → IsPermutation xs ys → IsSorted int_cmp ys → All IsInReach xs → AreInOrder xs (dedup int_eq ys)
in_order_of xs ys p s r = record {
  ascending = kept_marks_of xs ys p s r;
  same = λ z. (
    (λ h. Contains-permutation ys xs z (IsPermutation-sym xs ys p) (Contains-from_dedup int_eq ys z h)),
    (λ h. Contains-dedup int_eq_equiv is_equal ys z (Contains-permutation xs ys z p h)),
  );
}

pub kept_same : (xs ys zs : List ℤ) → IsPermutation xs ys → IsSorted int_cmp ys → IsFiltered (DiffersFromLast int_eq) [] ys zs → All IsInReach xs
    → AreInOrder xs zs
kept_same xs ys zs p s f r = subst (AreInOrder xs) (sym (dedup_is int_eq ys zs f)) (in_order_of xs ys p s r)

pub kept_marks : (xs ys zs : List ℤ) → IsPermutation xs ys → IsSorted int_cmp ys → IsFiltered (DiffersFromLast int_eq) [] ys zs → All IsInReach xs
    → IsMarkList zs
kept_marks xs ys zs p s f r = (kept_same xs ys zs p s f r).ascending
