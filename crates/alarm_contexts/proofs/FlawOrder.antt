-- Flaws that are sorted and of which repeats are dropped.
use Rattle.std.proofs.Common.{◌≡◌, suc, ◌<◌, ◌==◌, refl, sym, subst, inl, inr, true}
use Rattle.std.proofs.Common.{List, [], ◌∷◌, arith}
use Rattle.std.specs.Prelude.{Contains}
use Rattle.std.specs.List.{dedup}
use Rattle.std.specs.List.Sorted.{IsStrictlySortedBy, IsSorted, IsPermutation}
use Rattle.std.specs.List.Retain.{IsFiltered, DiffersFromLast}
use Rattle.std.specs.Ordering.{nat_cmp, ordering_then, MatchOrdering}
use Rattle.std.specs.declared.cmp.Ordering.{Ordering}
use Rattle.std.specs.declared.cmp.Ordering.TheVariants.{Less, Equal, Greater}
use Rattle.std.proofs.lemmas.Bool.{eqb-true, and_parts}
use Rattle.std.proofs.lemmas.Cmp.{ranked}
use Rattle.std.proofs.lemmas.List.Filters.{dedup_is}
use Rattle.std.proofs.lemmas.List.Kept.{IsStrictlySortedBy-dedup, Contains-dedup, Contains-from_dedup}
use Rattle.std.proofs.lemmas.List.Sorted.{Contains-permutation, IsPermutation-sym}
use Rattle.std.proofs.lemmas.Map.Keys.{Less-from_sorted, sorted_tail}
use Rattle.alarm_contexts.specs.declared.flaws.Flaw.{Flaw}
use Rattle.alarm_contexts.specs.declared.flaws.Flaw.TheVariants.{Gone, Offset, Before, Behind}
use Rattle.alarm_contexts.specs.declared.flaws.ObjectFlaw.{ObjectFlaw}
use Rattle.alarm_contexts.specs.contracts.flaws.FlawOrd.TheImpl as flaw_ord
use Rattle.alarm_contexts.specs.contracts.flaws.FlawPartialEq.TheImpl as flaw_eq
use Rattle.alarm_contexts.specs.contracts.flaws.ObjectFlawOrd.TheImpl.{cmp-value}
use Rattle.alarm_contexts.specs.contracts.flaws.ObjectFlawOrd.TheImpl.Laws.{total-law, matches_eq-law}
use Rattle.alarm_contexts.specs.contracts.flaws.ObjectFlawPartialEq.TheImpl.{eq-value}
use Rattle.alarm_contexts.specs.contracts.flaws.ObjectFlawEq.TheImpl.Laws.{laws-law}
use Rattle.access_races.specs.Rising.{AreRising}
use Rattle.alarm_contexts.specs.Order.{IsFlawBefore, flaw_number}
use Rattle.alarm_contexts.specs.reading.Merging.{AreOrdered}

flaw_less : (a b : Flaw) → flaw_ord.cmp-value.it a b ≡ Less → flaw_number a < flaw_number b
flaw_less Gone Gone e = absurd cc
flaw_less Gone Offset e = omega arith
flaw_less Gone Before e = omega arith
flaw_less Gone Behind e = omega arith
flaw_less Offset Gone e = absurd cc
flaw_less Offset Offset e = absurd cc
flaw_less Offset Before e = omega arith
flaw_less Offset Behind e = omega arith
flaw_less Before Gone e = absurd cc
flaw_less Before Offset e = absurd cc
flaw_less Before Before e = absurd cc
flaw_less Before Behind e = omega arith
flaw_less Behind Gone e = absurd cc
flaw_less Behind Offset e = absurd cc
flaw_less Behind Before e = absurd cc
flaw_less Behind Behind e = absurd cc

flaw_same : (a b : Flaw) → flaw_eq.eq-value.it a b ≡ true → a ≡ b
flaw_same Gone Gone e = refl
flaw_same Gone Offset e = absurd cc
flaw_same Gone Before e = absurd cc
flaw_same Gone Behind e = absurd cc
flaw_same Offset Gone e = absurd cc
flaw_same Offset Offset e = refl
flaw_same Offset Before e = absurd cc
flaw_same Offset Behind e = absurd cc
flaw_same Before Gone e = absurd cc
flaw_same Before Offset e = absurd cc
flaw_same Before Before e = refl
flaw_same Before Behind e = absurd cc
flaw_same Behind Gone e = absurd cc
flaw_same Behind Offset e = absurd cc
flaw_same Behind Before e = absurd cc
flaw_same Behind Behind e = refl

before_by : (a b : ObjectFlaw) (r s : Ordering)
    → MatchOrdering r (a.object < b.object) (a.object ≡ b.object) (b.object < a.object)
    → (s ≡ Less → flaw_number a.flaw < flaw_number b.flaw) → ordering_then r s ≡ Less → IsFlawBefore a b
before_by a b Less s m f e = inl m
before_by a b Equal s m f e = inr (m, f e)
before_by a b Greater s m f e = absurd cc

is_before : (a b : ObjectFlaw) → cmp-value.it a b ≡ Less → IsFlawBefore a b
is_before a b e =
    before_by a b (nat_cmp a.object b.object) (flaw_ord.cmp-value.it a.flaw b.flaw)
    (ranked a.object b.object (nat_cmp a.object b.object) refl) (flaw_less a.flaw b.flaw) e

is_same : (a b : ObjectFlaw) → eq-value.it a b ≡ true → a ≡ b
is_same a b e =
    let parts = and_parts (a.object == b.object) (flaw_eq.eq-value.it a.flaw b.flaw) e in
    let object = eqb-true a.object b.object parts.0 in
    let flaw = flaw_same a.flaw b.flaw parts.1 in
    λ i. record { object = object i; flaw = flaw i }

rising : (xs : List ObjectFlaw) → IsStrictlySortedBy cmp-value.it xs → AreRising IsFlawBefore xs
rising [] s = tt
rising (x ∷ xs) s = (
  λ y h. is_before x y (subst (λ z. cmp-value.it x z ≡ Less) h.2
      (Less-from_sorted cmp-value.it (x ∷ xs) 0 (suc h.0) y s (omega arith) (omega (arith, h.1)))),
  rising xs (sorted_tail cmp-value.it x xs s),
)

module _ (given sorted kept : List ObjectFlaw) (perm : IsPermutation given sorted)
    (is : IsSorted cmp-value.it sorted) (filtered : IsFiltered (DiffersFromLast eq-value.it) [] sorted kept) where
  are : kept ≡ dedup eq-value.it sorted
  are = dedup_is eq-value.it sorted kept filtered

  pub are_ordered : AreOrdered given kept
  are_ordered = record {
    rising = rising kept (subst (IsStrictlySortedBy cmp-value.it) (sym are)
        (IsStrictlySortedBy-dedup total-law matches_eq-law sorted is));
    same = λ f. (
      λ h. Contains-permutation sorted given f (IsPermutation-sym given sorted perm)
          (Contains-from_dedup eq-value.it sorted f (subst (λ z. Contains z f) are h)),
      λ h. subst (λ z. Contains z f) (sym are)
          (Contains-dedup laws-law is_same sorted f (Contains-permutation given sorted f perm h)),
    );
  }
