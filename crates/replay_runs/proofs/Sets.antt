-- Places sorted, each once; and places that come to others.
use Rattle.std.proofs.Common.{◌≡◌, ℕ, sym, subst, List, [], ◌∷◌, ◌++◌, arith, ◌⊎◌, inl, inr}
use Rattle.std.specs.Prelude.{Contains}
use Rattle.std.specs.List.{dedup}
use Rattle.std.specs.List.Sorted.{IsStrictlySortedBy, IsSorted, IsPermutation}
use Rattle.std.specs.List.Retain.{IsFiltered, DiffersFromLast}
use Rattle.std.specs.declared.cmp.Ordering.{Ordering}
use Rattle.std.specs.declared.cmp.Ordering.TheVariants.{Less}
use Rattle.std.proofs.lemmas.List.Filters.{dedup_is}
use Rattle.std.proofs.lemmas.List.Elements.{Contains-append_left, Contains-append_right, Contains-append_cases}
use Rattle.std.proofs.lemmas.List.Kept.{IsStrictlySortedBy-dedup, Contains-dedup, Contains-from_dedup}
use Rattle.std.proofs.lemmas.List.Sorted.{Contains-permutation, IsPermutation-sym}
use Rattle.std.proofs.lemmas.Map.Keys.{Less-from_sorted, sorted_tail}
use Rattle.tm_terms.specs.declared.places.Place.{Place}
use Rattle.tm_terms.specs.contracts.places.PlaceOrd.TheImpl.{cmp-value}
use Rattle.tm_terms.specs.contracts.places.PlaceOrd.TheImpl.Laws.{total-law, matches_eq-law}
use Rattle.tm_terms.specs.contracts.places.PlacePartialEq.TheImpl.{eq-value}
use Rattle.tm_terms.specs.contracts.places.PlaceEq.TheImpl.Laws.{laws-law}
use Rattle.tm_laid.specs.Layouts.{LaidTree}
use Rattle.concrete_steps.specs.Worlds.{World}
use Rattle.concrete_worlds.specs.Races.{PlaceBefore, AreStrictlySorted, AreRaces, IsRacePlace}
use Rattle.concrete_worlds.proofs.Racing.{is_before, is_same}
use Rattle.replay_runs.specs.reading.Turns.{AddsRaces, IsSetOf}

strictly : (R : Place → Place → Ordering) → ((p q : Place) → R p q ≡ Less → PlaceBefore p q) → (ps : List Place) → IsStrictlySortedBy R ps
    → AreStrictlySorted ps
strictly R less [] s = tt
strictly R less (p ∷ []) s = tt
strictly R less (p ∷ q ∷ ps) s =
    (less p q (Less-from_sorted R (p ∷ q ∷ ps) 0 1 p s (omega arith) (omega arith)), strictly R less (q ∷ ps) (sorted_tail R p (q ∷ ps) s))

pub is_set : (ps qs rs : List Place) → IsPermutation ps qs → IsSorted cmp-value.it qs → IsFiltered (DiffersFromLast eq-value.it) [] qs rs → IsSetOf ps rs
is_set ps qs rs perm sorted filtered =
    let kept : rs ≡ dedup eq-value.it qs = dedup_is eq-value.it qs rs filtered in
    record {
      sorted = strictly cmp-value.it is_before rs (subst (IsStrictlySortedBy cmp-value.it) (sym kept) (IsStrictlySortedBy-dedup total-law matches_eq-law qs sorted));
      all = λ p h. subst (λ z. Contains z p) (sym kept) (Contains-dedup laws-law is_same qs p (Contains-permutation ps qs p perm h));
      only = λ p c. Contains-permutation qs ps p (IsPermutation-sym ps qs perm) (Contains-from_dedup eq-value.it qs p (subst (λ z. Contains z p) kept c));
    }

module _ (laid : LaidTree) (w : World) (places found : List Place) (races : AreRaces laid w found) where
  by_side : (p : Place) → Contains places p ⊎ Contains found p → Contains places p ⊎ IsRacePlace laid w p
  by_side p (inl c) = inl c
  by_side p (inr c) = inr (races.only p c)

  pub adds_races : (places' : List Place) → places' ≡ places ++ found → AddsRaces laid w places places'
  adds_races places' e = record {
    kept = λ p c. subst (λ (z : List Place). Contains z p) (sym e) (Contains-append_left places found p c);
    all = λ p r. subst (λ (z : List Place). Contains z p) (sym e) (Contains-append_right places found p (races.all p r));
    only = λ p c. by_side p (Contains-append_cases places found p (subst (λ (z : List Place). Contains z p) e c));
  }
