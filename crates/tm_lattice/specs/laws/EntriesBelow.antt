-- Lists of entries in the order of their keys, the one below the other at each key: what the first entries tell.
use Rattle.std.specs.Prelude.{◌≡◌, ℕ, ◌<◌, List, [], ◌∷◌, Some, None, T, refl}
use Rattle.std.proofs.Common.{sym, ap, subst, ◌∙◌, inl, inr, arith}
use Rattle.std.proofs.lemmas.Bool.{cases_eq}
use Rattle.std.specs.Ordering.{nat_cmp}
use Rattle.std.specs.FinMap.{find, is_sorted}
use Rattle.tm_lattice.specs.laws.Keys.{AllAbove, AllAbove-rest, AllAbove-lower, find-here, find-there, find_below}
use Rattle.tm_lattice.specs.Tables.{IsBelow}

module _ {V : Type 0} (leq : V → V → Type 0) where
  -- at each key the one list is below the other
  abbrev pub AreBelow : List (ℕ × V) → List (ℕ × V) → Type 0
  AreBelow es fs = (key : ℕ) → IsBelow leq (find nat_cmp key es) (find nat_cmp key fs)

  -- an entry that is below a list has a key at or after its first
  pub not_before : (e f : ℕ × V) (es fs : List (ℕ × V)) → T (is_sorted nat_cmp (f ∷ fs)) → AreBelow (e ∷ es) (f ∷ fs)
      → e.0 < f.0 → ⊥
  not_before e f es fs sorted below lt =
      let none : find nat_cmp e.0 (f ∷ fs) ≡ None = find_below e.0 (f ∷ fs)
      (lt, AllAbove-lower e.0 f.0 fs (omega arith) (AllAbove-rest f fs sorted)) in
      subst (IsBelow leq (Some e.1)) none (subst (λ x. IsBelow leq x (find nat_cmp e.0 (f ∷ fs)))
      (find-here e.0 e es refl) (below e.0))

  pub not_empty : (e : ℕ × V) (es : List (ℕ × V)) → AreBelow (e ∷ es) [] → ⊥
  not_empty e es below = subst (λ x. IsBelow leq x None) (find-here e.0 e es refl) (below e.0)

  -- entries of one key
  pub both_first : (e f : ℕ × V) (es fs : List (ℕ × V)) → e.0 ≡ f.0 → AreBelow (e ∷ es) (f ∷ fs) → leq e.1 f.1
  both_first e f es fs same below =
      subst (IsBelow leq (Some e.1)) (find-here e.0 f fs same)
      (subst (λ x. IsBelow leq x (find nat_cmp e.0 (f ∷ fs))) (find-here e.0 e es refl) (below e.0))

  pub both_rest : (e f : ℕ × V) (es fs : List (ℕ × V)) → T (is_sorted nat_cmp (e ∷ es)) → e.0 ≡ f.0
      → AreBelow (e ∷ es) (f ∷ fs) → AreBelow es fs
  both_rest e f es fs sorted same below key = elim (cases_eq key e.0) [
    | inl here ↦ subst (λ x. IsBelow leq x (find nat_cmp key fs))
        (sym (ap (λ k. find nat_cmp k es) here ∙ find_below e.0 es (AllAbove-rest e es sorted))) tt
    | inr differ ↦
        subst (λ x. IsBelow leq x (find nat_cmp key fs)) (find-there key e es differ)
        (subst (IsBelow leq (find nat_cmp key (e ∷ es))) (find-there key f fs (λ k. differ (k ∙ sym same))) (below key))
  ]

  pub both_whole : (e f : ℕ × V) (es fs : List (ℕ × V)) → e.0 ≡ f.0 → leq e.1 f.1 → AreBelow es fs
      → AreBelow (e ∷ es) (f ∷ fs)
  both_whole e f es fs same le below key = elim (cases_eq key e.0) [
    | inl here ↦
        subst (λ x. IsBelow leq x (find nat_cmp key (f ∷ fs))) (sym (find-here key e es here))
        (subst (IsBelow leq (Some e.1)) (sym (find-here key f fs (here ∙ same))) le)
    | inr differ ↦
        subst (λ x. IsBelow leq x (find nat_cmp key (f ∷ fs))) (sym (find-there key e es differ))
        (subst (IsBelow leq (find nat_cmp key es)) (sym (find-there key f fs (λ k. differ (k ∙ sym same)))) (below key))
  ]

  -- a first entry of the greater list whose key comes before all of the lesser one
  pub later_rest : (es fs : List (ℕ × V)) (f : ℕ × V) → AllAbove f.0 es → AreBelow es (f ∷ fs) → AreBelow es fs
  later_rest es fs f above below key = elim (cases_eq key f.0) [
    | inl here ↦ subst (λ x. IsBelow leq x (find nat_cmp key fs))
        (sym (ap (λ k. find nat_cmp k es) here ∙ find_below f.0 es above)) tt
    | inr differ ↦ subst (IsBelow leq (find nat_cmp key es)) (find-there key f fs differ) (below key)
  ]

  pub later_whole : (es fs : List (ℕ × V)) (f : ℕ × V) → AllAbove f.0 es → AreBelow es fs → AreBelow es (f ∷ fs)
  later_whole es fs f above below key = elim (cases_eq key f.0) [
    | inl here ↦ subst (λ x. IsBelow leq x (find nat_cmp key (f ∷ fs)))
        (sym (ap (λ k. find nat_cmp k es) here ∙ find_below f.0 es above)) tt
    | inr differ ↦ subst (IsBelow leq (find nat_cmp key es)) (sym (find-there key f fs differ)) (below key)
  ]
