-- Constraints are marked one after another.
use Rattle.std.proofs.Common.{◌≡◌, ℕ, ◌+◌, ◌<◌, List, Bool, true, false, length, get_or, set, sym, ap, subst, ◌∙◌, inl, inr, arith}
use Rattle.std.proofs.lemmas.Bool.{cases_eq, false≢true}
use Rattle.std.proofs.lemmas.List.{get_or-set_same, get_or-set_other}

-- those before this number are marked, and no mark was taken away
pub record AreMarked (constraints : List ℕ) (first later : List Bool) (j : ℕ) : Type 0 where
  pub marked : (n : ℕ) → n < j → get_or later (get_or constraints n 0) true ≡ true
  pub others : (k : ℕ) → get_or later k true ≡ false → get_or first k true ≡ false

module _ (constraints : List ℕ) (first later : List Bool) (j : ℕ) (before : AreMarked constraints first later j) where
  abbrev next : ℕ
  next = get_or constraints j 0

  by_number : (P : ℕ → Type 0) → P next → ((n : ℕ) → n < j → P (get_or constraints n 0)) → (n : ℕ) → n < j + 1
      → P (get_or constraints n 0)
  by_number P here there n lt = elim (cases_eq n j) [
    | inl same ↦ subst (λ m. P (get_or constraints m 0)) (sym same) here
    | inr differ ↦ there n (omega arith)
  ]

  -- where the next one is marked already
  pub marked_again : get_or later next true ≡ true → AreMarked constraints first later (j + 1)
  marked_again is = record {
    marked = by_number (λ k. get_or later k true ≡ true) is before.marked;
    others = before.others;
  }

  -- where it is marked now
  pub marked_new : next < length later → AreMarked constraints first (set later next true) (j + 1)
  marked_new within =
      let here : get_or (set later next true) next true ≡ true = get_or-set_same later next true true within in
      record {
        marked = by_number (λ k. get_or (set later next true) k true ≡ true) here
            (λ n lt. elim (cases_eq (get_or constraints n 0) next) [
              | inl same ↦ subst (λ k. get_or (set later next true) k true ≡ true) (sym same) here
              | inr differ ↦ get_or-set_other later next (get_or constraints n 0) true true differ ∙ before.marked n lt
            ]);
        others = λ k quiet. elim (cases_eq k next) [
          | inl same ↦ absurd (false≢true (sym quiet ∙ ap (λ i. get_or (set later next true) i true) same ∙ here))
          | inr differ ↦ before.others k (sym (get_or-set_other later next k true true differ) ∙ quiet)
        ];
      }
