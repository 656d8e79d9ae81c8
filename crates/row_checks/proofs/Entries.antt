-- The loop over the entries of a front.
use Rattle.std.specs.Prelude.{◌≡◌, ◌↔◌, ℕ, Bool, true, List, [], ◌∷◌, Option, Some, None, refl}
use Rattle.std.proofs.Common.{sym, subst, ◌∙◌, inl, inr}
use Rattle.std.specs.List.{list_all}
use Rattle.std.specs.FinMap.{get, entries}
use Rattle.std.proofs.lemmas.Bool.{and_from}
use Rattle.tm_lattice.specs.Tables.{Table}
use Rattle.sparse_rows.specs.transfer_rows.interfere_set.laws.Joins.{IsOf, entry_of, of_entry}
use Rattle.sparse_rows.specs.transfer_rows.StateForms.{Temp}
use Rattle.sparse_rows.specs.Traces.{AreCopies}
use Rattle.row_checks.specs.declared.traces.Traces.{Traces}
use Rattle.row_checks.specs.TracedCells.{may_copy, may_be_fresh, may_pend}
use Rattle.row_checks.specs.reading.Copies.{is_copy_in, is_entry_traced}
use Rattle.row_checks.specs.laws.Passed.{each_of}

all_from : {A : Type 0} (test : A → Bool) (xs : List A) → ((x : A) → IsOf xs x → test x ≡ true)
    → list_all test xs ≡ true
all_from test [] each = refl
all_from test (y ∷ ys) each =
    and_from (test y) (list_all test ys) (each y (inl refl)) (all_from test ys (λ x h. each x (inr h)))

copy_in : (test : ℕ → Bool) (copy : Option ℕ) → ((x : ℕ) → copy ≡ Some x → test x ≡ true) → is_copy_in test copy ≡ true
copy_in test None each = refl
copy_in test (Some x) each = each x refl

module _ (traces : Traces) (front : Table Temp) where
  abbrev Copies : ℕ → Option Temp → Type 0
  Copies u a = AreCopies (may_copy traces) (may_be_fresh traces) (may_pend traces) u a

  at_entry : list_all (is_entry_traced traces) (entries front) ≡ true → (u : ℕ) (a : Option Temp) → get front u ≡ a
      → Copies u a
  at_entry all u None is = tt
  at_entry all u (Some e) is = λ x copy. subst (λ c. is_copy_in (may_copy traces u) c ≡ true) copy
      (each_of (is_entry_traced traces) (entries front) all (u, e) (entry_of front u e is))

  of_entries : ((u : ℕ) → Copies u (get front u)) → list_all (is_entry_traced traces) (entries front) ≡ true
  of_entries each = all_from (is_entry_traced traces) (entries front) (λ e h.
      copy_in (may_copy traces e.0) e.1.copy (subst (Copies e.0) (of_entry front e h) (each e.0)))

  -- what is found of the entries is said of each temporary
  pub entries_traced : (r : Bool) → r ≡ list_all (is_entry_traced traces) (entries front)
      → (r ≡ true) ↔ ((u : ℕ) → Copies u (get front u))
  entries_traced r is = (
    λ all. λ u. at_entry (sym is ∙ all) u (get front u) refl,
    λ each. is ∙ of_entries each,
  )
