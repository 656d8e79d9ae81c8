-- Cells that were not stored, life by life.
use Rattle.std.proofs.Common.{◌≡◌, ◌↔◌, ◌⊎◌, ℕ, ◌+◌, ◌<◌, ◌≤◌, inl, inr, refl, sym, ap, subst, ◌∙◌, List, [], ◌∷◌, ◌++◌}
use Rattle.std.proofs.Common.{length}
use Rattle.std.proofs.Common.{None, take, get_or, IsTrue, Bool, true, false, arith}
use Rattle.std.specs.Prelude.{Contains}
use Rattle.std.specs.FinMap.{get}
use Rattle.std.proofs.lemmas.Bool.{true≢false}
use Rattle.std.proofs.lemmas.List.{take_all}
use Rattle.tm_laid.specs.Layouts.{abstract_at, is_shared}
use Rattle.tm_typed.specs.declared.types.Scalar.{Scalar}
use Rattle.post_recheck.specs.transfer_rows.StateForms.{State}
use Rattle.post_recheck.specs.transfer_rows.Rows.{is_stored}
use Rattle.path_origins.specs.declared.origins.Life.{Life}
use Rattle.operand_orders.specs.Reached.{SolvedBody, targets}
use Rattle.operand_orders.specs.declared.scopes.ObjectLives.{ObjectLives}
use Rattle.operand_orders.specs.access_races.reading.Ways.{list_at, HasOne}
use Rattle.operand_orders.specs.reading.Scopes.{AreLivesOf}
use Rattle.open_choices.specs.Unset.{IsUninitialised, FindsUnset}
use Rattle.open_choices.specs.reading.Found.{AreUninitialised, LoadsUnset}
use Rattle.open_choices.proofs.ChoiceLists.{either, front_more, front_none}

-- what stands in place of a life that there is not
abbrev pub no_life : Life
no_life = record {
  object = 0;
  place = record { line = 0; col = 0 };
  begins = 0;
  scope = record { first = 0; end = 0 };
  initialiser = None;
}

module _ (edge : ℕ) (lives : List Life) where
  pub uninitialised_none : AreUninitialised edge (take 0 lives)
  uninitialised_none life has = absurd (front_none lives life has)

  pub uninitialised_more : (i : ℕ) (life : Life) → i < length lives → life ≡ get_or lives i life
      → AreUninitialised edge (take i lives) → IsUninitialised edge life → AreUninitialised edge (take (i + 1) lives)
  uninitialised_more i life lt at before here other has =
      either (before other) (λ same. subst (IsUninitialised edge) (at ∙ same) here)
      ((front_more lives i life lt other).0 has)

  pub uninitialised_all : (i : ℕ) → length lives ≤ i → AreUninitialised edge (take i lives)
      → AreUninitialised edge lives
  uninitialised_all i end h = subst (AreUninitialised edge) (take_all i lives end) h

module _ (b : SolvedBody) (edge : ℕ) (s : State) (cell object : ℕ)
    (of : object ≡ (let a = abstract_at b.laid cell in a.object)) where
  pub shared_set : is_shared b.laid object ≡ true → FindsUnset b edge s cell → ⊥
  shared_set e h = true≢false (sym e ∙ (ap (is_shared b.laid) of ∙ h.local))

  pub stored_set : is_stored (get s.cells cell) ≡ true → FindsUnset b edge s cell → ⊥
  stored_set e h = true≢false (sym e ∙ h.unset)

  module _ (lives : ObjectLives) (are : (let o = b.origins in AreLivesOf o.lives.items lives)) where
    pub found_unset : is_shared b.laid object ≡ false → is_stored (get s.cells cell) ≡ false
        → AreUninitialised edge (list_at lives.by_object.items object) → FindsUnset b edge s cell
    found_unset local unset all = record {
      local = ap (is_shared b.laid) (sym of) ∙ local;
      unset = unset;
      uninitialised = λ life has at. all life ((are.each object life).1 (has, at ∙ sym of));
    }

    pub unset_found : FindsUnset b edge s cell → AreUninitialised edge (list_at lives.by_object.items object)
    unset_found h life has =
        let both = (are.each object life).0 has in h.uninitialised life both.0 (both.1 ∙ of)

module _ (b : SolvedBody) (s : State) (scalar : Scalar) (address : ℕ) (xs : List ℕ)
    (are : xs ≡ targets b scalar address s) where
  pub loads : (edge : ℕ) → HasOne (FindsUnset b edge s) xs ↔ LoadsUnset b edge s scalar address
  loads edge = (
    λ h. record { cell = h.one; target = subst (λ ys. Contains ys h.one) are h.has; finds = h.is },
    λ l. record { one = l.cell; has = subst (λ ys. Contains ys l.cell) (sym are) l.target; is = l.finds },
  )

-- a test that says the same
pub same_test : {P Q : Type 0} (is : Bool) → (IsTrue is ↔ P) → (P ↔ Q) → IsTrue is ↔ Q
same_test {P} {Q} is test same = (λ e. same.0 (test.0 e), λ q. test.1 (same.1 q))
