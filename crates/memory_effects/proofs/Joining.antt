-- Values that are joined to others, and cells that are joined with a value.
use Rattle.std.specs.Prelude.{◌≡◌, ◌≢◌, ℕ, Bool, true, false, cond, eqb, bit_or, List, [], ◌∷◌, ◌++◌, Option, Some}
use Rattle.std.specs.Prelude.{None, refl}
use Rattle.std.proofs.Common.{sym, ap, subst, ◌∙◌, inl, inr}
use Rattle.std.specs.Int.Bits.{or_self}
use Rattle.std.specs.FinMap.{get}
use Rattle.tm_lattice.specs.Tables.{Table, IsTable, IsEntry, changed_table}
use Rattle.tm_lattice.specs.laws.SelectedLaws.{changed_at}
use Rattle.pointer_dom.specs.Values.{Values, IsValues, IsValuesBelow, joined_values}
use Rattle.pointer_dom.specs.laws.ValueLaws.{values_order, values_join}
use Rattle.cell_env.specs.laws.Bits.{or_assoc}
use Rattle.edge_effects.specs.calculations.transfer_rows.StateForms.{Cell, IsCellForm}
use Rattle.edge_effects.specs.calculations.transfer_rows.Accesses.{is_among}
use Rattle.edge_effects.specs.calculations.transfer_rows.Rows.{joining}
use Rattle.edge_effects.proofs.Common.{decided}
use Rattle.memory_effects.proofs.Changing.{IsChangedAmong, among_next}

module _ (v w : Values) (v-is : IsValues v) (w-is : IsValues w) where
  -- what is below adds nothing
  pub join_below : IsValuesBelow w v → joined_values v w ≡ v
  join_below le =
      values_order.antisymmetric (joined_values v w) v (values_join.value v w v-is w-is) v-is
      (values_join.least v w v v-is w-is v-is (values_order.reflexive v v-is) le) (values_join.left v w v-is w-is)

-- a value that is joined twice is joined
module _ (held : ℕ) (v : Values) (v-is : IsValues v) where
  or_twice : (p : ℕ) → bit_or (bit_or p held) held ≡ bit_or p held
  or_twice p = or_assoc p held held ∙ ap (bit_or p) (or_self held)

  joining_twice : (shared : Bool) (c : Cell) → IsValues c.value → joining shared held v (joining shared held v c) ≡ joining shared held v c
  joining_twice true c c-is =
      let again = join_below (joined_values c.value v) v (values_join.value c.value v c-is v-is) v-is (values_join.right c.value v c-is v-is) in
      λ i. record { value = again i; pending = or_twice c.pending i; fresh = c.fresh; stored = c.stored }
  joining_twice false c c-is =
      let again = join_below (joined_values c.value v) v (values_join.value c.value v c-is v-is) v-is (values_join.right c.value v c-is v-is) in
      λ i. record { value = again i; pending = c.pending; fresh = c.fresh; stored = c.stored }

  -- a cell in which the value lies, and the mutexes are pending, is as before
  pub joined_same : (shared : Bool) (e : Cell) → IsValues e.value → cond shared (bit_or e.pending held) e.pending ≡ e.pending → IsValuesBelow v e.value → e ≡ joining shared held v e
  joined_same shared e e-is pending below =
      let value = join_below e.value v e-is v-is below in
      sym (λ i. record { value = value i; pending = pending i; fresh = e.fresh; stored = e.stored })

  module _ (shared : ℕ → Bool) (before : Table Cell) (before-is : IsTable IsCellForm (λ c. ⊥) before) where
    abbrev change : ℕ → Cell → Cell
    change key c = joining (shared key) held v c

    -- one key more
    pub joined_next : (keys : List ℕ) (k : ℕ) (after more : Table Cell) → IsChangedAmong change before keys after
        → more ≡ changed_table (λ key (c : Cell). cond (eqb key k) (joining (shared key) held v c) c) after → IsChangedAmong change before (keys ++ k ∷ []) more
    joined_next keys k after more so is = among_next change before keys k after more so twice is
      where
        again : (a : Option Cell) → get before k ≡ a → changed_at change k (changed_at change k a) ≡ changed_at change k a
        again None e = refl
        again (Some c) e = ap Some (joining_twice (shared k) c (subst (IsEntry IsCellForm (λ d. ⊥)) e (before-is k)).0)

        twice : changed_at change k (get after k) ≡ changed_at change k (get before k)
        twice = elim (decided (is_among keys k)) [
          | inl sure ↦ ap (changed_at change k) (so.among k sure) ∙ again (get before k) refl
          | inr never ↦ ap (changed_at change k) (so.others k never)
        ]
