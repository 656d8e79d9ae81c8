-- The state at the entry of a body fits, and rises with the values of the cells of static storage.
use Rattle.std.specs.Prelude.{◌≡◌, ℕ, zero, suc, ◌<◌, ℤ, Bool, true, false, cond, [], length}
use Rattle.std.specs.Prelude.{Option, Some, None, refl}
use Rattle.std.specs.Prelude.{◌≢◌}
use Rattle.std.proofs.Common.{sym, ap, subst, ◌∙◌, inl, inr, arith}
use Rattle.std.proofs.lemmas.Int.{ints}
use Rattle.std.proofs.lemmas.Bool.{cases_eq, cases_lt, true≢false}
use Rattle.std.specs.Ordering.{nat_cmp}
use Rattle.std.specs.FinMap.{get, insert, get-empty}
use Rattle.edge_filters.specs.strided_dom.Progression.{Has}
use Rattle.region_cells.specs.tm_lattice.Tables.{Table, IsEntry, IsBelow}
use Rattle.region_cells.specs.tm_lattice.laws.TableLaws.{get-insert_here, get-insert_there}
use Rattle.region_cells.specs.tm_cint.declared.int_types.IntType.{IntType}
use Rattle.region_cells.specs.tm_cint.IntTypes.{IsIn, lo_of, hi_of}
use Rattle.region_cells.proofs.low.tm_cint.Values.{IsIn-between, zero_in}
use Rattle.region_cells.specs.tm_typed.declared.types.Scalar.{Scalar}
use Rattle.region_cells.specs.tm_typed.declared.types.Scalar.TheVariants as Scalars
use Rattle.region_cells.specs.tm_laid.Layouts.{LaidTree, abstract_at}
use Rattle.edge_filters.specs.transfer_int.Operands.{AreValues}
use Rattle.edge_filters.specs.pointer_dom.OffsetSets.{OffsetSet, IsOffsetSet, HasNoOffset}
use Rattle.edge_filters.specs.pointer_dom.Values.{Values, IsValues, IsValuesBelow}
use Rattle.edge_filters.specs.pointer_dom.laws.Existence.{spaced_exists}
use Rattle.edge_filters.specs.pointer_dom.laws.ValueLaws.{values_order}
use Rattle.edge_filters.specs.transfer_rows.StateForms.{Cell, State, IsTempForm, IsCellForm, IsStateForm, IsCellUnder}
use Rattle.edge_filters.specs.transfer_rows.StateForms.{IsTempUnder, IsStateUnder}
use Rattle.edge_filters.specs.edge_actions.Layouts.{numbers_between, only_invalid, open_value, is_reachable}
use Rattle.edge_filters.specs.edge_actions.Layouts.{is_shared_cell}
use Rattle.edge_filters.proofs.low.edge_actions.Lists.{decided}
use Rattle.edge_filters.proofs.low.edge_actions.Ranges.{one_range}
use Rattle.task_equations.specs.typed_values.Types.{AreObjects, IsOfType}
use Rattle.task_equations.specs.typed_values.laws.TypeLaws.{typed_values}
use Rattle.task_equations.specs.state_fits.Fits.{file_set, FitsTemp, FitsCopy, IsCellOf, FitsCell, FitsPlace}
use Rattle.task_equations.specs.state_fits.laws.FileSets.{none_within}
use Rattle.program_equations.specs.Entries.{entry_cell, entry_cells, entry_state}

-- ## Values of cells that were not stored yet

between_values : (t : IntType) (low high : ℤ) → IsIn t low → IsIn t high → AreValues t (numbers_between low high)
between_values t low high low-in high-in = record {
  all = λ v p.
      let r = spaced_exists low high 1 in
      let h = r.1.sound v (subst (λ x. Has x v) (sym (one_range low high r.0 r.1)) p) in
      IsIn-between t low v high low-in high-in h.from h.to;
}

module _ (laid : LaidTree) where
  nowhere : AreObjects laid only_invalid
  nowhere object o at = absurd (let none : (let n : Option OffsetSet = None in n ≡ Some o) =
      sym (get-empty nat_cmp object) ∙ at in cc)

  open_typed : (scalar : Scalar) → IsOfType laid scalar (open_value scalar)
  open_typed (Scalars.Int t) =
      let zero = zero_in t in (
        between_values t (lo_of t) (hi_of t)
            (record { at_least = omega (arith, ints); at_most = omega (arith, ints, zero.at_least, zero.at_most) })
            (record { at_least = omega (arith, ints, zero.at_least, zero.at_most); at_most = omega (arith, ints) }),
        refl,
      )
  open_typed (Scalars.Pointer c) =
      (refl, λ key. subst (IsEntry IsOffsetSet HasNoOffset) (sym (get-empty nat_cmp key)) tt, nowhere)

  open_is : (scalar : Scalar) → IsValues (open_value scalar)
  open_is scalar = typed_values laid scalar (open_value scalar) (open_typed scalar)

  -- the value is of the type of the abstract cell
  abbrev pub IsTyped : ℕ → Values → Type 0
  IsTyped x v = let a = abstract_at laid x in IsOfType laid a.scalar v

  pub typed_is : (x : ℕ) (v : Values) → IsTyped x v → IsValues v
  typed_is x v h = let a = abstract_at laid x in typed_values laid a.scalar v h

  module _ (task : ℕ) where
    abbrev reach : ℕ → Bool
    reach x = let a = abstract_at laid x in is_reachable laid task a.object

    -- ## Cells of an entry

    module _ (shared : ℕ → Values) where
      abbrev cells : ℕ → Table Cell
      cells n = entry_cells laid task shared n

      abbrev cell : ℕ → Cell
      cell x = entry_cell laid shared x

      apart : (n x : ℕ) (b : Bool) → x ≢ n → get (cond b (insert (cells n) n (cell n)) (cells n)) x ≡ get (cells n) x
      apart n x true other = get-insert_there (cells n) n (cell n) x other
      apart n x false other = refl

      entry_here : (n x : ℕ) → x < n → reach x ≡ true → get (cells n) x ≡ Some (cell x)
      entry_here zero x lt h = absurd (omega arith)
      entry_here (suc n) x lt h = elim (cases_eq x n) [
        | inl here ↦
            let at_n : reach n ≡ true = ap reach (sym here) ∙ h in
            ap (λ b. get (cond b (insert (cells n) n (cell n)) (cells n)) x) at_n
            ∙ (get-insert_here (cells n) n (cell n) x here ∙ ap (λ z. Some (cell z)) (sym here))
        | inr there ↦ apart n x (reach n) there ∙ entry_here n x (omega (arith, lt, there)) h
      ]

      unreached : (n x : ℕ) (b : Bool) → reach n ≡ b → x ≡ n → (x < suc n → reach x ≡ true → ⊥)
          → ((x < n → reach x ≡ true → ⊥) → get (cells n) x ≡ None)
          → get (cond b (insert (cells n) n (cell n)) (cells n)) x ≡ None
      unreached n x true is here not before = absurd (not (omega arith) (ap reach here ∙ is))
      unreached n x false is here not before = before (λ lt h. true≢false (sym h ∙ (ap reach here ∙ is)))

      no_entry_there : (n x : ℕ) → (x < n → reach x ≡ true → ⊥) → get (cells n) x ≡ None
      no_entry_there zero x not = get-empty nat_cmp x
      no_entry_there (suc n) x not = elim (cases_eq x n) [
        | inl here ↦ unreached n x (reach n) refl here not (λ k. no_entry_there n x k)
        | inr there ↦ apart n x (reach n) there ∙ no_entry_there n x (λ lt h. not (omega (arith, lt)) h)
      ]

    -- ## The state at the entry

    module _ (shared : ℕ → Values) (typed : (x : ℕ) → is_shared_cell laid x ≡ true → IsTyped x (shared x)) where
      abbrev count : ℕ
      count = length laid.abstract_cells

      abbrev state : State
      state = entry_state laid task shared

      value_typed : (x : ℕ) (b : Bool) → is_shared_cell laid x ≡ b
          → (let a = abstract_at laid x in IsOfType laid a.scalar (cond b (shared x) (open_value a.scalar)))
      value_typed x true is = typed x is
      value_typed x false is = let a = abstract_at laid x in open_typed a.scalar

      pub cell_fits : (x : ℕ) → FitsCell laid task x (get state.cells x)
      cell_fits x = elim (cases_lt x count) [
        | inl lt ↦ elim (decided (reach x)) [
          | inl h ↦
              let c : IsCellOf laid x (entry_cell laid shared x) =
              record {
                value = value_typed x (is_shared_cell laid x) refl;
                pending = none_within (file_set laid);
                local = λ none. refl;
                shared = λ both. refl;
              } in
              subst (FitsCell laid task x) (sym (entry_here shared count x lt h)) (record { cell = lt; seen = h }, c)
          | inr h ↦
              let none = no_entry_there shared count x (λ lt' h'. true≢false (sym h' ∙ h)) in
              subst (FitsCell laid task x) (sym none) (λ seen. true≢false (sym seen.seen ∙ h))
        ]
        | inr past ↦
            let none = no_entry_there shared count x (λ lt h. omega (arith, lt, past)) in
            subst (FitsCell laid task x) (sym none) (λ seen. omega (arith, seen.cell, past))
      ]

      entry_form : (x : ℕ) (a : Option Cell) → FitsCell laid task x a → IsEntry IsCellForm (λ c. ⊥) a
      entry_form x None h = tt
      entry_form x (Some c) h = (typed_is x c.value h.1.value, λ none. none)

      pub entry_is : IsStateForm state
      entry_is = record {
        temps = λ t. subst (IsEntry IsTempForm (λ c. ⊥)) (sym (get-empty nat_cmp t)) tt;
        cells = λ x. entry_form x (get state.cells x) (cell_fits x);
      }

      -- it fits the entry of the body, where nothing is live
      pub entry_fits : (Holds : ℕ → Values → Type 0) → FitsPlace laid task Holds [] state
      entry_fits Holds = record {
        form = entry_is;
        temps = λ t. subst (FitsTemp Holds [] t) (sym (get-empty nat_cmp t)) refl;
        copies = λ t. subst (FitsCopy laid task) (sym (get-empty nat_cmp t)) tt;
        cells = cell_fits;
      }

    -- ## More at the entry

    module _ (shared shared' : ℕ → Values)
        (rises : (x : ℕ) → is_shared_cell laid x ≡ true → IsValuesBelow (shared x) (shared' x)) where
      value_rises : (x : ℕ) (b : Bool) → is_shared_cell laid x ≡ b
          → (let a = abstract_at laid x in
          IsValuesBelow (cond b (shared x) (open_value a.scalar)) (cond b (shared' x) (open_value a.scalar)))
      value_rises x true is = rises x is
      value_rises x false is =
          let a = abstract_at laid x in values_order.reflexive (open_value a.scalar) (open_is a.scalar)

      cell_rises : (x : ℕ) → IsCellUnder (entry_cell laid shared x) (entry_cell laid shared' x)
      cell_rises x = record {
        value = value_rises x (is_shared_cell laid x) refl;
        pending = refl;
        fresh = λ h. h;
        stored = λ h. h;
      }

      at_rises : (n x : ℕ) → IsBelow IsCellUnder (get (entry_cells laid task shared n) x)
          (get (entry_cells laid task shared' n) x)
      at_rises n x = elim (cases_lt x n) [
        | inl lt ↦ elim (decided (reach x)) [
          | inl h ↦
              subst (λ a. IsBelow IsCellUnder a (get (entry_cells laid task shared' n) x))
              (sym (entry_here shared n x lt h))
              (subst (IsBelow IsCellUnder (Some (entry_cell laid shared x))) (sym (entry_here shared' n x lt h))
              (cell_rises x))
          | inr h ↦
              subst (λ a. IsBelow IsCellUnder a (get (entry_cells laid task shared' n) x))
              (sym (no_entry_there shared n x (λ lt' h'. true≢false (sym h' ∙ h)))) tt
        ]
        | inr past ↦
            subst (λ a. IsBelow IsCellUnder a (get (entry_cells laid task shared' n) x))
            (sym (no_entry_there shared n x (λ lt h. omega (arith, lt, past)))) tt
      ]

      pub entry_rises : IsStateUnder (entry_state laid task shared) (entry_state laid task shared')
      entry_rises = record {
        temps = λ t. (let other = entry_state laid task shared' in
            subst (λ a. IsBelow IsTempUnder a (get other.temps t)) (sym (get-empty nat_cmp t)) tt);
        cells = λ x. at_rises (length laid.abstract_cells) x;
      }
