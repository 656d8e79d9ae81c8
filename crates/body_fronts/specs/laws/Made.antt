-- States of a body are made of a front and cells.
use Rattle.std.specs.Prelude.{◌≡◌, ℕ, ◌&&◌, ltb, Bool, true, false, List, length, Option, Some, None}
use Rattle.std.specs.Prelude.{MatchOption, refl}
use Rattle.std.proofs.Common.{sym, subst, ◌∙◌}
use Rattle.std.proofs.lemmas.Bool.{false≢true, true≢false, lt-ltb, ltb-true}
use Rattle.std.specs.FinMap.{get}
use Rattle.std.specs.Option.{option_map}
use Rattle.sparse_bodies.specs.task_equations.table_covers.tm_lattice.Tables.{IsEntry, rounded_among}
use Rattle.sparse_bodies.specs.task_equations.table_covers.tm_lattice.laws.SelectedLaws.{changed_at, get-changed_table}
use Rattle.sparse_bodies.specs.task_equations.temporary_types.tm_laid.Layouts.{abstract_at}
use Rattle.sparse_bodies.specs.task_equations.value_heights.pointer_dom.Values.{rounded_values}
use Rattle.sparse_bodies.specs.task_equations.state_fits.cell_env.Cells.{rounded_cell}
use Rattle.sparse_bodies.specs.task_equations.state_fits.interfere_set.Stores.{Interferences}
use Rattle.sparse_bodies.specs.task_equations.state_fits.transfer_rows.StateForms.{Cell, State, IsCellForm}
use Rattle.sparse_bodies.specs.task_equations.state_fits.edge_actions.Layouts.{is_reachable}
use Rattle.sparse_bodies.specs.task_equations.state_fits.Fits.{IsSeenCell, FitsCell}
use Rattle.sparse_bodies.specs.task_equations.Bodies.{Body}
use Rattle.sparse_bodies.specs.task_equations.Equations.{cells_at, rounded_at}
use Rattle.sparse_bodies.specs.task_equations.Premises.{FitsBody}
use Rattle.sparse_rows.specs.StateParts.{states}
use Rattle.front_constraints.specs.Systems.{AreListed}
use Rattle.front_constraints.specs.Premises.{AreMade}
use Rattle.body_fronts.specs.FrontForms.{fronts, cells, FitsFront, FitsCellAt, is_seen}
use Rattle.body_fronts.specs.BodySystems.{table_with, rounded_where, Chosen, system_of}
use Rattle.body_fronts.specs.laws.Tables.{get-listed, get-unlisted, is_listed, is_unlisted}

-- the cell is seen where the test says so
pub first_true : (a c : Bool) → (a && c) ≡ true → a ≡ true
first_true true c h = refl
first_true false c h = absurd (false≢true h)

second_true : (a c : Bool) → (a && c) ≡ true → c ≡ true
second_true true c h = h
second_true false c h = absurd (false≢true h)

both_true : (a c : Bool) → a ≡ true → c ≡ true → (a && c) ≡ true
both_true true c h k = k
both_true false c h k = absurd (false≢true h)

module _ (b : Body) where
  pub seen_so : (x : ℕ) → is_seen b x ≡ true → IsSeenCell b.laid b.task x
  seen_so x h = (let a = abstract_at b.laid x in record {
    cell = ltb-true x (length b.laid.abstract_cells)
        (first_true (ltb x (length b.laid.abstract_cells)) (is_reachable b.laid b.task a.object) h);
    seen = second_true (ltb x (length b.laid.abstract_cells)) (is_reachable b.laid b.task a.object) h;
  })

  pub so_seen : (x : ℕ) → IsSeenCell b.laid b.task x → is_seen b x ≡ true
  so_seen x h = (let a = abstract_at b.laid x in
      both_true (ltb x (length b.laid.abstract_cells)) (is_reachable b.laid b.task a.object)
      (lt-ltb x (length b.laid.abstract_cells) h.cell) h.seen)

  not_seen : (x : ℕ) → (IsSeenCell b.laid b.task x → ⊥) → is_seen b x ≡ false
  not_seen x h = by (is_seen b x) refl
    where
      by : (t : Bool) → is_seen b x ≡ t → is_seen b x ≡ false
      by true is = absurd (h (seen_so x is))
      by false is = is

  -- what a state that fits has at a cell
  pub at_cell : (x : ℕ) (a : Option Cell) → FitsCell b.laid b.task x a → IsEntry IsCellForm (λ c. ⊥) a
      → MatchOption a (is_seen b x ≡ false) (λ d. (is_seen b x ≡ true) × FitsCellAt b x d)
  at_cell x None h e = not_seen x h
  at_cell x (Some c) h e = (so_seen x h.0, record { form = e.0; of = h.1 })

  entry_of : (x : ℕ) (a : Option Cell) → MatchOption a ⊥ (FitsCellAt b x) → IsEntry IsCellForm (λ c. ⊥) a
  entry_of x None h = absurd h
  entry_of x (Some c) h = (h.form, λ none. none)

  fits_of : (x : ℕ) (a : Option Cell) → is_seen b x ≡ true → MatchOption a ⊥ (FitsCellAt b x)
      → FitsCell b.laid b.task x a
  fits_of x None seen h = absurd h
  fits_of x (Some c) seen h = (seen_so x seen, h.of)

  module _ (list : List ℕ) (listed : AreListed (is_seen b) list) (c : ℕ → Option Cell)
      (given : (x : ℕ) → is_seen b x ≡ true → MatchOption (c x) ⊥ (FitsCellAt b x)) where
    pub cell_given : (x : ℕ) → is_seen b x ≡ true → get (table_with c list) x ≡ c x
    cell_given x seen = get-listed c list x (is_listed (is_seen b) list listed x seen)

    none_given : (x : ℕ) → is_seen b x ≡ false → get (table_with c list) x ≡ None
    none_given x other = get-unlisted c list x (is_unlisted (is_seen b) list listed x other)

    pub entries : (x : ℕ) → IsEntry IsCellForm (λ c. ⊥) (get (table_with c list) x)
    entries x = by (is_seen b x) refl
      where
        by : (t : Bool) → is_seen b x ≡ t → IsEntry IsCellForm (λ c. ⊥) (get (table_with c list) x)
        by true is = subst (IsEntry IsCellForm (λ c. ⊥)) (sym (cell_given x is)) (entry_of x (c x) (given x is))
        by false is = subst (IsEntry IsCellForm (λ c. ⊥)) (sym (none_given x is)) tt

    pub cells_fit : (x : ℕ) → FitsCell b.laid b.task x (get (table_with c list) x)
    cells_fit x = by (is_seen b x) refl
      where
        by : (t : Bool) → is_seen b x ≡ t → FitsCell b.laid b.task x (get (table_with c list) x)
        by true is = subst (FitsCell b.laid b.task x) (sym (cell_given x is)) (fits_of x (c x) is (given x is))
        by false is = subst (FitsCell b.laid b.task x) (sym (none_given x is))
            (λ seen. true≢false (sym (so_seen x seen) ∙ is))

  -- ## Rounding

  changed_is : (round : ℕ → Cell → Cell) (x : ℕ) (a : Option Cell) → changed_at round x a ≡ option_map (round x) a
  changed_is round x None = refl
  changed_is round x (Some c) = refl

  same_map : (a : Option Cell) → a ≡ option_map (λ (c : Cell). c) a
  same_map None = refl
  same_map (Some c) = refl

  pub rounded_is : (x : ℕ) (keys : Option (List ℕ)) (s : State)
      → (let t = rounded_at b.marks keys s in get t.cells x ≡ option_map (rounded_where b.marks keys x) (get s.cells x))
  rounded_is x None s = same_map (get s.cells x)
  rounded_is x (Some keys) s =
      get-changed_table (rounded_among (rounded_cell (rounded_values b.marks)) keys) s.cells x
      ∙ changed_is (rounded_among (rounded_cell (rounded_values b.marks)) keys) x (get s.cells x)

  scratch_at : (x : ℕ) (a : Option Cell) → is_seen b x ≡ true
      → MatchOption a (is_seen b x ≡ false) (λ d. (is_seen b x ≡ true) × FitsCellAt b x d)
      → MatchOption a ⊥ (FitsCellAt b x)
  scratch_at x None seen h = true≢false (sym seen ∙ h)
  scratch_at x (Some c) seen h = h.1

  -- ## The law

  pub are_made : (entry : Option State) (store : Interferences) (chosen : Chosen) (m : ℕ)
      → FitsBody b m chosen.scratch → AreListed (is_seen b) chosen.cells
      → AreMade states fronts cells (FitsBody b) (FitsFront b) (FitsCellAt b) (system_of b entry store chosen)
  are_made entry store chosen m scratch_fits listed = record {
    front_fits = λ n s h. record { form = (let f = h.form in f.temps); temps = h.temps; copies = h.copies };
    cell_fits = λ n x s h. at_cell x (get s.cells x) (h.cells x) (let f = h.form in f.cells x);
    state_fits = λ n f c h given. record {
      form = record { temps = h.form; cells = entries chosen.cells listed c given };
      temps = h.temps;
      copies = h.copies;
      cells = cells_fit chosen.cells listed c given;
    };
    front_is = λ f c. refl;
    cell_is = λ f c x seen. get-listed c chosen.cells x (is_listed (is_seen b) chosen.cells listed x seen);
    scratch_fits = λ x seen. (let s = chosen.scratch in let f = scratch_fits.form in
        scratch_at x (get s.cells x) seen (at_cell x (get s.cells x) (scratch_fits.cells x) (f.cells x)));
    rounded = λ n x s h. rounded_is x (cells_at b n) s;
  }
