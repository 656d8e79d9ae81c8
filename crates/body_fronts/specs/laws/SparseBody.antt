-- The equations of a body are a system with fronts and slots.
use Rattle.std.specs.Prelude.{◌≡◌, ℕ, true, false, List, length, Option, Some, None, IfSome, MatchOption, refl}
use Rattle.std.proofs.Common.{sym, ap, ◌∙◌}
use Rattle.std.specs.FinMap.{get}
use Rattle.std.specs.Option.{option_map}
use Rattle.sparse_bodies.specs.task_equations.table_covers.tm_lattice.Tables.{IsBelow}
use Rattle.sparse_bodies.specs.task_equations.temporary_types.Sorts.{Sort}
use Rattle.sparse_bodies.specs.task_equations.state_fits.interfere_set.Stores.{Interferences}
use Rattle.sparse_bodies.specs.task_equations.state_fits.transfer_rows.StateForms.{Cell, State, IsCellUnder}
use Rattle.sparse_bodies.specs.task_equations.state_fits.Fits.{FitsStore, FitsCell}
use Rattle.sparse_bodies.specs.task_equations.state_fits.laws.PlacesFit.{states_order, states_join}
use Rattle.sparse_bodies.specs.task_equations.Bodies.{Body}
use Rattle.sparse_bodies.specs.task_equations.Equations.{cells_at, rounded_at, equations_of}
use Rattle.sparse_bodies.specs.task_equations.Premises.{IsBody, FitsBody}
use Rattle.sparse_bodies.specs.task_equations.laws.Lawful.{equations_are_lawful}
use Rattle.sparse_bodies.specs.sparse_tables.Fronts.{IsThere, AreFilled}
use Rattle.sparse_bodies.specs.Carries.{carry_along}
use Rattle.sparse_bodies.specs.task_equations.table_covers.Systems.{from_of, to_of}
use Rattle.sparse_rows.specs.StateParts.{states, state_parts}
use Rattle.sparse_rows.specs.laws.Parts.{are_parts}
use Rattle.front_constraints.specs.Premises.{IsSparseSystem, IsCarrying}
use Rattle.body_fronts.specs.FrontForms.{fronts, cells, FitsFront, FitsCellAt, is_seen}
use Rattle.body_fronts.specs.BodySystems.{rounded_where, Chosen, system_of}
use Rattle.body_fronts.specs.Choices.{IsChosen}
use Rattle.body_fronts.specs.laws.Fitting.{fronts_order, fronts_join, cells_order, cells_join, front_values}
use Rattle.body_fronts.specs.laws.Fitting.{cell_values, roundings}
use Rattle.body_fronts.specs.laws.Carrying.{carries_fit}
use Rattle.body_fronts.specs.laws.Made.{are_made, rounded_is, seen_so, at_cell}

module _ (b : Body) (sorts : List Sort) (is : IsBody b sorts) (tasks : ℕ) (store : Interferences)
    (store_fits : FitsStore b.laid tasks store) (entry : Option State) (entry_fits : IfSome entry (FitsBody b 0))
    (chosen : Chosen) (chosen_is : IsChosen b entry store chosen) where
  same_front : (keys : Option (List ℕ)) (s : State) → (let t = rounded_at b.marks keys s in t.temps ≡ s.temps)
  same_front None s = refl
  same_front (Some keys) s = refl

  there_at : (x : ℕ) (a : Option Cell) → is_seen b x ≡ true → FitsCell b.laid b.task x a → IsThere a
  there_at x None seen h = absurd (h (seen_so b x seen))
  there_at x (Some c) seen h = tt

  above_at : (c d : Option Cell) → IsBelow IsCellUnder c d → IsThere c → IsThere d
  above_at None d le h = absurd h
  above_at (Some c) None le h = absurd le
  above_at (Some c) (Some d) le h = tt

  fits_at : (x : ℕ) (a : Option Cell)
      → MatchOption a (is_seen b x ≡ false) (λ d. (is_seen b x ≡ true) × FitsCellAt b x d)
      → IfSome a (FitsCellAt b x)
  fits_at x None h = tt
  fits_at x (Some c) h = h.1

  cell_fits : (n x : ℕ) (s : State) → FitsBody b n s → IfSome (get s.cells x) (FitsCellAt b x)
  cell_fits n x s fits = fits_at x (get s.cells x)
      (at_cell b x (get s.cells x) (fits.cells x) (let f = fits.form in f.cells x))

  carried_there : (carry : Cell → Cell) (a : Option Cell) → IsThere a → IsThere (option_map carry a)
  carried_there carry None h = h
  carried_there carry (Some c) h = tt

  -- what is at most a cell is carried to at most what that is carried to
  carried_below : (x : ℕ) (carry : Cell → Cell) → IsCarrying cells (FitsCellAt b x) carry → (p q r : Option Cell)
      → IfSome p (FitsCellAt b x) → IfSome q (FitsCellAt b x) → IfSome r (FitsCellAt b x)
      → IsBelow IsCellUnder p q → IsBelow IsCellUnder (option_map carry q) r
      → IsBelow IsCellUnder (option_map carry p) r
  carried_below x carry is-carrying None q r p-fits q-fits r-fits le next = tt
  carried_below x carry is-carrying (Some c) None r p-fits q-fits r-fits le next = absurd le
  carried_below x carry is-carrying (Some c) (Some d) None p-fits q-fits r-fits le next = absurd next
  carried_below x carry is-carrying (Some c) (Some d) (Some e) p-fits q-fits r-fits le next =
      let first = is-carrying.carried c p-fits in
      let second = is-carrying.carried d q-fits in
      cells_order.transitive (carry c) (carry d) e first.form second.form r-fits.form
      (is-carrying.rising c d p-fits q-fits le) next

  are_filled : AreFilled states (FitsBody b) (equations_of b entry store) (state_parts (carry_along b store))
      chosen.place (is_seen b)
  are_filled = record {
    bound = length b.laid.abstract_cells;
    within = λ x seen. (let h = seen_so b x seen in h.cell);
    there = λ n x s fits seen. there_at x (get s.cells x) seen (fits.cells x);
    above = above_at;
    nothing = λ c. tt;
    rounds = λ n x s t s-fits t-fits same.
        rounded_is b x (cells_at b n) s ∙ ap (option_map (rounded_where b.marks (cells_at b n) x)) same
        ∙ sym (rounded_is b x (cells_at b n) t);
    carried = λ e x c there. carried_there (carry_along b store e x) c there;
    carries = λ e x n s t u lt carries s-fits t-fits u-fits le next.
        carried_below x (carry_along b store e x) (carries_fit b tasks store store_fits e x) (get s.cells x)
        (get t.cells x) (get u.cells x) (cell_fits n x s s-fits)
        (cell_fits (from_of (equations_of b entry store).links e) x t t-fits)
        (cell_fits (to_of (equations_of b entry store).links e) x u u-fits) le next;
    beyond = chosen_is.beyond;
  }

  -- The law: with what was chosen the equations of a body are a system with fronts and slots.
  pub body_is_sparse : IsSparseSystem states fronts cells (FitsBody b) (FitsFront b) (FitsCellAt b)
      (system_of b entry store chosen)
  body_is_sparse = record {
    state_order = states_order;
    state_join = states_join;
    law = equations_are_lawful b sorts is tasks store store_fits entry entry_fits;
    front_order = fronts_order;
    front_join = fronts_join;
    cell_order = cells_order;
    cell_join = cells_join;
    front_values = front_values b sorts is chosen_is.node chosen.scratch chosen_is.scratch;
    cell_values = cell_values b sorts is chosen_is.node chosen.scratch chosen_is.scratch;
    roundings = roundings b sorts is chosen_is.node chosen.scratch chosen_is.scratch;
    carryings = λ e x lt cell carries. carries_fit b tasks store store_fits e x;
    pieces = are_parts (FitsBody b) (equations_of b entry store) (carry_along b store) chosen.place
        (λ n s fits. fits.form) (λ n s fits. same_front (cells_at b n) s);
    placed = chosen_is.placed;
    filled = are_filled;
    made = are_made b entry store chosen chosen_is.node chosen_is.scratch (let l = chosen_is.listed in l.cells);
    numbered = chosen_is.numbered;
    listed = chosen_is.listed;
  }
