-- A row that is applied to a part of the small state brings what it brings from the whole.
use Rattle.std.specs.Prelude.{◌≡◌, ℕ, suc, ◌<◌, List, [], ◌∷◌, length, map, get_or, Option, Some, None}
use Rattle.std.specs.Prelude.{IfSome, option_map, refl}
use Rattle.std.proofs.Common.{sym, ap, subst, ◌∙◌, inl, inr, arith}
use Rattle.std.proofs.lemmas.Bool.{and_parts}
use Rattle.std.specs.FinMap.{get}
use Rattle.table_covers.specs.tm_lattice.Tables.{Table}
use Rattle.edge_actions.specs.transfer_rows.StateForms.{Temp, Cell, State}
use Rattle.edge_actions.specs.transfer_rows.Rows.{after}
use Rattle.mutex_configs.specs.declared.nodes.EdgeCopy.{EdgeCopy}
use Rattle.tm_laid.specs.Layouts.{laid_tree}
use Rattle.task_equations.specs.Bodies.{Body, copy_at, node_at, edge_of}
use Rattle.task_equations.specs.Equations.{around_along, action_along, led}
use Rattle.task_equations.specs.Premises.{FitsBody}
use Rattle.task_equations.specs.state_fits.laws.PlacesFit.{states_order}
use Rattle.cell_placings.specs.CellLists.{cells_at}
use Rattle.sparse_rows.specs.Looked.{Agree, Alike, Looks}
use Rattle.sparse_rows.specs.laws.Checked.{checked_looks}
use Rattle.sparse_rows.specs.laws.Fronts.{front_targets}
use Rattle.sparse_rows.specs.laws.Local.{rows_local}
use Rattle.row_checks.specs.TracedCells.{may_copy, may_be_fresh, may_pend}
use Rattle.row_checks.specs.Passing.{passes_of}
use Rattle.front_constraints.specs.Standings.{fronted, opened, holding}
use Rattle.front_constraints.specs.Systems.{SparseSystem, row, edges, from}
use Rattle.front_constraints.specs.Rules.{front_constraints, FitsVariable, part_of, targets_of, small_at}
use Rattle.front_constraints.specs.laws.Lawful.{small_at_fits}
use Rattle.least_assignments.specs.Constraints.{AreFitting}
use Rattle.body_systems.specs.Systems.{body_of}
use Rattle.body_slots.specs.Slots.{SlotSystemOf, IsSlotSystem, sparse_of, row_passes, PassesRow}
use Rattle.body_slots.specs.Rows.{Values, held_in, row_parts}
use Rattle.body_slots.specs.reading.Small.{HasTraced, IsPart}
use Rattle.body_slots.specs.laws.Chosen.{slots_are_chosen, slots_are_sparse, listed, passes_checks}
use Rattle.body_fronts.specs.FrontForms.{fronts, cells, FitsFront, FitsCellAt}
use Rattle.sparse_rows.specs.StateParts.{states}
use Rattle.body_slots.specs.laws.Parts.{parts_some}

-- ## What states have at cells

held_alike : (s t : State) (xs : List ℕ)
    → ((j : ℕ) → j < length xs → get s.cells (get_or xs j 0) ≡ get t.cells (get_or xs j 0))
    → held_in s xs ≡ held_in t xs
held_alike s t [] same = refl
held_alike s t (x ∷ xs) same =
    let first : option_map holding (get s.cells x) ≡ option_map holding (get t.cells x) =
    ap (option_map holding) (same 0 (omega arith)) in
    let rest = held_alike s t xs (λ j lt. same (suc j) (omega (arith, lt))) in
    λ i. first i ∷ rest i

module _ (v : SlotSystemOf) (e : ℕ) where
  abbrev sys : SparseSystem State (Table Temp) Cell
  sys = sparse_of v

  abbrev b : Body
  b = body_of v.system

  abbrev copy : EdgeCopy
  copy = copy_at b e

  -- whether a row may be applied, the temporaries alone tell
  pub part_passes : (s t : State) → s.temps ≡ t.temps → row_passes v e s ≡ row_passes v e t
  part_passes s t same =
      let w = v.system in
      let slots = v.slots in
      let q = node_at b copy.from in
      let edge = edge_of b copy in
      ap (λ targets. passes_of (laid_tree w.laid) w.task q.held copy.answer edge.op
      (cells_at slots.graph.touched.items e) (cells_at slots.graph.carried.items e) (cells_at slots.graph.looked.items e)
      slots.traces targets w.store)
      (front_targets s t same (action_along b copy))

  module _ (is : IsSlotSystem v) (lt : e < edges (sparse_of v)) where
    touched_agree : (s t : State) → Agree (sys.place.looks e) s t
        → held_in s (sys.touched e) ≡ held_in t (sys.touched e)
    touched_agree s t agree = (let l = listed v is in
        let h = l.touched e lt in
        let c = slots_are_chosen v is in
        held_alike s t (sys.touched e) (λ j j-lt.
        (let x = get_or (sys.touched e) j 0 in
        agree.cells x (c.looked e x lt (and_parts (sys.is_cell x) (sys.place.touches e x) (h.within j j-lt)).1))))

    -- states that are alike where the edge looks have alike parts
    parts_alike : (y z : Option State) → Alike (sys.place.looks e) y z
        → map (part_of sys y) (targets_of sys (row e)) ≡ map (part_of sys z) (targets_of sys (row e))
    parts_alike None None h = refl
    parts_alike None (Some t) h = absurd h
    parts_alike (Some s) None h = absurd h
    parts_alike (Some s) (Some t) h =
        parts_some v e s
        ∙ (let held = touched_agree s t h in λ i. Some (fronted (h.temps i)) ∷ Some opened ∷ held i)
        ∙ sym (parts_some v e t)

    led_alike : (to : Option ℕ) (y z : Option State) → Alike (sys.place.looks e) y z
        → Alike (sys.place.looks e) (led to y) (led to z)
    led_alike None y z h = tt
    led_alike (Some n) y z h = h

    -- a row looks where it may alone
    looks_there : (s : State) → FitsBody b (from sys e) s → HasTraced v s.temps → PassesRow v e s
        → Looks (sys.place.looks e) (action_along b copy) s
    looks_there s fits traced passes = (let w = v.system in
        let slots = v.slots in
        let c = slots_are_chosen v is in
        checked_looks (around_along b copy) (sys.place.touches e) (sys.place.carries e) (sys.place.looks e)
        (may_copy slots.traces) (may_be_fresh slots.traces) (may_pend slots.traces) s s fits.form fits.form (states_order.reflexive s fits.form)
        traced (λ x. c.looked e x lt) (action_along b copy) w.store (passes_checks v is e s passes))

    -- The law: from states that are alike where the edge looks a row brings the same.
    pub alike_rows : (s part : State) → FitsBody b (from sys e) s → HasTraced v s.temps → PassesRow v e s
        → Agree (sys.place.looks e) s part → row_parts v e part ≡ row_parts v e s
    alike_rows s part fits traced passes agree = (let w = v.system in
        sym (parts_alike (sys.equations.after e s) (sys.equations.after e part)
        (led_alike copy.to (after (around_along b copy) (action_along b copy) s w.store)
        (after (around_along b copy) (action_along b copy) part w.store)
        (rows_local (around_along b copy) (sys.place.looks e) (action_along b copy) s part w.store
        (looks_there s fits traced passes) agree))))

    -- so what it brings from a part is what it brings from the whole
    pub part_rows : (a : Values) (part : State) → (p : IsPart v e a part) → FitsBody b (from sys e) p.whole
        → PassesRow v e p.whole → row_parts v e part ≡ row_parts v e p.whole
    part_rows a part p fits passes = (let agree = p.agree in elim p.enough [
      | inl same ↦ ap (row_parts v e) (sym same)
      | inr traced ↦ alike_rows p.whole part fits (subst (HasTraced v) (sym agree.temps) traced) passes agree
    ])

    -- the small state fits the node that the edge leaves
    pub whole_fits : (a : Values) → AreFitting (front_constraints (sparse_of v))
        (FitsVariable (sparse_of v) (FitsFront b) (FitsCellAt b)) a → (s : State)
        → small_at (sparse_of v) e a ≡ Some s → FitsBody b (from sys e) s
    whole_fits a fits s small =
        subst (λ (y : Option State). IfSome y (FitsBody b (from (sparse_of v) e))) small
        (small_at_fits states fronts cells (FitsBody b) (FitsFront b) (FitsCellAt b) (sparse_of v)
        (slots_are_sparse v is) e lt a fits)
