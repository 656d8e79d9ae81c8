-- What is computed of a body is what is to be chosen for it: its constraints are lawful, and the table of their least
-- assignment is the least solution of its equations.
use Rattle.std.specs.Prelude.{◌≡◌, ℕ, ◌<◌, Bool, true, false, ◌||◌, ◌==◌, not, cond, List, length, map, Option, Some}
use Rattle.std.specs.Prelude.{None, IfSome, refl}
use Rattle.std.proofs.Common.{sym, ap, subst, ◌∙◌}
use Rattle.std.proofs.lemmas.Bool.{true≢false}
use Rattle.std.specs.FinMap.{get}
use Rattle.std.specs.List.{list_any}
use Rattle.table_covers.specs.declared.links.Link.{Link}
use Rattle.table_covers.specs.tm_lattice.Tables.{Table}
use Rattle.table_covers.specs.Solutions.{NodeTable, IsLeastSolution}
use Rattle.sparse_tables.specs.Sparse.{Placing, IsPlaced}
use Rattle.sparse_tables.specs.Fronts.{IsExpanded}
use Rattle.sparse_rows.specs.StateParts.{states}
use Rattle.sparse_rows.specs.Traces.{IsTraced}
use Rattle.cell_placings.specs.CellLists.{is_in, cells_at}
use Rattle.cell_placings.specs.OwnerTrees.{owns_in, kept_in}
use Rattle.cell_placings.specs.Placed.{IsCellPlaced}
use Rattle.cell_placings.specs.laws.PlacedCells.{is_placed}
use Rattle.edge_actions.specs.transfer_rows.StateForms.{Temp, Cell, State}
use Rattle.task_equations.specs.Bodies.{Body, copy_at, node_at, edge_of}
use Rattle.task_equations.specs.Equations.{cells_at as rounded_cells, link_of, rounded_at, equations_of, tests_pointer}
use Rattle.task_equations.specs.Equations.{around_along, action_along}
use Rattle.task_equations.specs.Premises.{FitsBody}
use Rattle.sparse_bodies.specs.laws.BodyLeast.{plain_where}
use Rattle.least_assignments.specs.Constraints.{Assignment, AreLawful}
use Rattle.least_assignments.specs.Solutions.{IsLeast, AreAllowed}
use Rattle.front_constraints.specs.declared.standings.Standing.{Standing}
use Rattle.front_constraints.specs.Standings.{standings, HasParts, IsStandingBelow, joined_standing}
use Rattle.front_constraints.specs.Systems.{AreNumbered, AreCellsListed, Rule, entered, row, flow}
use Rattle.front_constraints.specs.Rules.{front_constraints, FitsVariable, Allows, AllowsRule, small_at, fronts_of}
use Rattle.front_constraints.specs.Premises.{IsSparseSystem}
use Rattle.front_constraints.specs.laws.Lawful.{are_lawful}
use Rattle.body_systems.specs.Systems.{SystemOf, body_of}
use Rattle.body_fronts.specs.FrontForms.{fronts, cells, FitsFront, FitsCellAt, is_seen}
use Rattle.body_fronts.specs.Choices.{IsChosen, ChecksEdge}
use Rattle.body_fronts.specs.laws.SparseBody.{body_is_sparse}
use Rattle.body_fronts.specs.laws.BodySolved.{body_assignment_solves}
use Rattle.row_checks.specs.TracedCells.{may_copy, may_be_fresh, may_pend}
use Rattle.row_checks.specs.laws.Passed.{passes_is_checked, passes_alike}
use Rattle.tm_laid.specs.Layouts.{laid_tree}
use Rattle.edge_actions.specs.transfer_rows.Reports.{targets_of}
use Rattle.slot_numbers.specs.Numberings.{numbers_of}
use Rattle.slot_numbers.specs.laws.Systems.{IsSystemOver, are_numbered, are_cells_listed}
use Rattle.body_slots.specs.Placed.{seen_placing}
use Rattle.body_slots.specs.Slots.{Slots, is_rounded_in, chosen_of, SlotSystemOf, IsSlotSystem, sparse_of}
use Rattle.body_slots.specs.Slots.{PassesRow, AllowsSlots, carrying_parts}
use Rattle.body_slots.specs.laws.SeenPlaced.{is_seen_placed}
use Rattle.body_slots.specs.laws.Alike.{least_alike}

-- ## Roundings

-- a placing by which nodes own what is rounded there
abbrev rounding_place : Body → Placing
rounding_place b = record {
  touches = λ e x. false;
  looks = λ e x. false;
  carries = λ e x. false;
  owns = λ n x. is_rounded_in (rounded_cells b n) x;
  kept_at = λ n x. n;
}

unrounded : (keys : Option (List ℕ)) (x : ℕ) → is_rounded_in keys x ≡ false
    → IfSome keys (λ list. list_any (λ k. k == x) list ≡ false)
unrounded None x h = tt
unrounded (Some list) x h = h

module _ (v : SlotSystemOf) (is : IsSlotSystem v) where
  abbrev w : SystemOf
  w = v.system

  abbrev s : Slots
  s = v.slots

  abbrev b : Body
  b = body_of w

  abbrev place : Placing
  place = seen_placing (is_seen b) s.graph s.tree

  placed : IsCellPlaced s.graph place
  placed = is_seen_placed (is_seen b) s.graph s.tree is.slots.placed

  leaves : (n x : ℕ) (t : State) → n < length b.nodes → FitsBody b n t
      → is_in (cells_at s.graph.rounded.items n) x ≡ false
      → (let u = rounded_at b.marks (rounded_cells b n) t in get u.cells x ≡ get t.cells x)
  leaves n x t lt fits other =
      plain_where b (rounding_place b) (λ m y h. unrounded (rounded_cells b m) y h) n x t
      (sym (is.slots.rounded n x lt) ∙ other)

  pub slots_placed : IsPlaced states (FitsBody b) (equations_of b w.entry w.store) (carrying_parts v) place
  slots_placed =
      is_placed states (FitsBody b) (equations_of b w.entry w.store) (carrying_parts v) place s.graph
      (record { nodes = is.slots.nodes; links = is.slots.links }) placed leaves

  beyond : (n x : ℕ) → is_seen b x ≡ false → place.owns n x ≡ true
  beyond n x h = ap (λ t. not t || owns_in s.tree n x) h

  looked : (e x : ℕ) → e < length (map link_of b.copies) → place.touches e x ≡ true → place.looks e x ≡ true
  looked =
      subst (λ (l : List Link). (e x : ℕ) → e < length l → place.touches e x ≡ true → place.looks e x ≡ true)
      is.slots.links placed.looked

  owned_so : (t o : Bool) → t ≡ true → (not t || o) ≡ o
  owned_so true o h = refl
  owned_so false o h = absurd (true≢false (sym h))

  kept_so : (t : Bool) (m n : ℕ) → t ≡ true → cond t m n ≡ m
  kept_so true m n h = refl
  kept_so false m n h = absurd (true≢false (sym h))

  pub over : IsSystemOver (sparse_of v) s.graph s.tree s.cells s.numbering
  over = record {
    nodes = sym is.slots.nodes;
    links = sym is.slots.links;
    counted = λ x. sym (is.slots.seen x);
    touches = λ e x. refl;
    looks = λ e x. refl;
    owns = λ n x h. owned_so (is_seen b x) (owns_in s.tree n x) h;
    kept_at = λ n x h. kept_so (is_seen b x) (kept_in s.tree n x) n h;
    cells_are = refl;
    looked = λ e. refl;
    touched = λ e. refl;
    numbers = refl;
  }

  pub numbered : AreNumbered (sparse_of v)
  numbered = are_numbered (sparse_of v) s.graph s.tree s.cells s.numbering over is.slots.numbered

  pub listed : AreCellsListed (sparse_of v)
  listed = are_cells_listed (sparse_of v) s.graph s.tree s.cells s.numbering over is.slots.numbered

  pub entry_fits : FitsBody b 0 v.entry
  entry_fits = subst (λ y. IfSome y (FitsBody b 0)) is.begins (let k = is.system in k.entry)

  pub slots_are_chosen : IsChosen b w.entry w.store (chosen_of b v.entry s)
  slots_are_chosen = record {
    node = 0;
    scratch = entry_fits;
    placed = slots_placed;
    beyond = beyond;
    looked = looked;
    numbered = numbered;
    listed = listed;
  }

  pub slots_are_sparse : IsSparseSystem states fronts cells (FitsBody b) (FitsFront b) (FitsCellAt b) (sparse_of v)
  slots_are_sparse = (let k = is.system in
      body_is_sparse b k.sorts k.body k.tasks w.store k.store w.entry k.entry (chosen_of b v.entry s) slots_are_chosen)

  abbrev Fits : ℕ → Standing (Table Temp) Cell → Type 0
  Fits = FitsVariable (sparse_of v) (FitsFront b) (FitsCellAt b)

  pub slots_lawful : AreLawful (HasParts fronts.is_value cells.is_value) (IsStandingBelow fronts.leq cells.leq)
      (joined_standing fronts.joined cells.joined) Fits (AllowsSlots v) (front_constraints (sparse_of v))
  slots_lawful =
      are_lawful states fronts cells (FitsBody b) (FitsFront b) (FitsCellAt b) (sparse_of v) slots_are_sparse
      (PassesRow v)

  -- ## The solution

  abbrev Copies : ℕ → ℕ → Bool
  Copies = may_copy s.traces

  abbrev Fresh : ℕ → Bool
  Fresh = may_be_fresh s.traces

  abbrev Pending : ℕ → ℕ
  Pending = may_pend s.traces

  abbrev Checks : ℕ → State → Type 0
  Checks = ChecksEdge b w.store (chosen_of b v.entry s) Copies Fresh Pending

  pub passes_checks : (e : ℕ) (d : State) → PassesRow v e d → Checks e d
  passes_checks e d h = (let c = copy_at b e in
      let q = node_at b c.from in
      let edge = edge_of b c in
      passes_is_checked b.laid w.task q.held (cells_at s.graph.touched.items e) (cells_at s.graph.carried.items e)
      (cells_at s.graph.looked.items e) s.traces (around_along b c) refl refl (λ x. refl) (tests_pointer b.pointers edge.op) c.answer edge.op d w.store
      (passes_alike (laid_tree w.laid) b.laid refl refl w.task q.held c.answer edge.op
      (cells_at s.graph.touched.items e) (cells_at s.graph.carried.items e) (cells_at s.graph.looked.items e) s.traces
      (targets_of (action_along b c) d) w.store ∙ h))

  passes_some : (e : ℕ) (y : Option State) → IfSome y (PassesRow v e) → IfSome y (Checks e)
  passes_some e None h = tt
  passes_some e (Some d) h = passes_checks e d h

  checks_rule : (r : Rule) (a : Assignment (Standing (Table Temp) Cell)) → AllowsRule (sparse_of v) (PassesRow v) r a
      → AllowsRule (sparse_of v) Checks r a
  checks_rule entered a h = tt
  checks_rule (row e) a h = passes_some e (small_at (sparse_of v) e a) h
  checks_rule (flow e x) a h = tt

  -- The table of the least assignment, with states that are traced, is the least solution of the body's equations.
  pub slots_solve : (a : Assignment (Standing (Table Temp) Cell))
      → IsLeast (standings fronts cells) Fits (AllowsSlots v) (front_constraints (sparse_of v)) a
      → AreAllowed (standings fronts cells) Fits (AllowsSlots v) (front_constraints (sparse_of v)) a
      → (table : NodeTable State)
      → IsExpanded states (FitsBody b) (equations_of b w.entry w.store) (carrying_parts v) place (is_seen b)
      (fronts_of (sparse_of v) a) table → IsTraced Copies Fresh Pending v.entry
      → ((n : ℕ) → n < length b.nodes → IfSome (table n) (IsTraced Copies Fresh Pending))
      → IsLeastSolution states (FitsBody b) (equations_of b w.entry w.store) table
  slots_solve a least allowed table expanded entry_traced traced = (let k = is.system in
      body_assignment_solves b k.sorts k.body k.tasks w.store k.store w.entry k.entry (chosen_of b v.entry s)
      slots_are_chosen Copies Fresh Pending a
      (λ j lt. checks_rule ((numbers_of s.numbering).rule j) a (allowed j lt)) table expanded looked
      (subst (λ y. IfSome y (IsTraced Copies Fresh Pending)) (sym is.begins) entry_traced)
      (least_alike (standings fronts cells) (standings fronts cells) Fits (AllowsSlots v)
      (λ j. Allows (sparse_of v) Checks j) (front_constraints (sparse_of v)) (λ x y h. h) (λ x y h. h) a least)
      traced)
