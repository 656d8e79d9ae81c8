-- What rows bring, part by part.
use Rattle.std.specs.Prelude.{◌≡◌, ℕ, suc, ◌<◌, ◌+◌, List, [], ◌∷◌, length, map, replicate}
use Rattle.std.specs.Prelude.{Option, Some, None, refl}
use Rattle.std.proofs.Common.{sym, ap, subst, ◌∙◌, arith}
use Rattle.std.proofs.lemmas.List.{length-map, get_or-map}
use Rattle.std.proofs.lemmas.Simd.{map-map}
use Rattle.table_covers.specs.declared.links.Link.{Link}
use Rattle.table_covers.specs.Systems.{no_link}
use Rattle.table_covers.specs.Solutions.{brought}
use Rattle.table_covers.specs.tm_lattice.Tables.{Table}
use Rattle.edge_actions.specs.transfer_rows.StateForms.{Temp, Cell, State}
use Rattle.mutex_configs.specs.declared.nodes.EdgeCopy.{EdgeCopy}
use Rattle.task_equations.specs.Bodies.{no_copy, copy_at}
use Rattle.task_equations.specs.Equations.{link_of, action_along}
use Rattle.front_constraints.specs.Standings.{fronted, opened}
use Rattle.front_constraints.specs.Systems.{SparseSystem, slot_at, row, edges, from, to}
use Rattle.front_constraints.specs.Rules.{part_of, targets_of, small_at}
use Rattle.tm_laid.specs.Layouts.{laid_tree}
use Rattle.cell_placings.specs.CellLists.{cells_at}
use Rattle.interfere_set.specs.Stores.{Interferences}
use Rattle.edge_actions.specs.declared.views.EdgeView.{EdgeView}
use Rattle.edge_actions.specs.transfer_rows.Reports.{targets_of as reached}
use Rattle.row_checks.specs.declared.traces.Traces.{Traces}
use Rattle.row_checks.specs.Passing.{passes_of, passes}
use Rattle.body_systems.specs.Systems.{SystemOf, body_of}
use Rattle.body_systems.specs.Views.{IsViewOf}
use Rattle.body_slots.specs.Slots.{Slots, SlotSystemOf, sparse_of, row_passes}
use Rattle.body_slots.specs.Rows.{Values, brought_by, state_parts_at, row_parts}

-- nothing for each
map_nothing : {A B : Type 0} (f : A → Option B) → ((x : A) → f x ≡ None) → (xs : List A)
    → map f xs ≡ replicate (length xs) None
map_nothing f none [] = refl
map_nothing f none (x ∷ xs) = λ i. none x i ∷ map_nothing f none xs i

module _ (v : SlotSystemOf) (e : ℕ) where
  abbrev sys : SparseSystem State (Table Temp) Cell
  sys = sparse_of v

  abbrev touched : List ℕ
  touched = sys.touched e

  count : length (targets_of sys (row e)) ≡ length touched + 2
  count = ap (λ n. suc (suc n)) (length-map touched (slot_at (to sys e))) ∙ sym (plus_two (length touched))
    where
      plus_two : (n : ℕ) → n + 2 ≡ suc (suc n)
      plus_two n = omega arith

  pub parts_none : (y : Option State) → y ≡ None
      → map (part_of sys y) (targets_of sys (row e)) ≡ replicate (length touched + 2) None
  parts_none y none =
      ap (λ z. map (part_of sys z) (targets_of sys (row e))) none
      ∙ map_nothing (part_of sys None) (λ w. refl) (targets_of sys (row e))
      ∙ ap (λ n. replicate n None) count

  pub parts_some : (s : State) → map (part_of sys (Some s)) (targets_of sys (row e)) ≡ state_parts_at s touched
  parts_some s =
      ap (λ xs. Some (fronted s.temps) ∷ Some opened ∷ xs) (map-map (part_of sys (Some s)) (slot_at (to sys e)) touched)

  pub row_none : (y : Option State) → y ≡ None → (s : State) → sys.equations.after e s ≡ y
      → row_parts v e s ≡ replicate (length touched + 2) None
  row_none y none s is = parts_none (sys.equations.after e s) (is ∙ none)

  pub row_some : (r s : State) → sys.equations.after e s ≡ Some r → row_parts v e s ≡ state_parts_at r touched
  row_some r s is = ap (λ z. map (part_of sys z) (targets_of sys (row e))) is ∙ parts_some r

  module _ (a : Values) where
    pub brought_none : small_at sys e a ≡ None → brought_by v (row e) a ≡ replicate (length touched + 2) None
    brought_none none =
        ap (λ z. map (λ w. part_of sys (brought (sys.equations.after e) z) w) (targets_of sys (row e))) none
        ∙ parts_none None refl

    pub brought_some : (s : State) → small_at sys e a ≡ Some s → brought_by v (row e) a ≡ row_parts v e s
    brought_some s is =
        ap (λ z. map (λ w. part_of sys (brought (sys.equations.after e) z) w) (targets_of sys (row e))) is

  -- the edge leaves the node of its copy
  pub leaves : e < edges sys → (let b = body_of v.system in let c = copy_at b e in from sys e ≡ c.from)
  leaves lt = (let b = body_of v.system in
      ap (λ (l : Link). l.from) (get_or-map link_of b.copies e no_copy no_link
      (subst (λ n. e < n) (length-map b.copies link_of) lt)))

-- ## The check

module _ (v : SlotSystemOf) (e : ℕ) (d : State) where
  abbrev w : SystemOf
  w = v.system

  abbrev slots : Slots
  slots = v.slots

  abbrev copy : EdgeCopy
  copy = copy_at (body_of w) e

  -- what code decides of the edge is what allows its row
  pub passes_here : (view : EdgeView) → IsViewOf w copy view → (may_touch may_carry may_look targets : List ℕ) (traces : Traces)
      (store : Interferences) → may_touch ≡ cells_at slots.graph.touched.items e
      → may_carry ≡ cells_at slots.graph.carried.items e → may_look ≡ cells_at slots.graph.looked.items e
      → traces ≡ slots.traces
      → targets ≡ reached (action_along (body_of w) copy) d → store ≡ w.store
      → passes view may_touch may_carry may_look traces targets store ≡ row_passes v e d
  passes_here view is may_touch may_carry may_look targets traces store t k l r g o =
      λ i. passes_of (laid_tree (is.laid i)) (is.task i) (is.held i) (is.answer i) (is.operation i) (t i) (k i) (l i)
      (r i) (g i) (o i)
