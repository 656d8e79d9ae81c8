-- What is computed once of a body for its fronts and slots, and the body with it as constraints over a store.
use Rattle.std.specs.Prelude.{◌≡◌, ℕ, ◌<◌, Bool, true, false, List, length, map, Option, Some, None}
use Rattle.cell_placings.specs.declared.cell_graphs.CellGraph.{CellGraph}
use Rattle.cell_placings.specs.CellLists.{is_in, cells_at}
use Rattle.cell_placings.specs.OwnerTrees.{OwnerTree, placing_of}
use Rattle.cell_placings.specs.Placed.{IsCellPlaced}
use Rattle.edge_actions.specs.transfer_rows.StateForms.{Temp, Cell, State}
use Rattle.edge_actions.specs.transfer_rows.Reports.{targets_of}
use Rattle.tm_laid.specs.Layouts.{laid_tree}
use Rattle.table_covers.specs.tm_lattice.Tables.{Table}
use Rattle.task_equations.specs.Bodies.{Body, copy_at, edge_of, node_at}
use Rattle.task_equations.specs.Equations.{link_of, cells_at as rounded_cells, action_along}
use Rattle.sparse_tables.specs.Sparse.{Parts}
use Rattle.sparse_rows.specs.StateParts.{state_parts}
use Rattle.sparse_bodies.specs.Carries.{carry_along}
use Rattle.front_constraints.specs.Systems.{SparseSystem}
use Rattle.front_constraints.specs.Rules.{Allows}
use Rattle.front_constraints.specs.least_assignments.Constraints.{Assignment}
use Rattle.front_constraints.specs.declared.standings.Standing.{Standing}
use Rattle.slot_numbers.specs.Numberings.{Numbering, numbers_of}
use Rattle.slot_numbers.specs.Numbered.{IsNumbering}
use Rattle.row_checks.specs.declared.traces.Traces.{Traces}
use Rattle.row_checks.specs.Passing.{passes_of}
use Rattle.body_systems.specs.Systems.{SystemOf, body_of, IsSystemOf}
use Rattle.body_fronts.specs.FrontForms.{is_seen}
use Rattle.body_fronts.specs.BodySystems.{Chosen, system_of}
use Rattle.body_slots.specs.Placed.{seen_placing}

-- The graph of the body with what its edges look at, touch and carry, the owners of cells as a tree, the cells that the body
-- sees, the numbers of variables and constraints, and what may be copied, fresh and pending.
pub record Slots : Type 0 where
  pub graph : CellGraph
  pub tree : OwnerTree
  pub cells : List ℕ
  pub numbering : Numbering
  pub traces : Traces

-- the cell is among those that are rounded
abbrev pub is_rounded_in : Option (List ℕ) → ℕ → Bool
is_rounded_in None x = false
is_rounded_in (Some cells) x = is_in cells x

-- The graph is that of the body, with the cells that are rounded at each node, and for each edge those that it touches,
-- that it carries and at which it looks; the cells are those that the body sees; they are well placed, and variables and constraints
-- have numbers.
pub record AreSlotsOf (b : Body) (s : Slots) : Type 0 where
  pub nodes : s.graph.nodes ≡ length b.nodes
  pub links : s.graph.links.items ≡ map link_of b.copies
  pub seen : (x : ℕ) → is_in s.cells x ≡ is_seen b x
  pub small : (x : ℕ) → is_in s.cells x ≡ true → x < 4294967296
  pub touched_each : length s.graph.touched.items ≡ length b.copies
  pub carried_each : length s.graph.carried.items ≡ length b.copies
  pub looked_each : length s.graph.looked.items ≡ length b.copies
  pub rounded : (n x : ℕ) → n < length b.nodes
      → is_in (cells_at s.graph.rounded.items n) x ≡ is_rounded_in (rounded_cells b n) x
  pub placed : IsCellPlaced s.graph (placing_of s.graph s.tree)
  pub tree_each : length s.tree.above ≡ s.graph.nodes
  pub numbered : IsNumbering s.graph s.tree s.cells s.numbering

-- what is chosen for the body, of which small states take what stands in this state at cells that do not count
abbrev pub chosen_of : Body → State → Slots → Chosen
chosen_of b scratch s = record {
  place = seen_placing (is_seen b) s.graph s.tree;
  cells = s.cells;
  looked = λ e. cells_at s.graph.looked.items e;
  touched = λ e. cells_at s.graph.touched.items e;
  numbers = numbers_of s.numbering;
  scratch = scratch;
}

-- a body over a store, the state in which it begins, and its slots
pub record SlotSystemOf : Type 0 where
  pub system : SystemOf
  pub entry : State
  pub slots : Slots

pub record IsSlotSystem (v : SlotSystemOf) : Type 0 where
  pub system : IsSystemOf v.system
  pub begins : (let w = v.system in w.entry ≡ Some v.entry)
  pub slots : AreSlotsOf (body_of v.system) v.slots

-- the body's equations as a system with fronts and slots
abbrev pub sparse_of : SlotSystemOf → SparseSystem State (Table Temp) Cell
sparse_of v = let w = v.system in
    let b = body_of w in system_of b w.entry w.store (chosen_of b v.entry v.slots)

-- the parts of the body's states, with what edges make of cells that they carry
abbrev pub carrying_parts : SlotSystemOf → Parts State (Table Temp) (Option Cell)
carrying_parts v = let w = v.system in state_parts (carry_along (body_of w) w.store)

-- the edge of a row reaches only what it may, in a state
abbrev pub row_passes : SlotSystemOf → ℕ → State → Bool
row_passes v e d =
    let w = v.system in
    let s = v.slots in
    let b = body_of w in
    let c = copy_at b e in
    let q = node_at b c.from in
    let edge = edge_of b c in
    passes_of (laid_tree w.laid) w.task q.held c.answer edge.op (cells_at s.graph.touched.items e)
    (cells_at s.graph.carried.items e) (cells_at s.graph.looked.items e) s.traces (targets_of (action_along b c) d) w.store

-- so a row may be applied there
abbrev pub PassesRow : SlotSystemOf → ℕ → State → Type 0
PassesRow v e d = row_passes v e d ≡ true

abbrev pub AllowsSlots : SlotSystemOf → ℕ → Assignment (Standing (Table Temp) Cell) → Type 0
AllowsSlots v k a = Allows (sparse_of v) (PassesRow v) k a
