-- When variables and constraints are those of a graph whose cells are placed.
use Rattle.std.specs.Prelude.{◌≡◌, ℕ, ◌<◌, Bool, true, not, ◌&&◌, List, [], ◌∷◌, map, length, slice_index_or}
use Rattle.table_covers.specs.Systems.{from_of, to_of}
use Rattle.front_constraints.specs.Systems.{Variable, front_at, open_at, slot_at, Rule, entered, row, flow}
use Rattle.cell_placings.specs.declared.cell_graphs.CellGraph.{CellGraph}
use Rattle.cell_placings.specs.CellLists.{is_in, cells_at}
use Rattle.cell_placings.specs.OwnerTrees.{OwnerTree, owns_in, kept_in}
use Rattle.slot_numbers.specs.declared.names.OwnedCell.{OwnedCell}
use Rattle.slot_numbers.specs.declared.names.FlowingCell.{FlowingCell}
use Rattle.slot_numbers.specs.Numberings.{VariableLists, Numbering, numbers_of, at_node, along_edge, no_slot, no_flow}
use Rattle.slot_numbers.specs.Numberings.{slot_place, has_slot, number_of}

-- the place of each slot is that of its node and cell, and each cell that a node has is one of a slot
pub record AreLaid (owned : List (List ℕ)) (starts : List ℕ) (slots : List OwnedCell) : Type 0 where
  pub starts_each : length starts ≡ length owned
  pub placed : (n x : ℕ) → n < length owned → is_in (cells_at owned n) x ≡ true
      → (slot_place owned starts n x < length slots)
      × (slice_index_or slots (slot_place owned starts n x) no_slot ≡ at_node n x)
  pub node : (i : ℕ) → i < length slots → (slice_index_or slots i no_slot).node < length owned
  pub cell : (i : ℕ) → i < length slots
      → is_in (cells_at owned (slice_index_or slots i no_slot).node) (slice_index_or slots i no_slot).cell ≡ true
  pub place : (i : ℕ) → i < length slots
      → slot_place owned starts (slice_index_or slots i no_slot).node (slice_index_or slots i no_slot).cell ≡ i

-- the ends of edges are nodes
pub record AreEnds (graph : CellGraph) : Type 0 where
  pub some_node : 0 < graph.nodes
  pub from_node : (e : ℕ) → e < length graph.links.items → from_of graph.links.items e < graph.nodes
  pub to_node : (e : ℕ) → e < length graph.links.items → to_of graph.links.items e < graph.nodes

module _ (graph : CellGraph) where
  abbrev from : ℕ → ℕ
  from e = from_of graph.links.items e

  abbrev to : ℕ → ℕ
  to e = to_of graph.links.items e

  abbrev pub edges : ℕ
  edges = length graph.links.items

  -- the variables to which a constraint brings values
  abbrev pub targets_on : List ℕ → Rule → List Variable
  targets_on cells entered = front_at 0 ∷ map (slot_at 0) cells
  targets_on cells (row e) = front_at (to e) ∷ open_at e ∷ map (slot_at (to e)) (cells_at graph.touched.items e)
  targets_on cells (flow e x) = slot_at (to e) x ∷ []

  -- and those that it reads
  abbrev pub sources_on : OwnerTree → Rule → List Variable
  sources_on tree entered = []
  sources_on tree (row e) =
      front_at (from e) ∷ map (λ x. slot_at (kept_in tree (from e) x) x) (cells_at graph.looked.items e)
  sources_on tree (flow e x) = open_at e ∷ slot_at (kept_in tree (from e) x) x ∷ []

  -- All cells that count are placed, and edges touch none but these and look at none but these.
  pub record IsNumberable (tree : OwnerTree) (cells : List ℕ) : Type 0 where
    pub placed : (x : ℕ) → is_in cells x ≡ true → x < tree.cells
    pub touched : (e x : ℕ) → e < edges → is_in (cells_at graph.touched.items e) x ≡ true → is_in cells x ≡ true
    pub looked : (e x : ℕ) → e < edges → is_in (cells_at graph.looked.items e) x ≡ true → is_in cells x ≡ true

  module _ (tree : OwnerTree) (cells : List ℕ) where
    -- the node owns the cell, which counts
    abbrev pub is_own : ℕ → ℕ → Bool
    is_own n x = is_in cells x && owns_in tree n x

    -- so it is at the end of the edge, which does not touch the cell
    abbrev pub is_flow : ℕ → ℕ → Bool
    is_flow e x = is_own (to e) x && not (is_in (cells_at graph.touched.items e) x)

    abbrev pub IsRuleOf : Rule → Type 0
    IsRuleOf entered = Unit {0}
    IsRuleOf (row e) = e < edges
    IsRuleOf (flow e x) = (e < edges) × (is_flow e x ≡ true)

    -- nodes have slots of the cells that they own
    pub record AreVariables (v : VariableLists) : Type 0 where
      pub nodes : v.nodes ≡ graph.nodes
      pub edges_each : v.edges ≡ edges
      pub owned_each : length v.owned ≡ graph.nodes
      pub owned : (n x : ℕ) → n < graph.nodes → has_slot v n x ≡ is_own n x
      pub laid : AreLaid v.owned v.starts v.slots

    -- the flows of the first edges
    pub record AreFlowsOf (count : ℕ) (flows : List FlowingCell) : Type 0 where
      pub edge : (i : ℕ) → i < length flows → (slice_index_or flows i no_flow).edge < count
      pub flow : (i : ℕ) → i < length flows
          → is_flow (slice_index_or flows i no_flow).edge (slice_index_or flows i no_flow).cell ≡ true
      pub all : (e x : ℕ) → e < count → is_flow e x ≡ true
          → (i : ℕ) × ((i < length flows) × (slice_index_or flows i no_flow ≡ along_edge e x))

    abbrev pub AreFlows : List FlowingCell → Type 0
    AreFlows flows = AreFlowsOf edges flows

    -- The numbers are those of the variables and constraints, targets are the numbers of the variables to which
    -- constraints bring values, and each constraint stands among the readers of the variables that it reads.
    pub record IsNumbering (n : Numbering) : Type 0 where
      pub numberable : IsNumberable tree cells
      pub variables : AreVariables n.variables
      pub flows : AreFlows n.flows
      pub targets : (k : ℕ) → k < (numbers_of n).constraint_count
          → cells_at n.targets k ≡ map (number_of n.variables) (targets_on cells ((numbers_of n).rule k))
      pub within : (i k : ℕ) → is_in (cells_at n.readers i) k ≡ true → k < (numbers_of n).constraint_count
      pub readers : (k i : ℕ) → k < (numbers_of n).constraint_count
          → is_in (map (number_of n.variables) (sources_on tree ((numbers_of n).rule k))) i ≡ true
          → is_in (cells_at n.readers i) k ≡ true
