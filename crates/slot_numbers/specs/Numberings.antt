-- Numbers of variables and constraints, by lists.
use Rattle.std.specs.Prelude.{ℕ, suc, ◌+◌, ◌-◌, ◌==◌, Bool, cond, List, [], ◌∷◌, length, slice_index_or, ltb}
use Rattle.front_constraints.specs.Systems.{Variable, front_at, open_at, slot_at, Rule, entered, row, flow, Numbers}
use Rattle.cell_placings.specs.CellLists.{is_in, cells_at}
use Rattle.slot_numbers.specs.declared.names.OwnedCell.{OwnedCell}
use Rattle.slot_numbers.specs.declared.names.FlowingCell.{FlowingCell}

-- How many nodes and edges there are, by node the cells of its slots and how many slots the nodes before it have, and
-- all slots.
pub record VariableLists : Type 0 where
  pub nodes : ℕ
  pub edges : ℕ
  pub owned : List (List ℕ)
  pub starts : List ℕ
  pub slots : List OwnedCell

-- The variables, the flows, by constraint its targets, and by variable the constraints that read it.
pub record Numbering : Type 0 where
  pub variables : VariableLists
  pub flows : List FlowingCell
  pub targets : List (List ℕ)
  pub readers : List (List ℕ)

abbrev pub at_node : ℕ → ℕ → OwnedCell
at_node n x = record { node = n; cell = x }

abbrev pub along_edge : ℕ → ℕ → FlowingCell
along_edge e x = record { edge = e; cell = x }

-- what stands where no slot, or no flow, does
abbrev pub no_slot : OwnedCell
no_slot = at_node 0 0

abbrev pub no_flow : FlowingCell
no_flow = along_edge 0 0

-- how many numbers of a list stand before the given one
abbrev pub place_in : List ℕ → ℕ → ℕ
place_in [] x = 0
place_in (y ∷ ys) x = cond (y == x) 0 (suc (place_in ys x))

-- ## Variables: fronts, open edges, and slots

-- the place of a slot among all
abbrev pub slot_place : List (List ℕ) → List ℕ → ℕ → ℕ → ℕ
slot_place owned starts n x = slice_index_or starts n 0 + place_in (cells_at owned n) x

abbrev pub has_slot : VariableLists → ℕ → ℕ → Bool
has_slot v n x = is_in (cells_at v.owned n) x

abbrev pub first_slot : VariableLists → ℕ
first_slot v = v.nodes + v.edges

abbrev pub count_of : VariableLists → ℕ
count_of v = first_slot v + length v.slots

abbrev pub slot_in : List OwnedCell → ℕ → Variable
slot_in slots i = slot_at (slice_index_or slots i no_slot).node (slice_index_or slots i no_slot).cell

abbrev pub variable_of : VariableLists → ℕ → Variable
variable_of v i =
    cond (ltb i v.nodes) (front_at i)
    (cond (ltb i (first_slot v)) (open_at (i - v.nodes)) (slot_in v.slots (i - first_slot v)))

abbrev pub number_of : VariableLists → Variable → ℕ
number_of v (front_at n) = n
number_of v (open_at e) = v.nodes + e
number_of v (slot_at n x) = first_slot v + slot_place v.owned v.starts n x

-- ## Constraints: the entry, the rows of edges, and flows

abbrev pub flow_in : List FlowingCell → ℕ → Rule
flow_in flows i = flow (slice_index_or flows i no_flow).edge (slice_index_or flows i no_flow).cell

abbrev pub rule_of : ℕ → List FlowingCell → ℕ → Rule
rule_of edges flows k =
    cond (k == 0) entered (cond (ltb k (edges + 1)) (row (k - 1)) (flow_in flows (k - (edges + 1))))

abbrev pub numbers_of : Numbering → Numbers
numbers_of n = record {
  variable_count = count_of n.variables;
  variable = variable_of n.variables;
  number = number_of n.variables;
  constraint_count = n.variables.edges + 1 + length n.flows;
  rule = rule_of n.variables.edges n.flows;
}
