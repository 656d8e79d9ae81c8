-- How the lists are made.
use Rattle.std.specs.Prelude.{◌≡◌, ℕ, ◌+◌, ◌^◌, ◌<◌, true, List, map, length, ◌⊎◌}
use Rattle.cell_placings.specs.declared.cell_graphs.CellGraph.{CellGraph}
use Rattle.cell_placings.specs.CellLists.{is_in, cells_at}
use Rattle.cell_placings.specs.OwnerTrees.{OwnerTree}
use Rattle.slot_numbers.specs.declared.names.OwnedCell.{OwnedCell}
use Rattle.slot_numbers.specs.declared.names.FlowingCell.{FlowingCell}
use Rattle.slot_numbers.specs.Numberings.{VariableLists, Numbering, numbers_of, number_of, count_of, rule_of}
use Rattle.slot_numbers.specs.Numbered.{AreLaid, targets_on, sources_on, is_own, edges}

abbrev pub lists_of : ℕ → ℕ → List (List ℕ) → List ℕ → List OwnedCell → VariableLists
lists_of nodes edges owned starts slots = record {
  nodes = nodes;
  edges = edges;
  owned = owned;
  starts = starts;
  slots = slots;
}

-- what is kept of the lists
pub record AreHeld (first count : ℕ) (v : VariableLists) : Type 0 where
  pub first_is : first ≡ v.nodes + v.edges
  pub count_is : count ≡ first + length v.slots
  pub fits : count < 2 ^ 64
  pub owned_each : length v.owned ≡ v.nodes
  pub laid : AreLaid v.owned v.starts v.slots

abbrev pub numbering_of : VariableLists → List FlowingCell → List (List ℕ) → List (List ℕ) → Numbering
numbering_of variables flows targets readers = record {
  variables = variables;
  flows = flows;
  targets = targets;
  readers = readers;
}

-- each constraint has targets and each variable readers
pub record AreWhole (n : Numbering) : Type 0 where
  pub targets_each : length n.targets ≡ (numbers_of n).constraint_count
  pub readers_each : length n.readers ≡ (numbers_of n).variable_count

-- the slots of the first nodes
pub record AreSlotsOf (graph : CellGraph) (tree : OwnerTree) (cells : List ℕ) (count : ℕ) (owned : List (List ℕ))
    (starts : List ℕ) (slots : List OwnedCell) : Type 0 where
  pub each : length owned ≡ count
  pub own : (n x : ℕ) → n < count → is_in (cells_at owned n) x ≡ is_own graph tree cells n x
  pub laid : AreLaid owned starts slots

-- the targets of the first constraints
pub record AreTargets (graph : CellGraph) (cells : List ℕ) (v : VariableLists) (flows : List FlowingCell) (count : ℕ)
    (lists : List (List ℕ)) : Type 0 where
  pub each : length lists ≡ count
  pub are : (k : ℕ) → k < count
      → cells_at lists k ≡ map (number_of v) (targets_on graph cells (rule_of (edges graph) flows k))

-- The number was added to the lists of these numbers, and else nothing.
pub record AreNoted (k : ℕ) (sources : List ℕ) (before after : List (List ℕ)) : Type 0 where
  pub each : length after ≡ length before
  pub kept : (i x : ℕ) → is_in (cells_at before i) x ≡ true → is_in (cells_at after i) x ≡ true
  pub noted : (i : ℕ) → is_in sources i ≡ true → is_in (cells_at after i) k ≡ true
  pub within : (i x : ℕ) → is_in (cells_at after i) x ≡ true → (is_in (cells_at before i) x ≡ true) ⊎ (x ≡ k)

-- the readers among the first constraints
pub record AreReaders (graph : CellGraph) (tree : OwnerTree) (v : VariableLists) (flows : List FlowingCell)
    (all count : ℕ) (lists : List (List ℕ)) : Type 0 where
  pub each : length lists ≡ count_of v
  pub within : (i k : ℕ) → is_in (cells_at lists i) k ≡ true → k < all
  pub are : (k i : ℕ) → k < count
      → is_in (map (number_of v) (sources_on graph tree (rule_of (edges graph) flows k))) i ≡ true
      → is_in (cells_at lists i) k ≡ true
