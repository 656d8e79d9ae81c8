-- Marks of slots and of cells.
use Rattle.std.specs.Prelude.{◌≡◌, ◌⊎◌, ℕ, ◌+◌, ◌<◌, ◌≤◌, ◌↔◌, Bool, true, false, List, length, get_or, Some, Contains}
use Rattle.std.specs.List.Sorted.{IsStrictlyIncreasing}
use Rattle.tm_laid.specs.Layouts.{LaidTree, abstract_at}
use Rattle.flow_graph.specs.declared.graphs.Edge.{Edge}
use Rattle.flow_graph.specs.Graphs.{Edges, Among, IsOfObject}
use Rattle.region_cells.specs.reading.Slots.{scalar_number, slot_of}

abbrev pub IsMarked : List Bool → ℕ → Type 0
IsMarked marks s = get_or marks s false ≡ true

-- these were marked, where there are marks for them, and no others
pub record HasMarked (P : ℕ → Type 0) (old new : List Bool) : Type 0 where
  pub same : length new ≡ length old
  pub kept : (s : ℕ) → IsMarked old s → IsMarked new s
  pub all : (s : ℕ) → P s → s < length old → IsMarked new s
  pub only : (s : ℕ) → IsMarked new s → IsMarked old s ⊎ P s

-- the slot of what some edge writes that leaves a node from this one up to below that one
pub record IsSlotFrom (g : Edges) (objects low high s : ℕ) : Type 0 where
  pub edge : Edge
  pub among : Among edge g
  pub from : low ≤ edge.from
  pub below : edge.from < high
  pub slot : slot_of objects edge.op ≡ Some s

abbrev pub HasMarkedFrom : Edges → ℕ → ℕ → ℕ → List Bool → List Bool → Type 0
HasMarkedFrom g objects low high old new = HasMarked (IsSlotFrom g objects low high) old new

abbrev pub IsBetween : ℕ → ℕ → ℕ → Type 0
IsBetween first end s = (first ≤ s) × (s < end)

-- the cell is of this object, which is marked
abbrev pub IsOfMarked : LaidTree → List Bool → ℕ → ℕ → Type 0
IsOfMarked laid marks o cell = IsMarked marks o × IsOfObject laid o cell

-- a cell of a marked object
pub record IsOfSome (laid : LaidTree) (marks : List Bool) (objects cell : ℕ) : Type 0 where
  pub object : ℕ
  pub within : object < objects
  pub of : IsOfMarked laid marks object cell

-- the marked cells are those of the marked objects
pub record IsCovering (laid : LaidTree) (marks covered : List Bool) : Type 0 where
  pub count : length covered ≡ length laid.abstract_cells
  pub all : (cell : ℕ) → IsOfSome laid marks (length laid.objects) cell → cell < length laid.abstract_cells
      → IsMarked covered cell
  pub only : (cell : ℕ) → IsMarked covered cell → IsOfSome laid marks (length laid.objects) cell

-- a cell is of a marked object, or of a marked type
abbrev pub IsListed : LaidTree → List Bool → List Bool → ℕ → Type 0
IsListed laid marks covered cell = IsMarked covered cell
    ⊎ IsMarked marks (length laid.objects + scalar_number (abstract_at laid cell).scalar)

-- these cells below a cell are listed
pub record AreListed (laid : LaidTree) (marks covered : List Bool) (end : ℕ) (cells : List ℕ) : Type 0 where
  pub rising : IsStrictlyIncreasing cells
  pub listed : (cell : ℕ) → Contains cells cell ↔ ((cell < end) × IsListed laid marks covered cell)
