-- The abstract cells that are written in regions, as lists.
use Rattle.std.specs.Prelude.{◌≡◌, ℕ, ◌<◌, ◌↔◌, List, [], length, get_or, Contains}
use Rattle.std.specs.List.Sorted.{IsStrictlyIncreasing}
use Rattle.tm_laid.specs.Layouts.{LaidTree}
use Rattle.flow_graph.specs.Graphs.{Edges, IsWritten}
use Rattle.graph_facts.specs.declared.regions.Head.{Head}

-- those of the region of a head, in rising order
pub record AreWritten (laid : LaidTree) (g : Edges) (head : ℕ) (cells : List ℕ) : Type 0 where
  pub rising : IsStrictlyIncreasing cells
  pub written : (cell : ℕ) → Contains cells cell ↔ ((cell < length laid.abstract_cells) × IsWritten laid g head cell)

-- for each of these heads
pub record AreAllWritten (laid : LaidTree) (g : Edges) (heads : List Head) (lists : List (List ℕ)) : Type 0 where
  pub count : length lists ≡ length heads
  pub each : (k : ℕ) (d : Head) → k < length heads → AreWritten laid g (get_or heads k d).node (get_or lists k [])
