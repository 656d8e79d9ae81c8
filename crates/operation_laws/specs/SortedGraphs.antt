-- Graphs whose temporaries have sorts.
use Rattle.std.specs.Prelude.{◌≡◌, ℕ, List, length}
use Rattle.temporary_types.specs.tm_laid.Layouts.{LaidTree}
use Rattle.temporary_types.specs.flow_graph.Graphs.{Edges}
use Rattle.temporary_types.specs.Sorts.{Sort, AreSorts}

-- each of so many temporaries has one sort, and all operations of the graph fit them
pub record HasSorts (laid : LaidTree) (count : ℕ) (graph : Edges) : Type 0 where
  pub sorts : List Sort
  pub each : length sorts ≡ count
  pub fit : AreSorts laid sorts graph
