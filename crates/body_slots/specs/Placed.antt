-- Where the cells that a body sees are kept. Others count nowhere: every node owns them.
use Rattle.std.specs.Prelude.{ℕ, ◌||◌, Bool, not, cond}
use Rattle.sparse_tables.specs.Sparse.{Placing}
use Rattle.cell_placings.specs.declared.cell_graphs.CellGraph.{CellGraph}
use Rattle.cell_placings.specs.CellLists.{is_in, cells_at}
use Rattle.cell_placings.specs.OwnerTrees.{OwnerTree, owns_in, kept_in}

-- what the edges of the graph touch, carry and look at, with the owners of the tree for cells that pass the test
abbrev pub seen_placing : (ℕ → Bool) → CellGraph → OwnerTree → Placing
seen_placing is_cell graph tree = record {
  touches = λ e x. is_in (cells_at graph.touched.items e) x;
  looks = λ e x. is_in (cells_at graph.looked.items e) x;
  carries = λ e x. is_in (cells_at graph.carried.items e) x;
  owns = λ n x. not (is_cell x) || owns_in tree n x;
  kept_at = λ n x. cond (is_cell x) (kept_in tree n x) n;
}
