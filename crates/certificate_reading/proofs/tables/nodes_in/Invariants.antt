use Rattle.std.proofs.Common.{◌≡◌, length}
use Rattle.tm_laid.specs.Layouts.{laid_tree}
use Rattle.temporary_extents.specs.Extents.{extents_in}
use Rattle.certificate_texts.specs.TableLines.{node_lines_of}
use Rattle.certificate_reading.specs.Tables.{FitsNode, FitsNodes, EndsNode, EndsTable}
use Rattle.certificate_reading.specs.reading.Cells.{IsKept}
use Rattle.certificate_reading.proofs.SeriesRead.{AreRowsSoFar}
use Rattle.certificate_reading.proofs.tables.nodes_in.Given as goal

-- the nodes so far, and the text behind them; and what is kept for the next one
abbrev pub invariant-loop-node : goal.invariant-loop-node
invariant-loop-node l = record {
  count : length l.table.items ≡ l.node;
  far : AreRowsSoFar node_lines_of (FitsNode (FitsNodes (laid_tree l.laid) l.body (extents_in l.graph.edges.items)
      l.configured.nodes.keys l.known.live)) EndsNode EndsTable (length l.configured.nodes.keys) l.fn.ahead l.table.items
      l.ahead;
  kept : IsKept (laid_tree l.laid) l.shape l.kept;
}
