use Rattle.std.proofs.Common.{ℕ, [], sym, subst}
use Rattle.tm_laid.specs.Layouts.{LaidTree, laid_tree}
use Rattle.flow_graph.specs.Graphs.{Edges}
use Rattle.flow_graph.specs.Runs.{Memory, at_entry}
use Rattle.flow_graph.specs.Positions.{Reaches, here}
use Rattle.graph_positions.specs.Memories.{memory_of}
use Rattle.graph_positions.proofs.Ends.{led_on, stands_behind}
use Rattle.graph_positions.proofs.runs.Run.start.Goals as goal

pub returns : goal.returns
returns c =
    let laid : LaidTree = laid_tree c.args.laid.now in
    let g : Edges = c.args.graph.now.edges.items in
    let p = c.in_ok-position.position in
    let q = c.advance-next.new.self in
    let P : ℕ → Memory → Type 0 = λ n m. Reaches laid g 0 at_entry [] n m in
    let first : Reaches laid g 0 at_entry [] p.node at_entry = subst (λ (n : ℕ). P n at_entry) (sym c.in_ok-position.ensures.node) here in
    let begun : Reaches laid g 0 at_entry [] p.node (memory_of p) = subst (λ (m : Memory). P p.node m) (sym c.in_ok-position.ensures.memory) first in
    let led = led_on laid g [] p.node q.node (memory_of p) (memory_of q) begun c.advance-next.ensures.reaches in
    record {
      position = c.advance-next.ensures.position;
      next = stands_behind laid g [] q.node (memory_of q) c.advance-next.result led c.advance-next.ensures.stands;
      led = led;
    }
