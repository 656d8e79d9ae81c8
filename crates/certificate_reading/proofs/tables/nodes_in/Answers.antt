use Rattle.std.proofs.Common.{◌∙◌, ap, sym, subst, length, get_or, List, [], ◌<◌, arith}
use Rattle.std.specs.Prelude.{IfSome}
use Rattle.mutex_configs.specs.declared.nodes.ConfiguredNode.{ConfiguredNode}
use Rattle.mutex_configs.specs.Nodes.{entry_node}
use Rattle.tm_laid.specs.Layouts.{laid_tree}
use Rattle.temporary_extents.specs.Extents.{extents_in}
use Rattle.certificate_texts.specs.TableLines.{node_lines_of}
use Rattle.certificate_reading.specs.Series.{HasNoRow, IsRowIn}
use Rattle.certificate_reading.specs.Tables.{FitsNode, FitsNodes, EndsNode, EndsTable, IsReadNode}
use Rattle.certificate_reading.specs.reading.Shapes.{RiseFrom}
use Rattle.certificate_reading.specs.reading.Cells.{IsKept}
use Rattle.certificate_reading.proofs.SeriesRead.{rows_none, rows_more, rows_stuck, rows_all, next_count}
use Rattle.certificate_reading.proofs.TablesRead.{nodes_behind}
use Rattle.certificate_reading.proofs.BodiesRead.{live_rises, read_node}
use Rattle.certificate_reading.proofs.tables.nodes_in.Goals as goal

pub node_in-requires-clause-live : goal.node_in-requires-clause-live
node_in-requires-clause-live c =
    let graph = c.args.graph.now in
    let lives = c.args.known.now.live in
    let q = get_or c.as_slice-nodes.result.now c.loop-node.node entry_node in
    subst (RiseFrom 0) (sym c.live_at-live.ensures)
    (live_rises graph.edges.items graph.nodes lives c.requires.live q.place)

pub loop-node-init : goal.loop-node-init
loop-node-init c =
    let laid = laid_tree c.args.laid.now in
    let nodes = c.args.configured.now.nodes.keys in
    let known = FitsNodes laid c.args.body (extents_in c.args.graph.now.edges.items) nodes c.args.known.now.live in
    record {
      count = ap length c.new-table.ensures.items;
      far = rows_none node_lines_of (FitsNode known) EndsNode EndsTable (length nodes) c.args.ahead.now
          c.new-table.result.items c.new-table.ensures.items;
      kept = c.new-kept.ensures laid c.in_ok-shape.shape;
    }

pub returns-in-None : goal.returns-in-None
returns-in-None c =
    let laid = laid_tree c.args.laid.now in
    let given = extents_in c.args.graph.now.edges.items in
    let nodes = c.args.configured.now.nodes.keys in
    let lives = c.args.known.now.live in
    let known = FitsNodes laid c.args.body given nodes lives in
    let zs = c.loop-node.table.items in
    let mid = c.loop-node.ahead in
    let n = c.loop-node.node in
    let extents = c.deref.result.now in
    let read = read_node laid c.args.body n extents given c.live_at-live.result.now nodes lives
    (c.deref.ensures.value ∙ c.in_ok-extents.ensures)
    (c.live_at-live.ensures ∙ ap (λ (xs : List ConfiguredNode). let q = get_or xs n entry_node in get_or lives q.place [])
    c.as_slice-nodes.ensures.keys) mid c.node_in.new.ahead c.in_ok-found.found c.in_ok-found.ensures.node in
    let none = subst (λ r. IsReadNode known n mid r c.node_in.new.ahead) c.in-None.is read in
    let count = c.loop-node.invariant.count in
    let here = c.loop-node-test.true in
    let less : length zs < length nodes =
    (let keys = ap length c.as_slice-nodes.ensures.keys in omega (arith, count, here, keys)) in
    rows_stuck node_lines_of (FitsNode known) EndsNode EndsTable (nodes_behind known) (length nodes) c.args.ahead.now mid zs
    less c.loop-node.invariant.far
    (subst (λ k. HasNoRow node_lines_of (FitsNode known) EndsNode EndsTable k mid) (sym count) none)

pub loop-node-preserved : goal.loop-node-preserved
loop-node-preserved c =
    let laid = laid_tree c.args.laid.now in
    let given = extents_in c.args.graph.now.edges.items in
    let nodes = c.args.configured.now.nodes.keys in
    let lives = c.args.known.now.live in
    let known = FitsNodes laid c.args.body given nodes lives in
    let zs = c.loop-node.table.items in
    let mid = c.loop-node.ahead in
    let new = c.node_in.new.ahead in
    let n = c.loop-node.node in
    let extents = c.deref.result.now in
    let read = read_node laid c.args.body n extents given c.live_at-live.result.now nodes lives
    (c.deref.ensures.value ∙ c.in_ok-extents.ensures)
    (c.live_at-live.ensures ∙ ap (λ (xs : List ConfiguredNode). let q = get_or xs n entry_node in get_or lives q.place [])
    c.as_slice-nodes.ensures.keys) mid new c.in_ok-found.found c.in_ok-found.ensures.node in
    let at = c.in-Some.at in
    let some = subst (λ r. IsReadNode known n mid r new) c.in-Some.is read in
    let count = c.loop-node.invariant.count in
    let here = c.loop-node-test.true in
    let less : length zs < length nodes =
    (let keys = ap length c.as_slice-nodes.ensures.keys in omega (arith, count, here, keys)) in
    record {
      count = next_count zs c.push.new.self.items at n count c.in_ok-push-in-Some.ensures.items;
      far = rows_more node_lines_of (FitsNode known) EndsNode EndsTable (nodes_behind known) (length nodes)
          c.args.ahead.now mid new zs c.push.new.self.items at less c.loop-node.invariant.far
          (subst (λ k. IsRowIn node_lines_of (FitsNode known) EndsNode EndsTable k mid at new) (sym count) some)
          c.in_ok-push-in-Some.ensures.items;
      kept = subst (λ r. IfSome r (λ x. IsKept laid c.in_ok-shape.shape c.node_in.new.kept)) c.in-Some.is
          c.in_ok-found.ensures.kept;
    }

pub returns : goal.returns
returns c =
    let laid = laid_tree c.args.laid.now in
    let nodes = c.args.configured.now.nodes.keys in
    let known = FitsNodes laid c.args.body (extents_in c.args.graph.now.edges.items) nodes c.args.known.now.live in
    let past = c.loop-node-test.false in
    let most = c.loop-node.auto.node-end in
    let count = c.loop-node.invariant.count in
    let keys = ap length c.as_slice-nodes.ensures.keys in
    rows_all node_lines_of (FitsNode known) EndsNode EndsTable (length nodes) c.args.ahead.now c.loop-node.ahead
    c.loop-node.table.items (omega (arith, past, most, count, keys)) c.loop-node.invariant.far
