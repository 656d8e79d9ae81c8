use Rattle.std.proofs.Common.{refl, arith}
use Rattle.std.specs.List.{enumerate_from}
use Rattle.std.proofs.lemmas.List.FromFn.{length-enumerate_from}
use Rattle.certificate_texts.specs.TableLines.{node_lines}
use Rattle.certificate_texts.proofs.Adding.{no_lines, as_lines, lines_next, flat_map_all, numbered_element}
use Rattle.certificate_texts.proofs.pages.Page.push_nodes.Goals as goal

pub loop-node-init : goal.loop-node-init
loop-node-init c = no_lines _ _ refl

pub loop-node-preserved : goal.loop-node-preserved
loop-node-preserved c =
    let table = c.args.table.now in
    let at = numbered_element table c.loop-node.node c.index-table-node.result (omega arith) c.index-table-node.is in
    lines_next node_lines (enumerate_from 0 table) c.loop-node.node (c.loop-node.node, c.index-table-node.result) _ _ _
    at.0 at.1 c.loop-node.invariant c.in_ok-push_node.ensures

pub returns : goal.returns
returns c =
    let table = c.args.table.now in
    let size = length-enumerate_from 0 table in
    as_lines c.loop-node.invariant (flat_map_all node_lines (enumerate_from 0 table) (enumerate_from 0 table) c.loop-node.node
    (omega (arith, size)) refl)
