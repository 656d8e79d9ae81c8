use Rattle.std.proofs.Common.{◌≡◌, ◌∙◌, ◌<◌, Bool, true, List, length, get_or, not, ap, arith}
use Rattle.std.proofs.lemmas.List.{get_or_read}
use Rattle.tm_lattice.specs.Tables.{joined_at}
use Rattle.pointer_dom.specs.Values.{joined_values}
use Rattle.cell_env.specs.States.{joined_state}
use Rattle.body_systems.specs.table_covers.Solutions.{at}
use Rattle.mutex_configs.specs.declared.nodes.ConfiguredNode.{ConfiguredNode}
use Rattle.mutex_configs.specs.Nodes.{entry_node}
use Rattle.body_systems.specs.edge_actions.transfer_rows.StateForms.{State}
use Rattle.std.specs.Prelude.{Option, None}
use Rattle.entry_states.proofs.Marks.{end_joined, end_passed}
use Rattle.entry_states.proofs.ends.ended_state.Goals.{then-is_end+in_ok-ended, else-is_end}
use Rattle.entry_states.proofs.ends.ended_state.Goals as goal

pub loop-number-preserved : goal.loop-number-preserved
loop-number-preserved c =
    let edges = c.args.graph.now.edges.items in
    let nodes = c.args.nodes.now.keys in
    let table = c.args.table.now in
    let left = c.in_ok-left.left.items in
    let n = c.loop-number.number in
    let lt : n < length nodes = (let a = c.loop-number-test.true in let b = c.len-number-end.ensures.len in omega (arith, a, b)) in
    let within : n < length table = (let e = c.requires.table in omega (arith, lt, e)) in
    let place = c.requires.places n entry_node lt in
    let is : c.is_end.result ≡ not (get_or left (get_or nodes n entry_node).place true) =
    c.is_end.ensures
    ∙ ap (λ (ms : List Bool). not (get_or ms (get_or c.as_slice.result.now n entry_node).place true)) c.deref.ensures.value
    ∙ ap (λ (qs : List ConfiguredNode). not (get_or left (get_or qs n entry_node).place true)) c.as_slice.ensures.keys in
    elim c.if-is_end.branch [
      | then-is_end+in_ok-ended w ↦
          w.ended-is
          ∙ end_joined edges nodes (at table) c.args.graph.now.nodes left n c.is_end.result c.in_ok-left.ensures place is
          c.loop-number.ended w.in_ok-ended.ended w.if-is_end.true c.loop-number.invariant
          (w.in_ok-ended.ensures
          ∙ ap (λ (o : Option State). joined_at (joined_state joined_values) c.loop-number.ended o)
          (get_or_read table n w.index-table-number.result within w.index-table-number.is None))
      | else-is_end w ↦
          w.ended-is
          ∙ end_passed edges nodes (at table) c.args.graph.now.nodes left n c.is_end.result c.in_ok-left.ensures place is
          c.loop-number.ended w.if-is_end.false c.loop-number.invariant
    ]
