use Rattle.std.proofs.Common.{refl, ◌∙◌, ap, arith, List}
use Rattle.mutex_configs.specs.declared.nodes.ConfiguredNode.{ConfiguredNode}
use Rattle.mutex_configs.specs.Nodes.{entry_node}
use Rattle.mutex_configs.specs.reading.Searches.{added}
use Rattle.mutex_configs.proofs.Grouping.{leaving_groups}
use Rattle.mutex_configs.proofs.Searching.{first_node, all_done, differ, place_is_there, numbers_within, turned}
use Rattle.mutex_configs.proofs.reached.search.Goals as goal

pub loop-done-init : goal.loop-done-init
loop-done-init c = first_node c.args.graph.now.edges.items c.add.new.nodes.keys
    (c.in_ok-add.ensures ∙ ap (λ (ns : List ConfiguredNode). added ns entry_node) c.new-nodes.ensures.empty)

pub returns-then-len-most : goal.returns-then-len-most
returns-then-len-most c = record {
  nodes = c.loop-done.nodes.keys;
  different = differ c.loop-done.nodes.keys c.len.ensures.unique;
  reached = c.loop-done.invariant.reached;
  more = (let a = c.if-len-most.true in let b = c.len.ensures.len in omega (arith, a, b));
}

pub leaving-requires : goal.leaving-requires
leaving-requires c = λ k d lt. (c.requires.from k d lt, c.requires.to k d lt)

pub index-requires : goal.index-requires
index-requires c =
    let a = place_is_there c.args.graph.now.edges.items c.args.graph.now.nodes c.loop-done.done c.loop-done.nodes.keys c.as_slice.result.now
    c.loop-done.invariant c.requires.entry c.requires.to (let l = c.loop-done-test.true in let n = c.len.ensures.len in omega (arith, l, n)) c.as_slice.ensures.keys in
    let b = (leaving_groups c.args.graph.now.edges.items c.args.graph.now.nodes c.in_ok-leaving.leaving.items c.in_ok-leaving.ensures).count_is in
    omega (arith, a, b)

pub add_all-requires-clause-within : goal.add_all-requires-clause-within
add_all-requires-clause-within c =
    numbers_within c.args.graph.now.edges.items c.args.graph.now.nodes c.loop-done.done c.loop-done.nodes.keys c.as_slice.result.now
    c.loop-done.invariant c.requires.entry c.requires.to (let l = c.loop-done-test.true in let n = c.len.ensures.len in omega (arith, l, n)) c.as_slice.ensures.keys
    c.deref.result.now c.deref.ensures.value c.args.graph.now.edges.items refl c.in_ok-leaving.leaving.items
    (leaving_groups c.args.graph.now.edges.items c.args.graph.now.nodes c.in_ok-leaving.leaving.items c.in_ok-leaving.ensures) c.index.result.now c.index.ensures c.deref-in-loop-done.result.now c.deref-in-loop-done.ensures.value

pub loop-done-preserved : goal.loop-done-preserved
loop-done-preserved c =
    turned c.args.graph.now.edges.items c.args.graph.now.nodes c.loop-done.done c.loop-done.nodes.keys c.as_slice.result.now
    c.loop-done.invariant c.requires.entry c.requires.to (let l = c.loop-done-test.true in let n = c.len.ensures.len in omega (arith, l, n)) c.as_slice.ensures.keys
    c.deref.result.now c.deref.ensures.value c.args.graph.now.edges.items refl c.in_ok-leaving.leaving.items
    (leaving_groups c.args.graph.now.edges.items c.args.graph.now.nodes c.in_ok-leaving.leaving.items c.in_ok-leaving.ensures) c.index.result.now c.index.ensures c.deref-in-loop-done.result.now c.deref-in-loop-done.ensures.value
    c.add_all.new.nodes.keys c.in_ok-add_all.ensures

pub returns : goal.returns
returns c = (all_done c.args.graph.now.edges.items c.loop-done.done c.loop-done.nodes.keys c.loop-done.invariant (let l = c.loop-done-test.false in let n = c.len.ensures.len in omega (arith, l, n)), differ c.loop-done.nodes.keys c.len.ensures.unique)
