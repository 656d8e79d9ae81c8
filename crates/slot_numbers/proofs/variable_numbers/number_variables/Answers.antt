use Rattle.std.proofs.Common.{◌∙◌, ◌++◌, ap, map, arith, rules, refl}
use Rattle.slot_numbers.specs.Numberings.{at_node}
use Rattle.slot_numbers.proofs.Laying.{slots_begun, slots_more}
use Rattle.slot_numbers.proofs.variable_numbers.number_variables.Goals as goal

pub loop-node-init : goal.loop-node-init
loop-node-init c =
    slots_begun c.args.graph.now c.args.placing.now c.args.cells.now c.new-owned.result.items c.new-starts.result.items
    c.new-slots.result.items c.new-owned.ensures.items c.new-starts.ensures.items c.new-slots.ensures.items

pub loop-node-preserved : goal.loop-node-preserved
loop-node-preserved c =
    slots_more c.args.graph.now c.args.placing.now c.args.cells.now c.loop-node.node c.loop-node.owned.items
    c.push-in-loop-node.new.self.items c.loop-node.starts.items c.push.new.self.items c.loop-node.slots.items
    c.push_slots.new.slots.items c.in_ok-own.own c.cells-listed.ensures.rising c.in_ok-own.ensures c.loop-node.invariant
    c.in_ok-push-2.ensures.items c.len.result (search rules) c.in_ok-push.ensures.items
    (c.in_ok-push_slots.ensures
    ∙ ap (λ ys. c.loop-node.slots.items ++ map (at_node c.loop-node.node) ys) c.cells-listed.ensures.same)

pub invariant_of-result : goal.invariant_of-result
invariant_of-result c = record {
  first_is = c.in_ok-first_slot.ensures.sum;
  count_is = search rules;
  fits = c.in_ok-count.ensures.fits;
  owned_each = (let each = c.loop-node.invariant.each in omega (arith, each));
  laid = c.loop-node.invariant.laid;
}

pub returns : goal.returns
returns c = record {
  nodes = refl;
  edges_each = search rules;
  owned_each = (let each = c.loop-node.invariant.each in omega (arith, each));
  owned = λ n x lt. c.loop-node.invariant.own n x (omega (arith, lt));
  laid = c.loop-node.invariant.laid;
}
