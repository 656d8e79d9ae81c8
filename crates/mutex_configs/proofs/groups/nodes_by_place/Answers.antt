use Rattle.std.proofs.Common.{arith}
use Rattle.mutex_configs.specs.declared.nodes.ConfiguredNode.{ConfiguredNode as ANode}
use Rattle.mutex_configs.proofs.Grouping.{none_yet, one_more, all_grouped}
use Rattle.mutex_configs.proofs.groups.nodes_by_place.Goals as goal

pub loop-number-init : goal.loop-number-init
loop-number-init c = none_yet (λ (q : ANode). q.place) c.args.nodes.now c.args.places c.in_ok-groups.groups.items
    c.in_ok-groups.ensures.0 c.in_ok-groups.ensures.1

pub push_number-requires : goal.push_number-requires
push_number-requires c =
    let a = c.loop-number.invariant.count_is in
    let b = c.requires.within c.loop-number.number (record { place = 0; held = 0; found = 0 }) c.loop-number-test.true in
    omega (arith, a, b)

pub loop-number-preserved : goal.loop-number-preserved
loop-number-preserved c = one_more (λ (q : ANode). q.place) c.args.nodes.now c.args.places c.loop-number.number (record { place = 0; held = 0; found = 0 })
    c.loop-number.groups.items c.push_number.new.groups.items c.loop-number.invariant c.loop-number-test.true
    c.in_ok-push_number.ensures

pub returns : goal.returns
returns c = all_grouped (λ (q : ANode). q.place) c.args.nodes.now c.loop-number.number c.args.places c.loop-number.groups.items
    c.loop-number.invariant c.loop-number-test.false c.loop-number.auto.number-end
