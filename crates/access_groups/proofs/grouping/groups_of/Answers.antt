use Rattle.std.proofs.Common.{◌≡◌, subst, ◌∙◌, length, arith}
use Rattle.access_groups.specs.reading.Grouping.{AreGroupsOf}
use Rattle.access_groups.proofs.Grouped.{groups_more, list_of}
use Rattle.access_groups.proofs.grouping.groups_of.Goals as goal

pub loop-object-preserved : goal.loop-object-preserved
loop-object-preserved c =
    let lists = c.args.lists.now in
    let n = c.loop-object.object in
    groups_more lists n c.loop-object.groups.items c.loop-object.invariant c.deref.result.now
    (c.deref.ensures.value ∙ list_of lists n c.loop-object-test.true c.index-lists-object.result
    c.index-lists-object.is) c.add_group.new.groups.items c.in_ok-add_group.ensures

pub returns : goal.returns
returns c =
    let end : c.loop-object.object ≡ length c.args.lists.now = omega arith in
    subst (λ n. AreGroupsOf c.args.lists.now n c.loop-object.groups.items) end c.loop-object.invariant
