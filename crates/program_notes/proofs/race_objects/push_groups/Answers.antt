use Rattle.program_notes.specs.GroupTexts.{group_object}
use Rattle.std.proofs.Common.{ap, ◌∙◌, ◌++◌}
use Rattle.notes_json.proofs.Listed.{next_placed, all_placed}
use Rattle.program_notes.proofs.race_objects.push_groups.Goals as goal

pub loop-at-preserved : goal.loop-at-preserved
loop-at-preserved c =
    let f = group_object c.args.numbers.now c.args.members.now in
    let at = c.loop-at.at in
    let item = c.index-groups-at in
    let told = rw c.members_at.ensures at c.in_ok-push_group.ensures in
    next_placed f c.args.groups.now at item.result c.args.text.now.items c.loop-at-test.true c.loop-at.invariant
    c.in_ok-push_comma.ensures (told ∙ ap (λ x. c.push_comma.new.text.items ++ f (at, x)) item.is)

pub returns : goal.returns
returns c =
    all_placed (group_object c.args.numbers.now c.args.members.now)
    c.args.groups.now c.loop-at.at c.args.text.now.items c.loop-at-test.false c.loop-at.invariant
