use Rattle.program_notes.specs.AlarmTexts.{race_object}
use Rattle.std.proofs.Common.{ap, ◌∙◌, ◌++◌}
use Rattle.notes_json.proofs.Listed.{next_listed, all_listed}
use Rattle.program_notes.proofs.race_alarms.push_races.Goals as goal

pub loop-at-preserved : goal.loop-at-preserved
loop-at-preserved c =
    let f = race_object in
    let at = c.loop-at.at in
    let item = c.index-accesses-at in
    let told = c.in_ok-push_race.ensures in
    next_listed f c.args.accesses.now at item.result c.args.text.now.items c.loop-at-test.true c.loop-at.invariant
    c.in_ok-push_comma.ensures (told ∙ ap (λ x. c.push_comma.new.text.items ++ f x) item.is)

pub returns : goal.returns
returns c =
    all_listed race_object
    c.args.accesses.now c.loop-at.at c.args.text.now.items c.loop-at-test.false c.loop-at.invariant
