use Rattle.std.proofs.Common.{◌∙◌, ◌<◌, sym, length, rules}
use Rattle.replay_lines.proofs.Lines.{choice_more, no_choice}
use Rattle.replay_lines.proofs.choices.choices_of.Goals as goal

pub returns-in-None : goal.returns-in-None
returns-in-None c =
    let some : 0 < length c.loop-rest.rest.now = search rules in
    sym (no_choice c.loop-rest.choices.items c.choice_of.result c.loop-rest.rest.now c.first_line.result.now some c.first_line.ensures c.choice_of.ensures
    c.in-None.is) ∙ c.loop-rest.invariant

pub loop-rest-preserved : goal.loop-rest-preserved
loop-rest-preserved c =
    let some : 0 < length c.loop-rest.rest.now = search rules in
    choice_more c.loop-rest.choices.items c.push.new.self.items c.in-Some.choice c.choice_of.result c.loop-rest.rest.now c.first_line.result.now
    c.other_lines-rest.result.now some c.first_line.ensures c.other_lines-rest.ensures c.choice_of.ensures c.in-Some.is c.in_ok-push-in-Some.ensures.items
    ∙ c.loop-rest.invariant
