use Rattle.std.proofs.Common.{ap, sym, ◌∙◌, arith, Some}
use Rattle.std.proofs.lemmas.Option.{slice_get-get_or}
use Rattle.concrete_worlds.proofs.Lists.{answer_one, same_one}
use Rattle.concrete_worlds.proofs.worlds.note.Goals as goal

pub returns-in-Ok-clause-told : goal.returns-in-Ok-clause-told
returns-in-Ok-clause-told c =
    answer_one c.args.lists.now.items c.args.task c.in-Some.list.now c.push.new.self c.args.answer c.in-Some.ensures.item.3.0 c.in-Some.ensures.value
    c.in-Ok.ensures.items

pub returns-in-Err-clause-same : goal.returns-in-Err-clause-same
returns-in-Err-clause-same c =
    same_one c.args.lists.now.items c.args.task c.in-Some.list.now c.push.new.self c.in-Some.ensures.value c.in-Err.ensures.items

pub returns-in-Err-clause-room : goal.returns-in-Err-clause-room
returns-in-Err-clause-room c = λ h. absurd (let lt = h c.in-Some.list.now (slice_get-get_or c.args.lists.now.items c.args.task c.in-Some.list.now c.in-Some.ensures.item.3.0 ∙ ap Some (sym c.in-Some.ensures.value)) in omega (arith, lt, c.in-Err.ensures.full))
