use Rattle.std.proofs.Common.{◌≡◌, ap, sym, ◌∙◌, ◌++◌}
use Rattle.std.proofs.lemmas.Option.{slice_get-get_or}
use Rattle.std.proofs.lemmas.Result.{on_ok_weaker}
use Rattle.std.specs.Prelude.{Some, slice_get}
use Rattle.post_recheck.specs.program_systems.ProgramFacts.{program_with}
use Rattle.program_notes.specs.Operations.{operation_of}
use Rattle.program_notes.specs.AlarmTexts.{other_text}
use Rattle.program_notes.proofs.alarm_objects.push_other.Goals as goal

pub returns-in-Some : goal.returns-in-Some
returns-in-Some c =
    let of = operation_of (program_with c.args.program.now c.args.facts.now) in
    let others = c.args.others.now in
    let next = c.args.next in
    let alarm = c.in-Some.alarm.now in
    let look = c.in-Some.ensures.lookup in
    let found : Some alarm ≡ slice_get others next =
    ap Some look.1 ∙ sym (slice_get-get_or others next alarm look.3.0) in
    let told = rw c.operation_of-operation.ensures at c.push_context.ensures in
    on_ok_weaker c.push_context.result
    (λ e. e
    ∙ ap (λ x. c.args.text.now.items ++ other_text of c.args.bytes.now c.args.numbers.now c.args.details.now x) found)
    told
