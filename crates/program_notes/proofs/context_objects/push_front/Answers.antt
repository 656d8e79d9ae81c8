use Rattle.std.proofs.lemmas.Result.{on_ok_weaker}
use Rattle.notes_json.proofs.Chains.{three}
use Rattle.program_notes.proofs.context_objects.push_front.Goals as goal

pub returns : goal.returns
returns c =
    let lines = rw c.text_of-function.ensures at c.in_ok-push_alarm_lines.ensures in
    let operands =
    rw (c.deref.ensures.value, c.deref-2.ensures.value, c.deref-3.ensures.value) at c.push_operands.ensures in
    on_ok_weaker c.push_operands.result (λ e. three _ _ _ _ c.in_ok-push_alarm_front.ensures lines e) operands
