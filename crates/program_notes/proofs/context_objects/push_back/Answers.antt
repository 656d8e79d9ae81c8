use Rattle.std.proofs.lemmas.Result.{on_ok_weaker}
use Rattle.notes_json.proofs.Chains.{three}
use Rattle.program_notes.proofs.context_objects.push_back.Goals as goal

pub returns : goal.returns
returns c =
    let tasks = rw c.deref.ensures.value at c.in_ok-push_tasks.ensures in
    on_ok_weaker c.push_alarm_end.result (λ e. three _ _ _ _ c.in_ok-push_alarm_back.ensures tasks e)
    c.push_alarm_end.ensures
