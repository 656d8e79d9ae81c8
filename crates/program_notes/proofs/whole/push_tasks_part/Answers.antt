use Rattle.std.proofs.lemmas.Result.{on_ok_weaker}
use Rattle.notes_json.proofs.Chains.{three}
use Rattle.program_notes.proofs.whole.push_tasks_part.Goals as goal

pub returns : goal.returns
returns c =
    let tasks = rw c.deref.ensures.value at c.in_ok-push_runners.ensures in
    on_ok_weaker c.push_bytes-2.result (λ e. three _ _ _ _ c.in_ok-push_bytes.ensures tasks e) c.push_bytes-2.ensures
