use Rattle.std.proofs.lemmas.Result.{on_ok_weaker}
use Rattle.notes_json.proofs.Chains.{four}
use Rattle.program_notes.proofs.race_alarms.push_back.Goals as goal

pub returns : goal.returns
returns c =
    let paths = rw c.deref.ensures.value at c.in_ok-push_paths.ensures in
    let tasks = rw c.deref-2.ensures.value at c.in_ok-push_tasks.ensures in
    on_ok_weaker c.push_bytes-2.result (λ e. four _ _ _ _ _ paths c.in_ok-push_bytes.ensures tasks e)
    c.push_bytes-2.ensures
