use Rattle.std.proofs.lemmas.Result.{on_ok_weaker}
use Rattle.notes_json.proofs.Chains.{two}
use Rattle.program_notes.proofs.context_objects.push_middle.Goals as goal

pub returns : goal.returns
returns c =
    let paths = rw c.deref.ensures.value at c.push_paths.ensures in
    on_ok_weaker c.push_paths.result (λ e. two _ _ _ c.in_ok-push_alarm_middle.ensures e) paths
