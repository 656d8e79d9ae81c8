use Rattle.std.proofs.lemmas.Result.{on_ok_weaker}
use Rattle.notes_json.proofs.Chains.{three}
use Rattle.program_notes.proofs.path_objects.push_path.Goals as goal

pub returns : goal.returns
returns c =
    let calls = rw c.deref.ensures.value at c.in_ok-push_places.ensures in
    on_ok_weaker c.push_path_back.result (λ e. three _ _ _ _ c.in_ok-push_bytes.ensures calls e)
    c.push_path_back.ensures
