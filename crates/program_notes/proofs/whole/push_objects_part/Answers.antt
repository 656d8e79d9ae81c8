use Rattle.std.proofs.lemmas.Result.{on_ok_weaker}
use Rattle.notes_json.proofs.Chains.{two}
use Rattle.program_notes.proofs.whole.push_objects_part.Goals as goal

pub returns : goal.returns
returns c =
    let objects =
    rw (c.deref.ensures.value, c.deref-2.ensures.value, c.deref-3.ensures.value, c.deref-4.ensures.value)
    at c.push_objects.ensures in
    on_ok_weaker c.push_objects.result (λ e. two _ _ _ c.in_ok-push_bytes.ensures e) objects
