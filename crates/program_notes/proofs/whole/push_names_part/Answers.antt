use Rattle.std.proofs.lemmas.Result.{on_ok_weaker}
use Rattle.notes_json.proofs.Chains.{five}
use Rattle.program_notes.proofs.whole.push_names_part.Goals as goal

pub returns : goal.returns
returns c =
    let dead = rw c.deref.ensures.value at c.in_ok-push_places.ensures in
    let mutexes = rw c.deref-2.ensures.value at c.in_ok-push_mutexes.ensures in
    on_ok_weaker c.push_objects_part.result
    (λ e. five _ _ _ _ _ _ c.in_ok-push_bytes.ensures dead c.in_ok-push_bytes-2.ensures mutexes e)
    c.push_objects_part.ensures
