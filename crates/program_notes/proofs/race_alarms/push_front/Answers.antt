use Rattle.std.proofs.lemmas.Result.{on_ok_weaker}
use Rattle.notes_json.proofs.Chains.{three}
use Rattle.program_notes.proofs.race_alarms.push_front.Goals as goal

pub returns : goal.returns
returns c =
    let races = rw c.deref.ensures.value at c.in_ok-push_races.ensures in
    let middle = rw c.text_of-function.ensures at c.push_race_middle.ensures in
    on_ok_weaker c.push_race_middle.result (λ e. three _ _ _ _ c.in_ok-push_bytes.ensures races e) middle
