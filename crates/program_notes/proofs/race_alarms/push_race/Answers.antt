use Rattle.std.proofs.lemmas.Result.{on_ok_weaker}
use Rattle.notes_json.proofs.Chains.{three}
use Rattle.program_notes.proofs.race_alarms.push_race.Goals as goal

pub returns : goal.returns
returns c =
    let front = rw c.deref.ensures.value at c.in_ok-push_race_front.ensures in
    let partners = rw c.deref-2.ensures.value at c.in_ok-push_partners.ensures in
    on_ok_weaker c.push_race_back.result (λ e. three _ _ _ _ front partners e) c.push_race_back.ensures
