use Rattle.notes_json.proofs.Chains.{three}
use Rattle.program_notes.proofs.whole.push_alarms_part.Goals as goal

pub returns : goal.returns
returns c =
    let alarms =
    rw (c.deref.ensures.value, c.deref-2.ensures.value, c.deref-3.ensures.value, c.deref-4.ensures.value)
    at c.in_ok-push_alarms.ensures in
    let count = rw c.deref-5.ensures.value at c.in_ok-push_count.ensures in
    three _ _ _ _ c.in_ok-push_bytes.ensures alarms count
