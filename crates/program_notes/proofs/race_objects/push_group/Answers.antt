use Rattle.notes_json.proofs.Chains.{five}
use Rattle.program_notes.proofs.race_objects.push_group.Goals as goal

pub returns : goal.returns
returns c =
    let accesses = rw c.deref.ensures.value at c.in_ok-push_accesses.ensures in
    let guard = rw (c.guard_of.ensures, c.deref-2.ensures.value) at c.in_ok-push_guard.ensures in
    let object = rw c.number_of.ensures at c.in_ok-push_number.ensures in
    five _ _ _ _ _ _ c.in_ok-push_bytes.ensures accesses guard object c.in_ok-push_bytes-2.ensures
