use Rattle.std.proofs.lemmas.Result.{on_ok_weaker}
use Rattle.notes_json.proofs.Chains.{seven}
use Rattle.notes_json.proofs.alarms.push_alarm_lines.Goals as goal

pub returns : goal.returns
returns c =
    let length_of_told = rw c.length_of.ensures at c.in_ok-push_option.ensures in
    let mutex_of_told = rw c.mutex_of.ensures at c.in_ok-push_option-2.ensures in
    on_ok_weaker c.push_bytes-3.result (λ e. seven _ _ _ _ _ _ _ _ c.in_ok-push_word.ensures
    c.in_ok-push_bytes.ensures length_of_told c.in_ok-push_number.ensures c.in_ok-push_bytes-2.ensures mutex_of_told e)
    c.push_bytes-3.ensures
