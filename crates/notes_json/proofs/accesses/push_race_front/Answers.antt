use Rattle.std.proofs.lemmas.Result.{on_ok_weaker}
use Rattle.notes_json.proofs.Chains.{five}
use Rattle.notes_json.proofs.accesses.push_race_front.Goals as goal

pub returns : goal.returns
returns c =
    let kind_text_told = rw c.kind_text.ensures at c.in_ok-push_word.ensures in
    on_ok_weaker c.push_bytes.result (λ e. five _ _ _ _ _ _ c.in_ok-push_set.ensures kind_text_told
    c.in_ok-push_word-2.ensures c.in_ok-push_number.ensures e)
    c.push_bytes.ensures
