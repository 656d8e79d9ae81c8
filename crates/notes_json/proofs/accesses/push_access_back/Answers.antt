use Rattle.std.proofs.lemmas.Result.{on_ok_weaker}
use Rattle.notes_json.proofs.Chains.{six}
use Rattle.notes_json.proofs.accesses.push_access_back.Goals as goal

pub returns : goal.returns
returns c =
    let kind_text_told = rw c.kind_text.ensures at c.in_ok-push_word.ensures in
    on_ok_weaker c.push_bytes.result (λ e. six _ _ _ _ _ _ _ kind_text_told c.in_ok-push_number.ensures
    c.in_ok-push_word-2.ensures c.in_ok-push_truth.ensures c.in_ok-push_number-2.ensures e)
    c.push_bytes.ensures
