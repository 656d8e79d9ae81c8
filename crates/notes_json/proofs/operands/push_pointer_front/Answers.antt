use Rattle.std.proofs.lemmas.Result.{on_ok_weaker}
use Rattle.notes_json.proofs.Chains.{three}
use Rattle.notes_json.proofs.operands.push_pointer_front.Goals as goal

pub returns : goal.returns
returns c =
    let has_invalid_told = rw c.has_invalid.ensures at c.in_ok-push_truth.ensures in
    let has_null_told = rw c.has_null.ensures at c.in_ok-push_truth-2.ensures in
    on_ok_weaker c.push_bytes.result (λ e. three _ _ _ _ has_invalid_told has_null_told e)
    c.push_bytes.ensures
