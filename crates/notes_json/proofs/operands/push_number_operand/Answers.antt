use Rattle.std.proofs.lemmas.Result.{on_ok_weaker}
use Rattle.notes_json.proofs.Chains.{seven}
use Rattle.notes_json.proofs.operands.push_number_operand.Goals as goal

pub returns : goal.returns
returns c =
    let high = rw c.numbers.ensures at c.in_ok-push_high.ensures in
    let low = rw c.numbers-2.ensures at c.in_ok-push_low.ensures in
    let step = rw c.numbers-3.ensures at c.in_ok-push_step.ensures in
    let type_text_told = rw c.type_text.ensures at c.in_ok-push_word-2.ensures in
    on_ok_weaker c.push_bytes-2.result (λ e. seven _ _ _ _ _ _ _ _ c.in_ok-push_bytes.ensures high low
    c.in_ok-push_word.ensures step type_text_told e)
    c.push_bytes-2.ensures
