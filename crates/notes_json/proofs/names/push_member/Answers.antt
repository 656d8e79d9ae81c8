use Rattle.std.proofs.Common.{ap, ◌∙◌, ◌++◌}
use Rattle.std.proofs.lemmas.Int.{to_z-of_z}
use Rattle.std.proofs.lemmas.Result.{on_ok_weaker}
use Rattle.std.specs.Prelude.{codes}
use Rattle.std.specs.Int.{w128}
use Rattle.notes_json.specs.Pieces.{word_text, truth_text}
use Rattle.notes_json.specs.Names.{signed_text}
use Rattle.notes_json.proofs.Chains.{five}
use Rattle.notes_json.proofs.names.push_member.Goals as goal

pub returns : goal.returns
returns c =
    let high = codes "{\"hi\":" in
    let low = codes ",\"lo\":" in
    on_ok_weaker c.push_bytes.result
    (λ e. five c.args.text.now.items (signed_text high c.args.high) (signed_text low c.args.low)
    (word_text (codes ",\"name\":\"") c.args.name.now) (codes ",\"volatile\":" ++ truth_text c.args.volatile)
    (codes "}")
    (c.in_ok-push_signed.ensures
    ∙ ap (λ n. c.args.text.now.items ++ signed_text high n) (to_z-of_z w128 c.args.high c.ranges.high))
    (c.in_ok-push_signed-2.ensures
    ∙ ap (λ n. c.push_signed.new.text.items ++ signed_text low n) (to_z-of_z w128 c.args.low c.ranges.low))
    c.in_ok-push_word.ensures c.in_ok-push_truth.ensures e) c.push_bytes.ensures
