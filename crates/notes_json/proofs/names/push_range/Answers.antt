use Rattle.std.proofs.Common.{ap, ◌∙◌, ◌++◌}
use Rattle.std.proofs.lemmas.Int.{to_z-of_z}
use Rattle.std.proofs.lemmas.Result.{on_ok_weaker}
use Rattle.std.specs.Prelude.{codes}
use Rattle.std.specs.Int.{w128}
use Rattle.notes_json.specs.Pieces.{number_text}
use Rattle.notes_json.specs.Names.{signed_text}
use Rattle.notes_json.proofs.Chains.{four}
use Rattle.notes_json.proofs.names.push_range.Goals as goal

pub returns : goal.returns
returns c =
    let high = codes "\"hi\":" in
    let low = codes ",\"lo\":" in
    on_ok_weaker c.push_bytes.result
    (λ e. four c.args.text.now.items (signed_text high c.args.high) (number_text (codes ",\"line\":") c.args.line)
    (signed_text low c.args.low) (codes ",\"members\":[")
    (c.in_ok-push_signed.ensures
    ∙ ap (λ n. c.args.text.now.items ++ signed_text high n) (to_z-of_z w128 c.args.high c.ranges.high))
    c.in_ok-push_number.ensures
    (c.in_ok-push_signed-2.ensures
    ∙ ap (λ n. c.push_number.new.text.items ++ signed_text low n) (to_z-of_z w128 c.args.low c.ranges.low)) e)
    c.push_bytes.ensures
