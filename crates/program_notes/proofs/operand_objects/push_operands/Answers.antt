use Rattle.program_notes.specs.OperandTexts.{operand_text}
use Rattle.std.proofs.Common.{ap, ◌∙◌, ◌++◌}
use Rattle.notes_json.proofs.Listed.{next_placed, all_placed}
use Rattle.program_notes.proofs.operand_objects.push_operands.Goals as goal

pub loop-at-preserved : goal.loop-at-preserved
loop-at-preserved c =
    let f = operand_text c.args.numbers.now c.args.flaws.now c.args.operation c.args.types.now in
    let at = c.loop-at.at in
    let item = c.index-operands-at in
    let told = c.in_ok-push_operand.ensures in
    next_placed f c.args.operands.now at item.result c.args.text.now.items c.loop-at-test.true c.loop-at.invariant
    c.in_ok-push_comma.ensures (told ∙ ap (λ x. c.push_comma.new.text.items ++ f (at, x)) item.is)

pub returns : goal.returns
returns c =
    all_placed (operand_text c.args.numbers.now c.args.flaws.now c.args.operation c.args.types.now)
    c.args.operands.now c.loop-at.at c.args.text.now.items c.loop-at-test.false c.loop-at.invariant
