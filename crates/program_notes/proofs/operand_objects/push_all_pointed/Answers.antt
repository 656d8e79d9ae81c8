use Rattle.program_notes.specs.OperandTexts.{pointed_text}
use Rattle.program_notes.proofs.Pointed.{next_found}
use Rattle.notes_json.proofs.Listed.{all_listed}
use Rattle.program_notes.proofs.operand_objects.push_all_pointed.Goals as goal

pub loop-at-preserved : goal.loop-at-preserved
loop-at-preserved c =
    next_found (pointed_text c.args.numbers.now c.args.flaws.now)
    c.args.objects.now c.loop-at.at c.args.text.now.items c.loop-at-test.true c.loop-at.invariant
    c.in_ok-push_comma.ensures c.in_ok-push_pointed_at.ensures

pub returns : goal.returns
returns c =
    all_listed (pointed_text c.args.numbers.now c.args.flaws.now)
    c.args.objects.now c.loop-at.at c.args.text.now.items c.loop-at-test.false c.loop-at.invariant
