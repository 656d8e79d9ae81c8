use Rattle.std.proofs.Common.{◌∙◌, sym, arith}
use Rattle.certificate_parts.proofs.Fronting.{held_number, held_other, too_few}
use Rattle.certificate_parts.proofs.words.behind_numbers.Goals as goal

pub returns-then-words-numbers : goal.returns-then-words-numbers
returns-then-words-numbers c = too_few c.args.words.now c.args.numbers.now c.if-words-numbers.true

pub returns-then-not-is_number : goal.returns-then-not-is_number
returns-then-not-is_number c =
    held_other c.args.words.now c.args.numbers.now _ _ c.loop-at.at (omega arith) c.loop-at-test.true c.loop-at.invariant
    (λ e. (let t = sym (c.is_number.ensures.1 e) ∙ c.if-not-is_number.true in cc))

pub loop-at-preserved : goal.loop-at-preserved
loop-at-preserved c =
    held_number c.args.words.now c.args.numbers.now _ _ c.loop-at.at (omega arith) c.loop-at-test.true c.loop-at.invariant
    (c.is_number.ensures.0 c.if-not-is_number.false)
