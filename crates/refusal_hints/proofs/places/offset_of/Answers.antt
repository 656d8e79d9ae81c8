use Rattle.std.proofs.Common.{sym, ◌∙◌}
use Rattle.refusal_hints.proofs.Steps.{offset_here}
use Rattle.refusal_hints.proofs.places.offset_of.Goals as goal

pub returns-then-is_same-clause-value : goal.returns-then-is_same-clause-value
returns-then-is_same-clause-value c =
    sym (c.loop-i.invariant.value
    ∙ offset_here c.args.text.now c.loop-i.i c.loop-i.at c.args.place c.loop-i-test.true
    (sym c.is_same.ensures ∙ c.if-is_same.true))
