use Rattle.std.proofs.Common.{sym, ◌∙◌, arith}
use Rattle.tm_laid.specs.Layouts.{laid_tree}
use Rattle.text_choices.proofs.Scalars.{scalar_goes, scalar_ends, scalar_past}
use Rattle.text_choices.proofs.static_initialisers.scalar_number.Goals as goal

pub returns-in-None : goal.returns-in-None
returns-in-None c =
    sym (scalar_ends (laid_tree c.args.laid.now) 1024 c.loop-step._step c.loop-step.at c.type_at.result (omega arith) c.type_at.ensures
    (sym c.element_type.ensures ∙ c.in-None.is))
    ∙ c.loop-step.invariant

pub loop-step-preserved : goal.loop-step-preserved
loop-step-preserved c =
    sym (scalar_goes (laid_tree c.args.laid.now) 1024 c.loop-step._step c.loop-step.at c.in-Some.element c.type_at.result (omega arith) c.type_at.ensures
    (sym c.element_type.ensures ∙ c.in-Some.is))
    ∙ c.loop-step.invariant

pub returns : goal.returns
returns c =
    sym (scalar_past (laid_tree c.args.laid.now) 1024 c.loop-step._step c.loop-step.at (omega arith)) ∙ c.loop-step.invariant
