use Rattle.std.proofs.Common.{◌↔◌, subst, ◌∙◌}
use Rattle.std.specs.Prelude.{Contains}
use Rattle.tm_laid.specs.Layouts.{laid_tree}
use Rattle.alarm_contexts.specs.Flaws.{HasFlaw}
use Rattle.alarm_contexts.proofs.operands.used_at.Goals as goal

pub returns-clause-flaws : goal.returns-clause-flaws
returns-clause-flaws c = λ f.
    let values = c.deref.ensures.value ∙ c.in_ok-operands.ensures in
    subst (λ A. Contains c.in_ok-flaws.flaws.items f ↔ A)
    (λ i. HasFlaw (laid_tree c.args.laid.now) (c.operation_of.ensures i) (values i) f) (c.in_ok-flaws.ensures f)
