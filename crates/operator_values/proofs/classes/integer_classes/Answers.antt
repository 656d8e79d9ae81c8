use Rattle.operator_values.specs.Classes.{may_fail_is}
use Rattle.operator_values.proofs.classes.integer_classes.Goals as goal

pub returns : goal.returns
returns c = may_fail_is
