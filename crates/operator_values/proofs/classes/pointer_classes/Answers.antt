use Rattle.operator_values.specs.Classes.{index_fails_is, move_fails_is, dereference_fails_is}
use Rattle.operator_values.proofs.classes.pointer_classes.Goals as goal

pub returns : goal.returns
returns c = record { subscripts = index_fails_is; moves = move_fails_is; dereferences = dereference_fails_is }
