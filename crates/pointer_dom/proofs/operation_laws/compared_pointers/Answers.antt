use Rattle.pointer_dom.proofs.OperationMeaning.{usable_holds}
use Rattle.pointer_dom.proofs.operation_laws.compared_pointers.Goals as goal

pub returns-clause-holds : goal.returns-clause-holds
returns-clause-holds c = usable_holds

pub returns-clause-grows : goal.returns-clause-grows
returns-clause-grows c = λ p p' below. record { null = below.null; invalid = λ e. e; objects = below.objects }
