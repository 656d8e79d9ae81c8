use Rattle.operation_laws.proofs.FileSorts.{file_sorts}
use Rattle.operation_laws.proofs.laws.copies_are_settled.Goals as goal

pub returns : goal.returns
returns c = λ laid h body lt. (file_sorts laid h body lt).2
