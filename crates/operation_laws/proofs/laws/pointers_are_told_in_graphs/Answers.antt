use Rattle.operation_laws.proofs.FileSorts.{file_told}
use Rattle.operation_laws.proofs.laws.pointers_are_told_in_graphs.Goals as goal

pub returns : goal.returns
returns c = λ laid is body lt h temp. file_told laid is body lt h temp
