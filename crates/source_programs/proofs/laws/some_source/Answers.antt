use Rattle.source_programs.proofs.SomeSource.{some_source}
use Rattle.source_programs.proofs.laws.some_source.Goals as goal

pub returns : goal.returns
returns c = some_source
