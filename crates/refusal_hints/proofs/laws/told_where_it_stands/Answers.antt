use Rattle.refusal_hints.proofs.Fitting.{fitting}
use Rattle.refusal_hints.proofs.laws.told_where_it_stands.Goals as goal

pub returns : goal.returns
returns c = fitting
