use Rattle.row_checks.specs.laws.Passed.{passes_is_checked, passes_alike}
use Rattle.row_checks.proofs.laws.passing_edges_are_checked.Goals as goal

pub returns : goal.returns
returns c = record { checked = passes_is_checked; alike = passes_alike }
