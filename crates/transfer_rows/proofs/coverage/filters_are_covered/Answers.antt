use Rattle.transfer_rows.proofs.FilterLaws.{filter_covers}
use Rattle.transfer_rows.proofs.coverage.filters_are_covered.Goals as goal

pub returns : goal.returns
returns c = λ around s temps filter store ins locals lives h. filter_covers around temps s filter store ins locals lives h
