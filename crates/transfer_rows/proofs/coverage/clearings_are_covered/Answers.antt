use Rattle.transfer_rows.proofs.Covers.{clear_covers}
use Rattle.transfer_rows.proofs.coverage.clearings_are_covered.Goals as goal

pub returns : goal.returns
returns c = λ around s temps cleared store ins. clear_covers around s temps ins cleared store
