use Rattle.transfer_rows.proofs.Covers.{yield_covers}
use Rattle.transfer_rows.proofs.coverage.waiting_is_covered.Goals as goal

pub returns : goal.returns
returns c = λ around s temps store ins. yield_covers around s temps ins store
