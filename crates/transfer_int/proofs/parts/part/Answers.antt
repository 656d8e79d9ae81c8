use Rattle.strided_dom.proofs.Reach.{kept}
use Rattle.transfer_int.proofs.Spans.{part_is}
use Rattle.transfer_int.proofs.parts.part.Goals as goal

pub returns : goal.returns
returns c = part_is _ _ _ _ _ (rw (kept c.requires.low, kept c.requires.high) at c.range.ensures) c.meet.ensures
