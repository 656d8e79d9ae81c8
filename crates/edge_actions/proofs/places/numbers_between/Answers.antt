use Rattle.strided_dom.proofs.Reach.{kept}
use Rattle.edge_actions.proofs.Ranges.{one_range}
use Rattle.edge_actions.proofs.places.numbers_between.Goals as goal

pub returns : goal.returns
returns c = one_range c.args.low c.args.high c.range.result (rw (kept c.requires.low, kept c.requires.high) at c.range.ensures)
