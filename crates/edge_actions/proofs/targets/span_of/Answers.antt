use Rattle.edge_actions.proofs.LeadingCells.{span_none, span_some}
use Rattle.edge_actions.proofs.targets.span_of.Goals as goal

pub returns-in-None : goal.returns-in-None
returns-in-None c = span_none c.args.offsets.now.offsets c.args.cells c.in-None.ensures

pub returns-in-Some : goal.returns-in-Some
returns-in-Some c = span_some c.args.offsets.now c.args.cells c.in-Some.field-0.first c.in-Some.field-0.last c.min.result c.end_of-end.result c.in-Some.ensures c.end_of-end.ensures c.min.ensures
