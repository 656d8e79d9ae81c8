use Rattle.std.proofs.Common.{arith}
use Rattle.pointer_dom.proofs.StepFacts.{less_one, subscripts_exactly}
use Rattle.pointer_dom.proofs.addresses.all_subscripts.Goals as goal

pub returns : goal.returns
returns c = subscripts_exactly c.args.count _ c.range.result (less_one c.args.count c.from.result c.from.ensures (omega (arith, c.ranges.count))) c.range.ensures
