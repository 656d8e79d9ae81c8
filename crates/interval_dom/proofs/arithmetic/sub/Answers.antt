use Rattle.std.proofs.Common.{arith}
use Rattle.std.proofs.lemmas.Int.{ints}
use Rattle.interval_dom.proofs.Corners.{same_span}
use Rattle.interval_dom.proofs.arithmetic.sub.Goals as goal

pub returns : goal.returns
returns c = same_span (omega (arith, ints)) (omega (arith, ints))
