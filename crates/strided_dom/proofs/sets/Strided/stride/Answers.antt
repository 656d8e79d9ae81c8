use Rattle.std.proofs.Common.{arith}
use Rattle.std.proofs.lemmas.Int.{ints}
use Rattle.strided_dom.proofs.Kept.{span_of_some, stride_bound}
use Rattle.strided_dom.proofs.sets.Strided.stride.Goals as goal

pub overflow_cast-result : goal.overflow_cast-result
overflow_cast-result c =
    omega (arith, ints, stride_bound (span_of_some c.self.inside c.args.self.now c.self.invariant c.self.view_is c.requires))

pub returns-clause-value : goal.returns-clause-value
returns-clause-value c =
    let s = span_of_some c.self.inside c.args.self.now c.self.invariant c.self.view_is c.requires in
    omega (arith, ints, stride_bound s, s.step)

pub returns-clause-bound : goal.returns-clause-bound
returns-clause-bound c =
    omega (arith, ints, stride_bound (span_of_some c.self.inside c.args.self.now c.self.invariant c.self.view_is c.requires))
