use Rattle.std.proofs.Common.{arith}
use Rattle.strided_dom.proofs.Commons.{g_some, lcm_fits, common_from_lcm, common_beyond, common_of_zero_left, common_of_zero_right}
use Rattle.strided_dom.proofs.divisors.common_stride.Goals as goal

pub returns-then-m-eq0 : goal.returns-then-m-eq0
returns-then-m-eq0 c = common_of_zero_left c.args.m c.args.n c.args.limit c.if-m-eq0.true

pub returns-then-n-eq0 : goal.returns-then-n-eq0
returns-then-n-eq0 c = common_of_zero_right c.args.m c.args.n c.args.limit c.if-n-eq0.true

pub nonzero_div-step : goal.nonzero_div-step
nonzero_div-step c = g_some c.args.m c.args.n c.gcd.result c.gcd.ensures.greatest (omega arith)

pub returns-then-step-limit : goal.returns-then-step-limit
returns-then-step-limit c =
    common_beyond c.args.m c.args.n c.gcd.result c.gcd.ensures.greatest (omega arith) c.args.limit (omega arith) c.if-step-limit.true

pub overflow_mul-result : goal.overflow_mul-result
overflow_mul-result c =
    omega (arith, lcm_fits c.args.m c.args.n c.gcd.result c.gcd.ensures.greatest (omega arith) c.args.limit (omega arith) c.if-step-limit.false)

pub returns : goal.returns
returns c = common_from_lcm c.args.m c.args.n c.gcd.result c.gcd.ensures.greatest (omega arith) c.args.limit
