use Rattle.std.proofs.Common.{arith, ◌<◌, ◌+◌, ◌*◌, ◌/◌}
use Rattle.strided_dom.proofs.Solutions.{no_solution_step, solution_step, solution_step_below}
use Rattle.strided_dom.proofs.divisors.+least_factor.Goals.{In-Some}
use Rattle.strided_dom.proofs.divisors.+least_factor.Goals as goal

in_range : {t : _} (c : In-Some t) → c.args.m / c.args.a * c.in-Some.k + c.args.c / c.args.a + c.in-Some.w + 1 < c.args.m
in_range c =
    solution_step_below c.args.a c.args.c c.args.m c.in-Some.k c.in-Some.w (omega arith) (omega arith) c.requires.rest c.in-Some.ensures.below c.in-Some.ensures.answer

pub overflow_mul-result : goal.overflow_mul-result
overflow_mul-result t c = omega (arith, in_range c)

pub overflow_add-result : goal.overflow_add-result
overflow_add-result t c = omega (arith, in_range c)

pub overflow_add-result-in-Some : goal.overflow_add-result-in-Some
overflow_add-result-in-Some t c = omega (arith, in_range c)

pub overflow_add-result-in-Some-2 : goal.overflow_add-result-in-Some-2
overflow_add-result-in-Some-2 t c = omega (arith, in_range c)

pub returns-in-None-clause-answer : goal.returns-in-None-clause-answer
returns-in-None-clause-answer t c = no_solution_step c.args.a c.args.c c.args.m (omega arith) (omega arith) c.in-None.ensures.answer

pub returns-in-Some-clause-answer : goal.returns-in-Some-clause-answer
returns-in-Some-clause-answer t c = solution_step c.args.a c.args.c c.args.m c.in-Some.k c.in-Some.w (omega arith) (omega arith) c.in-Some.ensures.answer

pub returns-in-Some-clause-below : goal.returns-in-Some-clause-below
returns-in-Some-clause-below t c = in_range c
