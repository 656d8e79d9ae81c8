use Rattle.strided_dom.proofs.divisors.+least_factor.Given as goal

abbrev pub decreases-least_factor : goal.decreases-least_factor
decreases-least_factor l = l.a
