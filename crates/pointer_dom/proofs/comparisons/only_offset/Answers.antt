use Rattle.std.proofs.Common.{◌≡◌, to_z, sym, ap, subst, ◌∙◌, arith}
use Rattle.std.proofs.lemmas.Int.{ints}
use Rattle.std.specs.Int.{w128}
use Rattle.strided_dom.specs.Progression.{single, Has}
use Rattle.strided_dom.proofs.Reach.{kept}
use Rattle.pointer_dom.proofs.OnlyFacts.{one_number}
use Rattle.pointer_dom.proofs.comparisons.only_offset.Goals as goal

pub returns-then-first-hi : goal.returns-then-first-hi
returns-then-first-hi c =
    let same : c.lo-first.result ≡ c.hi.result = rw (kept c.lo-first.ensures.in_reach, kept c.hi.ensures.in_reach) at (ap (to_z w128) c.if-first-hi.true) in
    let low = c.set-set.ensures.within.within c.lo-first.result (subst (λ s. Has s c.lo-first.result) c.set-set.ensures.value c.lo-first.ensures.least.member) in
    sym c.set-set.ensures.value ∙ (one_number c.set-set.result c.lo-first.result c.hi.result c.lo-first.ensures.least c.hi.ensures.greatest same ∙ ap single (rw (kept c.lo-first.ensures.in_reach) (omega (arith, ints, low.from))))
