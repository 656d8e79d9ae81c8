use Rattle.std.proofs.Common.{◌≡◌, ◌≢◌, refl, ap, sym, ◌∙◌, to_z, of_z}
use Rattle.std.specs.Int.{w128}
use Rattle.strided_dom.proofs.Reach.{kept}
use Rattle.filters.proofs.Refinements.{hull_none, hull_one, hull_all, other_end}
use Rattle.filters.proofs.comparisons.unequal.Goals.{After-without}
use Rattle.filters.proofs.comparisons.unequal.Goals as goal

pub returns-then-is_empty-clause-straight : goal.returns-then-is_empty-clause-straight
returns-then-is_empty-clause-straight c = hull_none _ _ _ _ (c.is_empty.ensures.0 c.if-is_empty.true) c.empty.ensures

pub returns-then-is_empty-clause-turned : goal.returns-then-is_empty-clause-turned
returns-then-is_empty-clause-turned c = hull_none _ _ _ _ (c.is_empty.ensures.0 c.if-is_empty.true) c.empty.ensures

ends : (c : After-without) → c.lo.result ≡ c.hi.result
ends c = rw (kept c.lo.ensures.in_reach, kept c.hi.ensures.in_reach) at (ap (to_z w128) c.if-lo-hi.true)

taken : (c : After-without) → to_z w128 (of_z w128 c.lo-then-lo-hi.result) ≡ c.lo.result
taken c = kept c.lo-then-lo-hi.ensures.in_reach ∙ (c.lo-then-lo-hi.ensures.value ∙ sym c.lo.ensures.value)

pub returns-then-lo-hi-clause-straight : goal.returns-then-lo-hi-clause-straight
returns-then-lo-hi-clause-straight c =
    hull_one (λ v w. v ≢ w) _ _ _ _ _ _ (λ v n. n) (λ v u n. n) c.lo.ensures.least c.hi.ensures.greatest (ends c) (taken c) c.without.ensures

pub returns-then-lo-hi-clause-turned : goal.returns-then-lo-hi-clause-turned
returns-then-lo-hi-clause-turned c =
    hull_one (λ v w. w ≢ v) _ _ _ _ _ _ (λ v n e. n (sym e)) (λ v u n e. n (sym e)) c.lo.ensures.least c.hi.ensures.greatest (ends c) (taken c) c.without.ensures

pub returns-clause-straight : goal.returns-clause-straight
returns-clause-straight c =
    hull_all (λ v w. v ≢ w) _ _ (λ v. other_end _ c.lo.result c.hi.result v c.lo.ensures.least.member c.hi.ensures.greatest.member (λ e. c.if-lo-hi.false (rw e refl)))

pub returns-clause-turned : goal.returns-clause-turned
returns-clause-turned c =
    hull_all (λ v w. w ≢ v) _ _ (λ v.
    let x = other_end _ c.lo.result c.hi.result v c.lo.ensures.least.member c.hi.ensures.greatest.member (λ e. c.if-lo-hi.false (rw e refl)) in
    (x.0, (x.1.0, λ e. x.1.1 (sym e))))
