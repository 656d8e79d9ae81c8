use Rattle.std.proofs.Common.{◌≡◌, ◌+◌, length, sym, subst, arith}
use Rattle.access_partners.specs.reading.Pairs.{AreFirsts, ArePartnersBy}
use Rattle.access_partners.proofs.Same.{partners_more}
use Rattle.access_partners.proofs.partners.partners_by_access.Goals as goal

pub partners_of-requires-clause-firsts : goal.partners_of-requires-clause-firsts
partners_of-requires-clause-firsts c =
    subst (AreFirsts c.args.accesses.now c.args.points.now) (sym c.deref.ensures.value) c.in_ok-firsts.ensures

pub partners_of-requires-clause-known : goal.partners_of-requires-clause-known
partners_of-requires-clause-known c =
    subst (ArePartnersBy c.args.accesses.now c.args.points.now c.loop-at.at) (sym c.deref-in-loop-at.ensures.value)
    c.loop-at.invariant

pub loop-at-preserved : goal.loop-at-preserved
loop-at-preserved c =
    subst (ArePartnersBy c.args.accesses.now c.args.points.now (c.loop-at.at + 1)) (sym c.in_ok-push.ensures.items)
    (partners_more c.args.accesses.now c.args.points.now c.loop-at.at c.loop-at.all.items c.loop-at.invariant
    c.in_ok-partners.partners c.in_ok-partners.ensures)

pub returns : goal.returns
returns c =
    let end : c.loop-at.at ≡ length c.args.accesses.now = omega arith in
    subst (λ n. ArePartnersBy c.args.accesses.now c.args.points.now n c.loop-at.all.items) end c.loop-at.invariant
