use Rattle.std.proofs.Common.{◌≡◌, ◌+◌, length, sym, subst, arith}
use Rattle.access_partners.specs.reading.Pairs.{ArePairs}
use Rattle.access_partners.proofs.Same.{pairs_more}
use Rattle.access_partners.proofs.pairs.pairs_of.Goals as goal

pub is_pair-races-requires-clause-known : goal.is_pair-races-requires-clause-known
is_pair-races-requires-clause-known c =
    subst (λ bs. ArePairs c.args.accesses.now c.args.points.now c.args.at c.loop-other.other bs)
    (sym c.deref.ensures.value) c.loop-other.invariant

pub loop-other-preserved : goal.loop-other-preserved
loop-other-preserved c =
    subst (λ bs. ArePairs c.args.accesses.now c.args.points.now c.args.at (c.loop-other.other + 1) bs) (sym c.in_ok-push.ensures.items)
    (pairs_more c.args.accesses.now c.args.points.now c.args.at c.loop-other.other c.loop-other.known.items
    c.loop-other.invariant c.is_pair-races.result c.is_pair-races.ensures)

pub returns : goal.returns
returns c =
    let end : c.loop-other.other ≡ length c.args.accesses.now = omega arith in
    subst (λ n. ArePairs c.args.accesses.now c.args.points.now c.args.at n c.loop-other.known.items) end
    c.loop-other.invariant
