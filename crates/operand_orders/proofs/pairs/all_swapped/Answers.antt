use Rattle.std.proofs.Common.{◌≤◌, ◌↔◌, length, get_or, subst, arith}
use Rattle.std.specs.Prelude.{Contains}
use Rattle.std.proofs.lemmas.List.{take_all}
use Rattle.operand_orders.specs.reading.Pairs.{pair, swapped}
use Rattle.access_races.proofs.Joins.{grown, pushed}
use Rattle.operand_orders.proofs.Halving.{swapped_is}
use Rattle.operand_orders.proofs.pairs.all_swapped.Goals as goal

pub loop-pair-preserved : goal.loop-pair-preserved
loop-pair-preserved c = λ p.
    let q = get_or c.args.pairs.now c.loop-pair.pair-index (pair 0 0) in
    grown (pushed c.loop-pair.others.items c.push.new.self.items (swapped q) c.in_ok-push.ensures.items p)
    (c.loop-pair.invariant p)
    (swapped_is c.args.pairs.now c.loop-pair.pair-index c.loop-pair-test.true p)

pub returns : goal.returns
returns c = λ p.
    let end : length c.args.pairs.now ≤ c.loop-pair.pair-index = omega arith in
    subst (λ xs. Contains c.loop-pair.others.items p ↔ Contains xs (swapped p))
    (take_all c.loop-pair.pair-index c.args.pairs.now end) (c.loop-pair.invariant p)
