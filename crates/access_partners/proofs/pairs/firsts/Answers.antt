use Rattle.std.proofs.Common.{◌≡◌, ◌∙◌, ℕ, sym, subst, length, get_or, arith}
use Rattle.access_partners.specs.reading.Pairs.{IsFirstSame}
use Rattle.access_partners.proofs.Lists.{all_more, push_count}
use Rattle.access_partners.proofs.pairs.firsts.Goals as goal

pub loop-at-preserved : goal.loop-at-preserved
loop-at-preserved c =
    let n = c.loop-at.at in
    let i = c.loop-at.invariant in
    let P = λ (k x : ℕ). IsFirstSame c.args.accesses.now c.args.points.now k x in record {
      count = push_count c.loop-at.firsts.items c.push.new.self.items c.first_same.result n c.in_ok-push.ensures.items
          i.count;
      each = λ k lt. subst (λ xs. P k (get_or xs k 0)) (sym c.in_ok-push.ensures.items)
          (all_more P 0 c.loop-at.firsts.items c.first_same.result n i.count i.each c.first_same.ensures k lt);
    }

pub returns : goal.returns
returns c =
    let end : c.loop-at.at ≡ length c.args.accesses.now = omega arith in
    let i = c.loop-at.invariant in record {
      count = i.count ∙ end;
      each = λ k lt. i.each k (omega (arith, end, lt));
    }
