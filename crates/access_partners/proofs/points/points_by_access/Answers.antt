use Rattle.std.proofs.Common.{◌≡◌, ℕ, List, length, sym, subst, ◌∙◌, arith}
use Rattle.access_races.specs.reading.Ways.{list_at}
use Rattle.access_partners.specs.declared.points.Point.{Point}
use Rattle.access_partners.specs.reading.Points.{ArePointsOf}
use Rattle.access_partners.proofs.Lists.{list_of, lists_more, push_count}
use Rattle.access_partners.proofs.points.points_by_access.Goals as goal

pub loop-at-preserved : goal.loop-at-preserved
loop-at-preserved c =
    let lists = c.args.lists.now in
    let n = c.loop-at.at in
    let i = c.loop-at.invariant in
    let read = c.deref.ensures.value ∙ list_of lists n c.loop-at-test.true c.index-lists-at.result c.index-lists-at.is in
    let here = subst (λ xs. ArePointsOf xs c.in_ok-found.found.items) read c.in_ok-found.ensures in
    let P = λ (k : ℕ) (xs : List Point). ArePointsOf (list_at lists k) xs in record {
      count = push_count c.loop-at.points.items c.push.new.self.items c.in_ok-found.found n c.in_ok-push.ensures.items i.count;
      each = λ k lt. subst (λ us. P k (list_at us k)) (sym c.in_ok-push.ensures.items)
          (lists_more P c.loop-at.points.items c.in_ok-found.found n i.count i.each here k lt);
    }

pub returns : goal.returns
returns c =
    let end : c.loop-at.at ≡ length c.args.lists.now = omega arith in
    let i = c.loop-at.invariant in record {
      count = i.count ∙ end;
      each = λ k lt. i.each k (omega (arith, end, lt));
    }
