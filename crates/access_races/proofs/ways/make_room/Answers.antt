use Rattle.std.proofs.Common.{◌≡◌, ◌+◌, ◌∙◌, ap, length, arith}
use Rattle.std.proofs.lemmas.List.{length_push}
use Rattle.access_races.proofs.Cells.{with_empty}
use Rattle.access_races.proofs.ways.make_room.Goals as goal

pub loop-preserved : goal.loop-preserved
loop-preserved g c =
    let one-more : length c.push.new.self.items ≡ length c.loop.lists.items + 1 =
    ap length c.in_ok-push.ensures.items ∙ length_push c.loop.lists.items c.new.result in
    let counted = c.loop.invariant.count in
    record {
      count = omega (arith, one-more, counted);
      small = λ was. omega (arith, one-more, counted, c.loop-test.true, c.ranges.number.fits);
      same = λ n.
          with_empty c.loop.lists.items c.push.new.self.items c.new.result c.in_ok-push.ensures.items
          c.new.ensures.items n
          ∙ c.loop.invariant.same n;
    }

pub returns : goal.returns
returns g c = record {
  room = omega (arith, c.loop.invariant.count, c.loop-test.false);
  small = c.loop.invariant.small;
  same = c.loop.invariant.same;
}
