use Rattle.std.proofs.Common.{◌≤◌, ◌↔◌, length, subst, arith}
use Rattle.std.specs.Prelude.{Contains}
use Rattle.std.proofs.lemmas.List.{take_all}
use Rattle.access_races.specs.reading.Ways.{list_at, IsWayTo}
use Rattle.access_races.proofs.Joins.{grown}
use Rattle.access_races.proofs.Fronts.{ways_more}
use Rattle.access_races.proofs.ways.ways_by_cell.Goals as goal

pub loop-access-preserved : goal.loop-access-preserved
loop-access-preserved c = λ cell w.
    grown (c.in_ok-add_way.ensures cell w) (c.loop-access.invariant cell w)
    (ways_more c.args.accesses.now c.loop-access.access-index c.loop-access-test.true cell w)

pub returns : goal.returns
returns c = λ cell w.
    let end : length c.args.accesses.now ≤ c.loop-access.access-index = omega arith in
    subst (λ xs. Contains (list_at c.loop-access.ways.items cell) w ↔ IsWayTo xs cell w)
    (take_all c.loop-access.access-index c.args.accesses.now end) (c.loop-access.invariant cell w)
