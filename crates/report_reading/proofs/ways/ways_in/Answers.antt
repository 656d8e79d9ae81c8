use Rattle.std.proofs.Common.{List, map, rules, sym, subst}
use Rattle.report_reading.specs.Ways.{Way}
use Rattle.report_reading.specs.declared.ways.Way.{Way as WayCode}
use Rattle.report_reading.specs.reading.Told.{AreUntold, way_seen}
use Rattle.report_reading.proofs.Told.{seen_more, untold_first, untold_none, untold_some}
use Rattle.report_reading.proofs.ways.ways_in.Goals as goal

pub loop-way-init : goal.loop-way-init
loop-way-init c = (
  c.utf8.text,
  λ list can e.
      let Left : List WayCode → Type 0 = λ found. AreUntold list (map way_seen found) c.args.text.now in
      subst Left (sym c.new-ways.ensures.items) (untold_first list c.args.text.now can e),
)

pub loop-way-preserved : goal.loop-way-preserved
loop-way-preserved c = (
  search rules,
  λ list can e.
      let Left : List Way → Type 0 = λ found. AreUntold list found c.in-Some.behind.now in
      subst Left (sym (seen_more c.loop-way.ways.items _ c.in-Some.way c.in_ok-push.ensures.items))
      (untold_some list (map way_seen c.loop-way.ways.items) c.loop-way.rest.now (way_seen c.in-Some.way)
      c.in-Some.behind.now c.in-Some.ensures.smaller c.in-Some.ensures.line (c.loop-way.invariant.1 list can e)),
)

pub returns : goal.returns
returns c =
    λ list can e. untold_none list (map way_seen c.loop-way.ways.items) c.loop-way.rest.now c.in_default.ensures.line
    (c.loop-way.invariant.1 list can e)
