use Rattle.std.proofs.Common.{arith, ◌∙◌, ap, drop, get_or, map, sym, take}
use Rattle.std.specs.Prelude.{string_bytes}
use Rattle.std.specs.List.{drop-map, take-map}
use Rattle.place_details.specs.reading.Seen.{bytes_seen}
use Rattle.report_views.specs.reading.Seen.{spot_seen}
use Rattle.report_logs.specs.reading.Seen.{way_told_seen}
use Rattle.report_logs.proofs.ToldOnce.{at, next, result_more, with_ways}
use Rattle.report_logs.proofs.WaysTold.{share_at, sum_at}
use Rattle.report_logs.proofs.results.write_results.Goals as goal

pub own_of-own-requires : goal.own_of-own-requires
own_of-own-requires c =
    let counts = c.requires.ways.of_counts in
    let all = c.loop-i.invariant.1 in
    let here =
    sum_at c.args.ways.counts.now c.loop-i.i (get_or c.args.ways.counts.now c.loop-i.i 0)
    (next c.args.ways.counts.now c.loop-i.i 0 (omega arith)) in
    omega arith

pub overflow_add-start : goal.overflow_add-start
overflow_add-start c = omega (arith, c.own_of-own.ensures.fits)

pub loop-i-preserved : goal.loop-i-preserved
loop-i-preserved c =
    let regions = c.requires.details.of_regions in
    let functions = c.requires.details.of_functions in
    let fingerprints = c.requires.details.of_fingerprints in
    let counts = c.requires.ways.of_counts in
    let all = c.loop-i.invariant.1 in
    let details = c.args.details.now in
    let count = get_or c.args.ways.counts.now c.loop-i.i 0 in
    let told = c.args.ways.told.now in
    let one = next c.args.ways.counts.now c.loop-i.i 0 (omega arith) in
    let here = sum_at c.args.ways.counts.now c.loop-i.i (get_or c.args.ways.counts.now c.loop-i.i 0) one in (
      result_more _ _ _ _ _ _ _ _ _ _ _ _ _ _ _ _
          (ap (map spot_seen) (next c.args.spots.now c.loop-i.i _ (omega arith)))
          (at details.regions.items c.loop-i.i c.index.result.now (omega arith) c.index.ensures)
          (ap (map bytes_seen)
          (at details.functions.items c.loop-i.i c.index-in-loop-i.result.now (omega arith) c.index-in-loop-i.ensures))
          (ap (map string_bytes)
          (at details.fingerprints.items c.loop-i.i c.index-in-loop-i-2.result.now (omega arith)
          c.index-in-loop-i-2.ensures))
          (share_at c.args.ways.counts.now (map way_told_seen told) c.loop-i.i c.loop-i.start count one)
          (with_ways _ _ _ _ _ _ _ c.told_of-told.ensures
          (ap (map way_told_seen) c.own_of-own.ensures.value
          ∙ sym (take-map way_told_seen count (drop c.loop-i.start told))
          ∙ ap (take count) (sym (drop-map way_told_seen c.loop-i.start told))))
          c.loop-i.invariant.0 c.in_ok-write_result.ensures,
      omega arith,
    )
