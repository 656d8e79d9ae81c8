use Rattle.std.proofs.Common.{arith, map}
use Rattle.report_views.specs.reading.Seen.{spot_seen}
use Rattle.report_pages.specs.reading.Seen.{bytes_seen}
use Rattle.report_pages.proofs.Steps.{item_at, next, row_more}
use Rattle.report_pages.proofs.rows.push_alarms.Goals as goal

pub loop-i-preserved : goal.loop-i-preserved
loop-i-preserved c =
    let same = c.requires in
    row_more c.args.findings.now (map spot_seen c.args.spots.now) (map bytes_seen c.args.notes.now) c.loop-i.i _ _
    c.line_at-note.result.now _ _ _
    (next c.args.findings.now c.loop-i.i _ (omega arith))
    (item_at spot_seen c.args.spots.now c.loop-i.i _ (omega arith)) c.line_at-note.ensures c.loop-i.invariant
    c.in_ok-push_alarm.ensures
