use Rattle.std.proofs.Common.{arith, map}
use Rattle.source_marks.specs.reading.Seen.{origin_seen}
use Rattle.report_pages.specs.reading.Seen.{bytes_seen}
use Rattle.report_pages.proofs.Steps.{item_at, source_more}
use Rattle.report_pages.proofs.sources.push_lines.Goals as goal

pub loop-i-preserved : goal.loop-i-preserved
loop-i-preserved c =
    source_more (map origin_seen c.args.origins.now) (map bytes_seen c.args.lines.now) (map bytes_seen c.args.remarks.now)
    c.loop-i.i _ c.line_at-shown.result.now c.line_at-remark.result.now _ _ _
    (item_at origin_seen c.args.origins.now c.loop-i.i _ (omega arith)) c.line_at-shown.ensures c.line_at-remark.ensures
    c.loop-i.invariant c.in_ok-push_row.ensures
