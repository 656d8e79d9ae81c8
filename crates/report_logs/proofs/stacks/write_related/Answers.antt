use Rattle.std.proofs.Common.{arith, ap, map}
use Rattle.report_logs.specs.reading.Seen.{way_told_seen}
use Rattle.report_logs.proofs.ToldOnce.{next}
use Rattle.report_logs.proofs.WaysTold.{related_more}
use Rattle.report_logs.proofs.stacks.write_related.Goals as goal

pub loop-i-preserved : goal.loop-i-preserved
loop-i-preserved c =
    related_more _ _ _ (ap (map way_told_seen) (next c.args.ways.now c.loop-i.i _ (omega arith))) c.loop-i.invariant
    c.in_ok-write_related_here.ensures
