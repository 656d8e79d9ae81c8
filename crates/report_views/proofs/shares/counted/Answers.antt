use Rattle.report_views.proofs.Sharing.{counted_more}
use Rattle.report_views.proofs.shares.counted.Goals as goal

pub loop-finding-preserved : goal.loop-finding-preserved
loop-finding-preserved c =
    counted_more c.args.findings.now c.args.ways.now c.loop-finding.finding-index c.loop-finding.told
    c.leading-count.result _ c.loop-finding.counts.items _ c.loop-finding-test.true c.leading-count.ensures.count
    c.leading-count.ensures.most c.in_ok-push.ensures.items c.loop-finding.invariant
