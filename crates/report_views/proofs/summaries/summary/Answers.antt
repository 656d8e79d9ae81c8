use Rattle.std.proofs.Common.{map}
use Rattle.report_views.specs.Sentences.{classes}
use Rattle.report_views.specs.Summaries.{class_line}
use Rattle.report_views.specs.reading.Seen.{spot_seen}
use Rattle.report_views.proofs.ClassLines.{line_more}
use Rattle.report_views.proofs.summaries.summary.Goals as goal

pub loop-class-preserved : goal.loop-class-preserved
loop-class-preserved c =
    line_more (class_line (map spot_seen c.args.spots.now)) classes c.loop-class.class-index _ c.loop-class.text.items _
    c.loop-class-test.true c.loop-class.invariant c.in_ok-push_class.ensures
