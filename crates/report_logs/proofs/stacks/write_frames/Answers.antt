use Rattle.std.proofs.Common.{arith, ◌∙◌, ap, map, sym}
use Rattle.report_logs.specs.reading.Seen.{way_told_seen}
use Rattle.report_logs.proofs.Appending.{last}
use Rattle.report_logs.proofs.ToldOnce.{next}
use Rattle.report_logs.proofs.WaysTold.{frame_more, frames_end}
use Rattle.report_logs.proofs.stacks.write_frames.Goals as goal

pub returns-then-not-is_call : goal.returns-then-not-is_call
returns-then-not-is_call c =
    last c.end_array.result c.end_array.ensures
    (λ e. frames_end _ _ _ (ap (map way_told_seen) (next c.args.behind.now c.loop-i.i _ (omega arith)))
    (sym c.is_call.ensures ∙ c.if-not-is_call.true) c.loop-i.invariant e)

pub loop-i-preserved : goal.loop-i-preserved
loop-i-preserved c =
    frame_more _ _ _ (ap (map way_told_seen) (next c.args.behind.now c.loop-i.i _ (omega arith)))
    (sym c.is_call.ensures ∙ c.if-not-is_call.false) c.loop-i.invariant c.in_ok-write_frame-2.ensures
