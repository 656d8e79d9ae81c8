use Rattle.std.proofs.Common.{arith, ◌+◌, ◌-◌, ap, drop, length, length-drop, map}
use Rattle.std.proofs.lemmas.List.{take_all}
use Rattle.report_logs.specs.reading.Seen.{way_told_seen}
use Rattle.report_logs.proofs.ToldOnce.{next}
use Rattle.report_logs.proofs.WaysTold.{stack_more}
use Rattle.report_logs.proofs.stacks.write_stacks.Goals as goal

pub loop-i-preserved : goal.loop-i-preserved
loop-i-preserved c =
    let long = length-drop (c.loop-i.i + 1) c.args.ways.now in
    stack_more _ _ _ _ (ap (map way_told_seen) (next c.args.ways.now c.loop-i.i _ (omega arith)))
    (ap (map way_told_seen)
    (take_all (length c.args.ways.now - (c.loop-i.i + 1)) (drop (c.loop-i.i + 1) c.args.ways.now) (omega arith)))
    c.loop-i.invariant c.in_ok-write_stack_here.ensures
