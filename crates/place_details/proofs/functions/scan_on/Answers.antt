use Rattle.place_details.proofs.Steps.{scanned_more}
use Rattle.place_details.proofs.functions.scan_on.Goals as goal

pub loop-i-preserved : goal.loop-i-preserved
loop-i-preserved c =
    scanned_more c.args.code.now c.loop-i.i c.loop-i.scan c.step-scan.result c.loop-i.invariant c.step-scan.ensures
