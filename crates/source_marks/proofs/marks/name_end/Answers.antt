use Rattle.source_marks.proofs.Texts.{protected_step, plain_step}
use Rattle.source_marks.proofs.marks.name_end.Goals as goal
use Rattle.source_marks.proofs.marks.name_end.Goals.{then-escaped, else-escaped+else-byte-eq34}

pub loop-i-preserved : goal.loop-i-preserved
loop-i-preserved c =
    elim c.if-escaped.branch [
      | then-escaped w ↦ protected_step c.args.text.now c.loop-i.i c.loop-i.escaped c.if-escaped.escaped _ c.loop-i-test.true
          w.if-escaped.true w.escaped-is c.loop-i.invariant
      | else-escaped+else-byte-eq34 w ↦
          plain_step c.args.text.now c.loop-i.i c.loop-i.escaped c.if-escaped.escaped _ c.loop-i-test.true
          w.if-escaped.false w.if-byte-eq34.false w.escaped-is c.loop-i.invariant
    ]
