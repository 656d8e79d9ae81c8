use Rattle.refusal_hints.proofs.Steps.{protected_step, plain_step}
use Rattle.refusal_hints.proofs.words.literal_length.Goals as goal
use Rattle.refusal_hints.proofs.words.literal_length.Goals.{then-protected, else-protected+else-byte-quote+else-byte-eq10}

pub loop-i-preserved : goal.loop-i-preserved
loop-i-preserved c =
    elim c.if-protected.branch [
      | then-protected w ↦
          protected_step c.args.quote c.args.text.now c.loop-i.i c.loop-i.protected c.if-protected.protected _
          c.loop-i-test.true w.if-protected.true w.protected-is c.loop-i.invariant
      | else-protected+else-byte-quote+else-byte-eq10 w ↦
          plain_step c.args.quote c.args.text.now c.loop-i.i c.loop-i.protected c.if-protected.protected _
          c.loop-i-test.true w.if-protected.false w.if-byte-quote.false w.if-byte-eq10.false w.protected-is
          c.loop-i.invariant
    ]
