use Rattle.std.proofs.Common.{ap, string_bytes, ◌∙◌}
use Rattle.big_source.proofs.LinesSoFar.{one_more_call, no_more_call}
use Rattle.big_source.proofs.generated.push_calls.Goals.{then-k-j+in_ok-push_call, else-k-j}
use Rattle.big_source.proofs.generated.push_calls.Goals as goal

pub loop-k-preserved : goal.loop-k-preserved
loop-k-preserved c = elim c.if-k-j.branch [
  | then-k-j+in_ok-push_call w ↦
      one_more_call _ _ _ c.loop-k.k c.args.j c.loop-k.invariant w.if-k-j.true (ap string_bytes w.text-is ∙ w.in_ok-push_call.ensures)
  | else-k-j w ↦
      ap string_bytes w.text-is ∙ no_more_call _ _ c.loop-k.k c.args.j c.loop-k.invariant w.if-k-j.false
]
