use Rattle.std.proofs.Common.{◌+◌, ◌∙◌, sym, ap, take, drop, get_or, ◌&&◌, List, ℕ}
use Rattle.std.proofs.lemmas.List.{drop_more, take_more}
use Rattle.replay_lines.specs.Cuts.{begins_mark}
use Rattle.replay_lines.proofs.Cutting.{cut_more}
use Rattle.replay_lines.proofs.cuts.mark_in.Goals as goal

pub loop-at-preserved : goal.loop-at-preserved
loop-at-preserved c =
    let bytes : List ℕ = c.args.bytes.now in
    let at = c.loop-at.at in
    let lt = c.loop-at-test.true in
    cut_more (take at bytes) (take (at + 1) bytes) (drop at bytes) (drop (at + 1) bytes) (get_or bytes at 0) c.loop-at.fresh
    (drop_more bytes at 0 lt) (take_more bytes at 0 lt)
    (ap (λ (z : List ℕ). c.loop-at.fresh && begins_mark z) (sym c.behind.ensures) ∙ sym c.is_mark.ensures ∙ c.if-is_mark.false)
    ∙ c.loop-at.invariant
