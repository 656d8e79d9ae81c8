use Rattle.std.proofs.Common.{◌≡◌, suc, ap, ◌∙◌, arith}
use Rattle.std.proofs.lemmas.Result.{on_ok_weaker}
use Rattle.path_origins.specs.Noted.{behind, skips}
use Rattle.path_origins.specs.Shown.{shown}
use Rattle.path_origins.specs.Statements.{nowhere}
use Rattle.path_origins.specs.reading.Walks.{IsBehind}
use Rattle.path_origins.proofs.Leaving.{turns_some}
use Rattle.path_origins.proofs.statements.continue_at.Goals as goal

pub returns : goal.returns
returns c =
    let count : c.in_ok-more.field-0 ≡ suc c.args.continues = omega (arith, c.in_ok-more.ensures) in
    let same = ap (λ n. skips nowhere n) count ∙ turns_some c.args.continues c.if-continues-eq0.false in
    on_ok_weaker c.note_skips.result (λ (k : IsBehind c.args.to.now c.note_skips.new.to
    (skips nowhere c.in_ok-more.field-0)). k ∙ ap (behind (shown c.args.to.now)) same) c.note_skips.ensures
