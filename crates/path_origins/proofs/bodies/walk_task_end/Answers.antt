use Rattle.std.proofs.Common.{◌≡◌, suc, ap, ◌∙◌, arith}
use Rattle.std.proofs.lemmas.Result.{on_ok_weaker}
use Rattle.path_origins.specs.Noted.{behind, skips}
use Rattle.path_origins.specs.Shown.{shown}
use Rattle.path_origins.specs.reading.Walks.{IsBehind}
use Rattle.path_origins.proofs.Arms.{task_ends}
use Rattle.path_origins.proofs.bodies.walk_task_end.Goals as goal

pub returns : goal.returns
returns c =
    let n = c.in_ok-more.field-0 in
    let count : n ≡ suc c.args.returns = omega (arith, c.in_ok-more.ensures) in
    on_ok_weaker c.note_skips.result (λ (k : IsBehind c.args.to.now c.note_skips.new.to (skips c.args.place n)).
    k ∙ ap (behind (shown c.args.to.now)) (task_ends c.args.place c.args.returns n count c.if-returns-eq0.false))
    c.note_skips.ensures
