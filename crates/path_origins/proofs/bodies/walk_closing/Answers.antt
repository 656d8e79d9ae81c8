use Rattle.std.proofs.Common.{◌≡◌, suc, ap, sym, subst, ◌∙◌, arith}
use Rattle.std.specs.Prelude.{OnOk}
use Rattle.std.proofs.lemmas.Result.{on_ok_weaker}
use Rattle.path_origins.specs.Noted.{behind, skips}
use Rattle.path_origins.specs.Bodies.{closing}
use Rattle.path_origins.specs.Shown.{shown}
use Rattle.path_origins.specs.reading.Walks.{IsBehind}
use Rattle.path_origins.proofs.Arms.{function_ends}
use Rattle.path_origins.proofs.bodies.walk_closing.Goals as goal

pub returns-then-is_task : goal.returns-then-is_task
returns-then-is_task c =
    subst (λ z. OnOk c.walk_task_end.result (IsBehind c.args.to.now c.walk_task_end.new.to
    (closing z c.args.place c.args.returns))) (sym c.if-is_task.true) c.walk_task_end.ensures

pub returns : goal.returns
returns c =
    let n = c.in_ok-more.field-0 in
    let count : n ≡ suc c.args.returns = omega (arith, c.in_ok-more.ensures) in
    on_ok_weaker c.note_skips.result (λ (k : IsBehind c.args.to.now c.note_skips.new.to (skips c.args.place n)).
    k ∙ ap (behind (shown c.args.to.now))
    (function_ends c.args.place c.args.returns n c.args.is_task count c.if-is_task.false)) c.note_skips.ensures
