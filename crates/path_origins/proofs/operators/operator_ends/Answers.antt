use Rattle.std.proofs.Common.{false, sym, subst}
use Rattle.std.specs.Prelude.{OnOk}
use Rattle.std.proofs.lemmas.Result.{on_ok_weaker}
use Rattle.path_origins.specs.declared.origins.Form.TheVariants as Forms
use Rattle.path_origins.specs.Noted.{one}
use Rattle.path_origins.specs.Shown.{shown}
use Rattle.path_origins.specs.reading.Ends.{operator_end}
use Rattle.path_origins.specs.reading.Walks.{IsBehind, end_by}
use Rattle.path_origins.proofs.Laws.{then_behind}
use Rattle.path_origins.proofs.operators.operator_ends.Goals as goal

pub returns-then-is_comparison : goal.returns-then-is_comparison
returns-then-is_comparison c =
    subst (λ z. OnOk c.comparison_ends.result (IsBehind c.args.to.now c.comparison_ends.new.to
    (operator_end z c.args.is_either c.args.wanted c.args.place))) (sym c.if-is_comparison.true)
    c.comparison_ends.ensures

pub returns : goal.returns
returns c =
    subst (λ z. OnOk c.note_end.result (IsBehind c.args.to.now c.note_end.new.to
    (operator_end z c.args.is_either c.args.wanted c.args.place))) (sym c.if-is_comparison.false)
    (on_ok_weaker c.note_end.result (then_behind (shown c.args.to.now) (shown c.note.new.to) (shown c.note_end.new.to)
    (one c.args.place (Forms.Binary c.args.is_either)) (end_by c.args.wanted false c.args.place)
    c.in_ok-note.ensures) c.note_end.ensures)
