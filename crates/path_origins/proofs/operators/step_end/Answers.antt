use Rattle.std.proofs.Common.{false, is_some, ap, ◌∙◌}
use Rattle.std.proofs.lemmas.Result.{on_ok_weaker}
use Rattle.body_builder.specs.lowering.Table.{conversion}
use Rattle.path_origins.specs.declared.origins.Form.TheVariants as Forms
use Rattle.path_origins.specs.Noted.{behind, one}
use Rattle.path_origins.specs.reading.Ends.{change_end}
use Rattle.path_origins.specs.reading.Walks.{end_by, stored_from}
use Rattle.path_origins.proofs.operators.step_end.Goals as goal

pub returns : goal.returns
returns c =
    let x = c.args.change in
    let before = c.in_ok-note-2.ensures ∙ ap (λ y. behind y (one x.place Forms.Constant)) c.in_ok-note.ensures in
    record {
      noted = on_ok_weaker c.changed_end.result (λ h. h ∙ ap (λ y. behind (stored_from c.args.pending x.place
          (behind y (change_end x.is_either (is_some (conversion x.cell x.of)) x.load_place c.args.is_converted x.place
          (is_some (conversion x.of x.cell)) x.place))) (end_by c.args.wanted false x.place)) before)
          c.changed_end.ensures.noted;
      given = c.changed_end.ensures.given;
    }
