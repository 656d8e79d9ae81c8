use Rattle.std.proofs.Common.{true, ap, ◌∙◌}
use Rattle.std.proofs.lemmas.Result.{on_ok_weaker}
use Rattle.path_origins.specs.declared.origins.Form.TheVariants as Forms
use Rattle.path_origins.specs.Noted.{behind, one}
use Rattle.path_origins.specs.reading.Walks.{end_by, stored_from}
use Rattle.path_origins.proofs.operators.step_moved_end.Goals as goal

pub returns : goal.returns
returns c =
    let p = c.args.place in
    let before = c.in_ok-note-2.ensures ∙ ap (λ y. behind y (one p Forms.Constant)) c.in_ok-note.ensures in
    record {
      noted = on_ok_weaker c.moved_end.result (λ h. h ∙ ap (λ y. behind (stored_from c.args.pending p
          (behind y (one p (Forms.Move c.args.target)))) (end_by c.args.wanted true p)) before)
          c.moved_end.ensures.noted;
      given = c.moved_end.ensures.given;
    }
