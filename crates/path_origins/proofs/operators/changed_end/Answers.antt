use Rattle.std.proofs.Common.{false, ap, ◌∙◌}
use Rattle.std.proofs.lemmas.Result.{on_ok_weaker}
use Rattle.path_origins.specs.Noted.{behind}
use Rattle.path_origins.specs.reading.Walks.{end_by}
use Rattle.path_origins.proofs.operators.changed_end.Goals as goal

pub returns : goal.returns
returns c = record {
  noted = on_ok_weaker c.end_with.result
      (λ h. h ∙ ap (λ x. behind x (end_by c.args.wanted false c.args.change.place)) c.in_ok-change_ends.ensures)
      c.end_with.ensures.noted;
  given = c.end_with.ensures.given;
}
