use Rattle.std.proofs.Common.{true, ap, ◌∙◌}
use Rattle.std.proofs.lemmas.Result.{on_ok_weaker}
use Rattle.path_origins.specs.Noted.{behind}
use Rattle.path_origins.specs.reading.Walks.{end_by, stored_from}
use Rattle.path_origins.proofs.operators.moved_end.Goals as goal

pub returns : goal.returns
returns c = record {
  noted = on_ok_weaker c.store_end.result (λ h. h ∙ ap (λ x. behind (stored_from c.args.pending c.args.place x)
      (end_by c.args.wanted true c.args.place)) c.in_ok-note.ensures) c.store_end.ensures.noted;
  given = c.store_end.ensures.given;
}
