use Rattle.std.proofs.Common.{◌≡◌, ap, ap₂, ◌∙◌}
use Rattle.std.proofs.lemmas.Result.{on_ok_weaker, IfOk-weaker}
use Rattle.path_origins.specs.Types.{cast_if}
use Rattle.path_origins.specs.Noted.{behind, enumerating_if}
use Rattle.path_origins.specs.Shown.{shown}
use Rattle.path_origins.specs.reading.Walks.{end_by}
use Rattle.path_origins.proofs.expressions.same_end.Goals as goal

pub returns : goal.returns
returns c =
    let p = c.args.place in
    let given = c.in_ok-note_given.ensures
    ∙ ap (λ k. enumerating_if k p (shown c.args.to.now)) c.casts_number.ensures in
    record {
      noted = on_ok_weaker c.end_with.result
          (λ h. h ∙ ap₂ (λ x k. behind x (end_by c.args.wanted k p)) given c.is_pointer.ensures)
          c.end_with.ensures.noted;
      given = IfOk-weaker c.end_with.result (λ g. g ≡ c.cast_if.result)
          (λ g. g ≡ cast_if c.args.is_cast c.args.value) (λ g same. same ∙ c.cast_if.ensures)
          c.end_with.ensures.given;
    }
