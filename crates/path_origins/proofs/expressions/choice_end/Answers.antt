use Rattle.std.proofs.Common.{◌≡◌, ap, ◌∙◌}
use Rattle.std.proofs.lemmas.Result.{on_ok_weaker, IfOk-weaker}
use Rattle.path_origins.specs.declared.origins.Form.TheVariants as Forms
use Rattle.path_origins.specs.Types.{has_value, is_pointer, chosen}
use Rattle.path_origins.specs.Noted.{behind, one_if, skips}
use Rattle.path_origins.specs.Shown.{shown}
use Rattle.path_origins.specs.reading.Walks.{end_by}
use Rattle.path_origins.proofs.Laws.{pair_behind}
use Rattle.path_origins.proofs.Values.{as_one}
use Rattle.path_origins.proofs.expressions.choice_end.Goals as goal

pub returns : goal.returns
returns c =
    let p = c.args.place in
    let has = has_value c.args.first in
    let copied = shown c.note_if.new.to in
    let met = shown c.note_skips.new.to in
    let copies = as_one p Forms.Copy c.has_value.result has (shown c.args.to.now) copied c.has_value.ensures
    c.in_ok-note_if.ensures in
    record {
      noted = on_ok_weaker c.end_with.result (λ h. pair_behind (shown c.args.to.now) copied met
          (shown c.end_with.new.to) (one_if has p Forms.Copy) (skips p 2)
          (end_by c.args.wanted (is_pointer c.args.first) p) copies c.in_ok-note_skips.ensures
          (h ∙ ap (λ k. behind met (end_by c.args.wanted k p)) c.is_pointer.ensures)) c.end_with.ensures.noted;
      given = IfOk-weaker c.end_with.result (λ g. g ≡ c.or.result) (λ g. g ≡ chosen c.args.first c.args.second)
          (λ g same. same ∙ c.or.ensures) c.end_with.ensures.given;
    }
