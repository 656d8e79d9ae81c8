use Rattle.std.proofs.Common.{◌≡◌, ap, ◌∙◌}
use Rattle.std.proofs.lemmas.Result.{on_ok_weaker, IfOk-weaker}
use Rattle.tm_laid.specs.Layouts.{laid_tree}
use Rattle.body_builder.specs.concrete_steps.NextAction.{function_at}
use Rattle.body_builder.specs.concrete_steps.Places.{result_type}
use Rattle.path_origins.specs.Opens.{is_among}
use Rattle.path_origins.specs.Types.{given_by, is_pointer}
use Rattle.path_origins.specs.Noted.{behind, scoped}
use Rattle.path_origins.specs.Shown.{shown, sizes_in}
use Rattle.path_origins.specs.reading.Ends.{stores_and_body}
use Rattle.path_origins.specs.reading.Walks.{end_by}
use Rattle.path_origins.proofs.Laws.{then_behind}
use Rattle.path_origins.proofs.expressions.call_end.Goals as goal

pub returns : goal.returns
returns c =
    let laid = laid_tree c.args.here.now.laid.now in
    let function = function_at laid c.args.path in
    let gives = given_by function.result (result_type laid function) in
    let end = end_by c.args.wanted (is_pointer gives) c.args.place in
    let called = shown c.note_call.new.to in
    record {
      noted = on_ok_weaker c.end_with.result (λ h. then_behind (shown c.args.to.now) called (shown c.end_with.new.to)
          (scoped (stores_and_body laid (is_among c.args.here.now.opens.now) (sizes_in c.args.here.now.sizes.now)
          c.args.here.now.path c.args.path c.args.used c.args.count c.args.place)) end c.in_ok-note_call.ensures
          (h ∙ ap (λ k. behind called (end_by c.args.wanted k c.args.place))
          (c.is_pointer.ensures ∙ ap is_pointer c.given_by_call-gives.ensures))) c.end_with.ensures.noted;
      given = IfOk-weaker c.end_with.result (λ g. g ≡ c.given_by_call-gives.result) (λ g. g ≡ gives)
          (λ g same. same ∙ c.given_by_call-gives.ensures) c.end_with.ensures.given;
    }
