use Rattle.std.proofs.Common.{◌∙◌, ap}
use Rattle.std.proofs.lemmas.Result.{on_ok_weaker}
use Rattle.tm_typed.specs.TypeRows.{with_type}
use Rattle.tm_typed.specs.States.{State, in_scope}
use Rattle.c_typing_state.specs.contracts.states.State.{the_view}
use Rattle.c_typing_state.proofs.states.State.add_type.Goals as goal

pub returns-clause-state : goal.returns-clause-state
returns-clause-state c =
    on_ok_weaker c.add_type.result
    (λ e. ap (in_scope (the_view c.self.inside)) e ∙ ap (λ (s : State). in_scope s (with_type s.scope c.args.ctype)) c.self.view_is)
    c.add_type.ensures.ok
