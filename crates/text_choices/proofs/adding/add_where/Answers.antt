use Rattle.std.proofs.Common.{◌≡◌}
use Rattle.std.specs.Prelude.{IsTrue}
use Rattle.std.proofs.lemmas.Result.{on_ok_weaker}
use Rattle.text_choices.proofs.Additions.{Adds-same}
use Rattle.text_choices.proofs.adding.add_where.Goals as goal

pub returns-then-holds : goal.returns-then-holds
returns-then-holds c =
    on_ok_weaker c.add_choice.result
    (Adds-same c.args.choices.now.items c.add_choice.new.choices.items (λ x. x ≡ c.args.choice) (λ x. IsTrue c.args.holds × (x ≡ c.args.choice)) (λ x e. (c.if-holds.true, e)) (λ x h. h.1))
    c.add_choice.ensures
