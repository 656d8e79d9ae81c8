use Rattle.std.proofs.Common.{◌≡◌, true}
use Rattle.text_choices.specs.declared.kinds.Choice.{Choice}
use Rattle.open_choices.specs.reading.Found.{IsNew}
use Rattle.open_choices.proofs.ChoiceLists.{added_as}
use Rattle.open_choices.proofs.adding.add_if.Goals as goal

pub returns-in_ok-push_choice : goal.returns-in_ok-push_choice
returns-in_ok-push_choice c =
    let this = λ (x : Choice). x ≡ record { place = c.args.place; kind = c.args.kind } in
    added_as this (IsNew c.args.kind c.args.place (c.args.is ≡ true)) c.args.choices.now.items
    c.push_choice.new.choices.items (λ x. (λ h. (c.if-is.true, h), λ p. p.1)) c.in_ok-push_choice.ensures
