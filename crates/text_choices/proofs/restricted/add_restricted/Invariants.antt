use Rattle.text_choices.specs.Choices.{Adds}
use Rattle.text_choices.proofs.TokenLemmas.{RestrictsBelow}
use Rattle.text_choices.proofs.restricted.add_restricted.Given as goal

abbrev pub invariant-loop-token : goal.invariant-loop-token
invariant-loop-token l = Adds l.initial.choices.items l.choices.items (RestrictsBelow l.tokens l.token-index)
