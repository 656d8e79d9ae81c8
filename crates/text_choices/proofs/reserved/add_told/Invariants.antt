use Rattle.text_choices.specs.Choices.{Adds}
use Rattle.text_choices.proofs.DeclaredLemmas.{ToldBelow}
use Rattle.text_choices.proofs.reserved.add_told.Given as goal

abbrev pub invariant-loop-it : goal.invariant-loop-it
invariant-loop-it l = Adds l.initial.choices.items l.choices.items (ToldBelow l.bytes l.declared l.it-index)
