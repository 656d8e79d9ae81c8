use Rattle.std.proofs.Common.{take}
use Rattle.text_choices.specs.Choices.{Adds}
use Rattle.text_choices.proofs.Each.{OneOf}
use Rattle.text_choices.proofs.TypedLemmas.{SizeAt}
use Rattle.text_choices.proofs.sizes.add_sizes.Given as goal

abbrev pub invariant-loop-place : goal.invariant-loop-place
invariant-loop-place l = Adds l.initial.choices.items l.choices.items (OneOf SizeAt (take l.place-index l.sizes))
