use Rattle.std.proofs.Common.{take}
use Rattle.tm_laid.specs.Layouts.{laid_tree}
use Rattle.text_choices.specs.Choices.{Adds}
use Rattle.text_choices.proofs.Each.{OneOf}
use Rattle.text_choices.proofs.TypedLemmas.{ObjectOf}
use Rattle.text_choices.proofs.enumerations.add_enumerations.Given as goal

abbrev pub invariant-loop-object : goal.invariant-loop-object
invariant-loop-object l =
    Adds l.initial.choices.items l.choices.items (OneOf (ObjectOf (laid_tree l.laid)) (take l.object-index l.laid.file.statics.items))
