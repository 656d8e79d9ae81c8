use Rattle.std.proofs.Common.{◌≡◌, drop}
use Rattle.tm_laid.specs.Layouts.{laid_tree}
use Rattle.text_choices.specs.reading.Typed.{any_negative}
use Rattle.text_choices.proofs.enumerations.any_negative.Given as goal

abbrev pub invariant-loop-cell : goal.invariant-loop-cell
invariant-loop-cell l =
    any_negative (laid_tree l.laid) l.of l.given ≡ any_negative (laid_tree l.laid) l.of (drop l.cell-index l.given)
