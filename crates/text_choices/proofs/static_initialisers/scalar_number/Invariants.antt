use Rattle.std.proofs.Common.{◌≡◌, ◌-◌}
use Rattle.tm_laid.specs.Layouts.{laid_tree}
use Rattle.text_choices.specs.Initialisers.{scalar_within}
use Rattle.text_choices.proofs.static_initialisers.scalar_number.Given as goal

abbrev pub invariant-loop-step : goal.invariant-loop-step
invariant-loop-step l =
    scalar_within (laid_tree l.laid) (1024 - l._step) l.at ≡ scalar_within (laid_tree l.laid) 1024 l.number
