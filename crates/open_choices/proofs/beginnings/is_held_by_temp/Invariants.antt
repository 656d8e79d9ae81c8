use Rattle.open_choices.proofs.Leftover.{IsHolding}
use Rattle.open_choices.proofs.Searching.{NoneSo}
use Rattle.open_choices.proofs.beginnings.is_held_by_temp.Given as goal

abbrev pub invariant-loop-temp : goal.invariant-loop-temp
invariant-loop-temp l = NoneSo (IsHolding l.own l.object) l.temp-items l.temp-index
