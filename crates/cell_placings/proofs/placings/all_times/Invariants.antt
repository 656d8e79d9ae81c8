use Rattle.std.proofs.Common.{◌≡◌, take, map, Some}
use Rattle.cell_placings.proofs.placings.all_times.Given as goal

abbrev pub invariant-loop-time : goal.invariant-loop-time
invariant-loop-time l = take l.time-index l.times ≡ map Some l.all.items
