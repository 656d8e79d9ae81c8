use Rattle.std.proofs.Common.{◌≡◌, ◌-◌}
use Rattle.tm_laid.specs.Layouts.{laid_tree}
use Rattle.part_extents.specs.Parts.{innermost_within}
use Rattle.part_extents.proofs.cells.innermost.Given as goal

abbrev pub invariant-loop-step : goal.invariant-loop-step
invariant-loop-step l =
    innermost_within (laid_tree l.laid) (1024 - l._step) l.at ≡ innermost_within (laid_tree l.laid) 1024 l.fn.inside
