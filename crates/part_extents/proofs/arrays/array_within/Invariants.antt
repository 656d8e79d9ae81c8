use Rattle.std.proofs.Common.{◌≡◌, ◌-◌}
use Rattle.tm_laid.specs.Layouts.{laid_tree}
use Rattle.part_extents.specs.Parts.{array_within}
use Rattle.part_extents.specs.reading.Sought.{part_of, is_sought}
use Rattle.part_extents.proofs.arrays.array_within.Given as goal

abbrev pub invariant-loop-step : goal.invariant-loop-step
invariant-loop-step l =
    array_within (laid_tree l.laid) (1024 - l._step) (is_sought (laid_tree l.laid) l.sought) l.offset (part_of l.part)
    ≡ array_within (laid_tree l.laid) 1024 (is_sought (laid_tree l.laid) l.sought) l.offset (part_of l.fn.first)
