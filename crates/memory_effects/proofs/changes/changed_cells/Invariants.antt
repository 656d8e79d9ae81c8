use Rattle.std.proofs.Common.{◌-◌, ◌^◌}
use Rattle.memory_effects.specs.reading.Changes.{change_of}
use Rattle.memory_effects.proofs.Changing.{IsChangedBelow}
use Rattle.memory_effects.proofs.changes.changed_cells.Given as goal

-- the cells below a number are changed
abbrev pub invariant-loop-after : goal.invariant-loop-after
invariant-loop-after l = IsChangedBelow (change_of l.view l.change) l.before l.from l.after

abbrev pub decreases-loop-after : goal.decreases-loop-after
decreases-loop-after l = 2 ^ 32 - l.from
