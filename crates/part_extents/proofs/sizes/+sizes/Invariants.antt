use Rattle.std.proofs.Common.{◌≡◌, ◌+◌, ◌*◌, drop}
use Rattle.tm_laid.specs.Layouts.{laid_tree}
use Rattle.tm_laid.specs.TypeCells.{summed, cell_count}
use Rattle.part_extents.proofs.sizes.+sizes.Given as goal

abbrev pub decreases-cell_count : goal.decreases-cell_count
decreases-cell_count l = 2 * l.depth

abbrev pub decreases-summed : goal.decreases-summed
decreases-summed l = 2 * l.depth + 1

-- what is counted, and what is left, make the whole
abbrev pub invariant-summed-loop-member : goal.invariant-summed-loop-member
invariant-summed-loop-member l =
    l.total + summed (cell_count (laid_tree l.laid).file l.depth) (drop l.member-index l.members)
    ≡ summed (cell_count (laid_tree l.laid).file l.depth) l.members
