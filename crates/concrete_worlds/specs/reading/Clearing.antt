-- The clearing of an object, cell by cell.
use Rattle.std.specs.Prelude.{ℕ, ◌+◌, ◌&&◌, nat_le, nat_lt, if◌then◌else◌, List, map}
use Rattle.tm_laid.specs.declared.cells.LaidCell.{LaidCell}
use Rattle.tm_laid.specs.Layouts.{LaidTree, cell_at}
use Rattle.concrete_steps.specs.declared.worlds.Content.{Content}
use Rattle.concrete_steps.specs.Worlds.{each_from, is_part, cleared_content}

-- what a cell holds once so many cells from this one on are cleared
abbrev pub part_cleared : LaidTree → ℕ → ℕ → ℕ → Content → Content
part_cleared laid first count c x =
    if nat_le first c && nat_lt c (first + count) then cleared_content (cell_at laid c).scalar else x

unfoldable pub cleared_cells : LaidTree → ℕ → ℕ → List Content → List Content
cleared_cells laid first count contents = each_from (part_cleared laid first count) 0 contents

-- the cells of an object are cleared
abbrev pub object_cleared : LaidTree → ℕ → List Content → List Content
object_cleared laid o contents =
    each_from (λ c x. if is_part laid o c then cleared_content (cell_at laid c).scalar else x) 0 contents

-- what these cells hold that are cleared
abbrev pub cleared_contents : List LaidCell → List Content
cleared_contents cells = map (λ c. cleared_content c.scalar) cells
