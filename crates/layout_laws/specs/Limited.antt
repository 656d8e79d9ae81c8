-- The limits of layouts.
use Rattle.std.specs.Prelude.{◌≡◌, ◌≤◌, length}
use Rattle.cell_layout.specs.tm_typed.Files.{TypedFileTree}
use Rattle.cell_layout.specs.tm_laid.Layouts.{LaidTree, layout_of}

-- the layout of this file, with as many tasks, mutexes, call paths, cells and abstract cells as the limits of the large
-- scale allow
pub record IsLimited (file : TypedFileTree) (laid : LaidTree) : Type 0 where
  pub whole : laid ≡ layout_of file
  pub tasks : length laid.file.tasks ≤ 32
  pub mutexes : length laid.file.mutexes ≤ 16
  pub paths : length laid.paths ≤ 65536
  pub cells : length laid.cells ≤ 65536
  pub abstract_cells : length laid.abstract_cells ≤ 65536
