-- Layouts of files.
use Rattle.std.specs.Prelude.{◌≤◌, length}
use Rattle.tm_laid.specs.tm_typed.TypedFiles.{typed_file_tree}
use Rattle.tm_laid.specs.declared.layouts.Laid.{Laid}
use Rattle.tm_laid.specs.Layable.{IsLayable}

-- the file of a layout can be laid out, and there are no more cells than their limit
pub record IsServing (laid : Laid) : Type 0 where
  pub layable : IsLayable (typed_file_tree laid.file) laid.file.order.items
  pub few : length laid.cells.items ≤ 65536
