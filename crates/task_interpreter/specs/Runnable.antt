-- What a layout has, on which the interpreter stands.
use Rattle.std.specs.Prelude.{◌≤◌, length}
use Rattle.tm_typed.specs.TypedFiles.{typed_file_tree}
use Rattle.tm_laid.specs.declared.layouts.Laid.{Laid}
use Rattle.tm_laid.specs.Layable.{IsLayable}

-- The file can be laid out, and there are no more cells than the limit. So it is with each layout of a typed file.
pub record IsRunnable (laid : Laid) : Type 0 where
  pub layable : IsLayable (typed_file_tree laid.file) laid.file.order.items
  pub few : length laid.cells.items ≤ 65536
