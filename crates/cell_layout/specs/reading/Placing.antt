-- Objects with their cells.
use Rattle.std.specs.Prelude.{◌≡◌, ◌+◌, ◌≤◌, List, All}
use Rattle.tm_typed.specs.Files.{TypedFileTree}
use Rattle.tm_laid.specs.declared.objects.DeclaredObject.{DeclaredObject}
use Rattle.tm_laid.specs.declared.objects.LaidObject.{LaidObject}
use Rattle.tm_laid.specs.TypeCells.{cells_of_type, abstract_cells_of_type}
use Rattle.tm_laid.specs.Objects.{objects_from, cells_from, abstracts_from}
use Rattle.cell_layout.specs.declared.cells.Cells.{Cells}

-- an object ends within the limits
pub record IsSmallObject (file : TypedFileTree) (o : LaidObject) : Type 0 where
  pub cells : cells_of_type file o.of.number ≤ 65536
  pub abstract_cells : o.first_abstract + abstract_cells_of_type file o.of.number ≤ 65536

-- these are the objects, and they are small
pub record HasObjects (file : TypedFileTree) (ds : List DeclaredObject) (os : List LaidObject) : Type 0 where
  pub objects : os ≡ objects_from file 0 0 ds
  pub small : All (IsSmallObject file) os

pub record AreCells (file : TypedFileTree) (os : List LaidObject) (c : Cells) : Type 0 where
  pub cells : c.cells.items ≡ cells_from file 0 os
  pub abstracts : c.abstract_cells.items ≡ abstracts_from file 0 os
