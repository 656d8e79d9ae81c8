-- What the code puts beside a file.
use Rattle.std.specs.Prelude.{◌≡◌, map, Result, Ok, Err}
use Rattle.tm_terms.specs.declared.refusals.Fail.{Fail}
use Rattle.tm_typed.specs.Files.{TypedFileTree}
use Rattle.tm_laid.specs.declared.scales.Scale.{Scale}
use Rattle.tm_laid.specs.Paths.{bodies_of, first_paths_of, paths_of, callees_of, first_objects_of}
use Rattle.tm_laid.specs.Objects.{static_numbers, objects_from, cells_from, abstracts_from, initial_values}
use Rattle.tm_laid.specs.Layouts.{declared_objects, static_count}
use Rattle.cell_layout.specs.declared.layouts.Tables.{Tables}
use Rattle.cell_layout.specs.reading.Limits.{IsAllWithin, IsFailOf}

pub record IsLayoutOf (file : TypedFileTree) (t : Tables) : Type 0 where
  pub bodies : t.bodies.items ≡ bodies_of file
  pub first_paths : t.first_paths.items ≡ first_paths_of file
  pub paths : t.numbered.paths.items ≡ paths_of file
  pub callees : map (λ v. v.items) t.numbered.callees.items ≡ callees_of file
  pub first_objects : t.first_objects.items ≡ first_objects_of file (static_count file) (paths_of file)
  pub statics : t.statics.items ≡ static_numbers 0 file.statics
  pub objects : t.objects.items ≡ objects_from file 0 0 (declared_objects file (paths_of file))
  pub cells : t.cells.cells.items ≡ cells_from file 0 (objects_from file 0 0 (declared_objects file (paths_of file)))
  pub abstracts : t.cells.abstract_cells.items ≡ abstracts_from file 0
      (objects_from file 0 0 (declared_objects file (paths_of file)))
  pub initial : t.initial.items ≡ initial_values file (static_numbers 0 file.statics) file.statics

-- the tables of a file that exceeds no limit on a scale, or why there are none
abbrev pub AreTables : Scale → TypedFileTree → Result Tables Fail → Type 0
AreTables scale file (Ok t) = IsAllWithin scale file × IsLayoutOf file t
AreTables scale file (Err fail) = IsFailOf scale file fail
