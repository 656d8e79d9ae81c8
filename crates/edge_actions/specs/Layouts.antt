-- What edges read of a layout: the values of types, and the spots that an access may reach.
use Rattle.std.specs.Prelude.{ℕ, zero, suc, eqb, ℤ, pos, negsuc, ◌-ℤ◌, Bool, true, false, cond, List, [], ◌∷◌, ◌++◌}
use Rattle.std.specs.Prelude.{length}
use Rattle.std.specs.Prelude.{Option, Some, None}
use Rattle.std.specs.FinMap as map
use Rattle.strided_dom.specs.Progression.{Progression, empty, single, row}
use Rattle.tm_terms.specs.tm_cint.declared.int_types.IntType.{IntType}
use Rattle.tm_terms.specs.tm_cint.IntTypes.{lo_of, hi_of}
use Rattle.tm_typed.specs.declared.types.Scalar.{Scalar}
use Rattle.tm_typed.specs.declared.types.Scalar.TheVariants.{Int, Pointer}
use Rattle.tm_laid.specs.Layouts.{LaidTree, path_at, object_at, cell_at, cell_of, abstract_of, abstract_at}
use Rattle.tm_laid.specs.Layouts.{is_shared}
use Rattle.tm_laid.specs.Layouts.{is_same_scalar}
use Rattle.pointer_dom.specs.PointerSets.{Pointers}
use Rattle.pointer_dom.specs.Values.{Values}
use Rattle.transfer_rows.specs.StateForms.{only_numbers, only_pointers}
use Rattle.transfer_rows.specs.Actions.{Spot}

-- ## Values of types

-- the numbers from low on to that which lies so far above it
abbrev pub numbers_up : ℤ → ℤ → Progression
numbers_up low (pos zero) = single low
numbers_up low (pos (suc more)) = row low 0 more
numbers_up low (negsuc n) = empty

-- the numbers from low to high
abbrev pub numbers_between : ℤ → ℤ → Progression
numbers_between low high = numbers_up low (high -ℤ low)

abbrev pub numbers_of_type : IntType → Progression
numbers_of_type t = numbers_between (lo_of t) (hi_of t)

-- the invalid pointer alone
abbrev pub only_invalid : Pointers
only_invalid = record { null = false; invalid = true; objects = map.empty }

-- what a cell of the type may hold that was not stored yet: any number, or the invalid pointer
abbrev pub open_value : Scalar → Values
open_value (Int t) = only_numbers (numbers_of_type t)
open_value (Pointer class) = only_pointers only_invalid

-- ## Spots

-- the object is of the task: it has static storage, or is on a call path of the task's body
abbrev pub is_owned_by : LaidTree → ℕ → Option ℕ → Bool
is_owned_by laid task None = true
is_owned_by laid task (Some path) = eqb (path_at laid path).body task

abbrev pub is_reachable : LaidTree → ℕ → ℕ → Bool
is_reachable laid task object = is_owned_by laid task (object_at laid object).owner

-- the cell at an offset of an object, where it has the type
abbrev pub spot_at : LaidTree → Scalar → ℕ → ℕ → List Spot
spot_at laid scalar object offset =
    cond (is_same_scalar (cell_at laid (cell_of laid object offset)).scalar scalar)
    (record { object = object; offset = offset; cell = abstract_of laid object offset } ∷ []) []

-- those of the first cells of an object that have the type
abbrev pub spots_in : LaidTree → Scalar → ℕ → ℕ → List Spot
spots_in laid scalar object zero = []
spots_in laid scalar object (suc offset) = spots_in laid scalar object offset ++ spot_at laid scalar object offset

-- those of the first objects that are static or the task's own
abbrev pub spots_before : LaidTree → ℕ → Scalar → ℕ → List Spot
spots_before laid task scalar zero = []
spots_before laid task scalar (suc object) = spots_before laid task scalar object ++
    cond (is_reachable laid task object) (spots_in laid scalar object (object_at laid object).cells) []

-- the spots of an access by the task to a cell of the type
unfoldable pub spots_of : LaidTree → ℕ → Scalar → List Spot
spots_of laid task scalar = spots_before laid task scalar (length laid.objects)

-- ## Cells

-- the abstract cell is of an object of static storage
abbrev pub is_shared_cell : LaidTree → ℕ → Bool
is_shared_cell laid cell = is_shared laid (abstract_at laid cell).object

abbrev pub is_smashed_cell : LaidTree → ℕ → Bool
is_smashed_cell laid cell = (abstract_at laid cell).smashed
