-- The layout of a typed file, what later layers read of it, and the limits of what is laid out.
use Rattle.std.specs.Prelude.{ℕ, ◌+◌, Bool, true, false, ◌&&◌, nat_le, nat_lt, ◌==◌, List, [], ◌∷◌, ◌++◌, length, map}
use Rattle.std.specs.Prelude.{drop, take, get_or, find, Option, Some, None, is_none, Result, Ok, Err}
use Rattle.tm_typed.specs.tm_terms.declared.refusals.Fail.{Fail}
use Rattle.tm_typed.specs.tm_terms.declared.refusals.Fail.TheVariants as Fails
use Rattle.tm_typed.specs.tm_terms.declared.refusals.Kind.TheVariants as Kinds
use Rattle.tm_typed.specs.tm_terms.declared.refusals.Limit.{Limit}
use Rattle.tm_typed.specs.tm_terms.declared.refusals.Limit.TheVariants as Limits
use Rattle.tm_typed.specs.tm_terms.declared.refusals.Refusal.{Refusal}
use Rattle.tm_typed.specs.declared.types.Scalar.{Scalar}
use Rattle.tm_typed.specs.declared.types.Scalar.TheVariants as Scalars
use Rattle.tm_typed.specs.declared.scopes.ObjectNumber.{ObjectNumber}
use Rattle.tm_typed.specs.declared.scopes.ObjectNumber.TheVariants as Objects
use Rattle.tm_typed.specs.Types.{is_same_int}
use Rattle.tm_typed.specs.TypedFiles.{typed_file_tree}
use Rattle.tm_typed.specs.Files.{TypedFileTree}
use Rattle.tm_laid.specs.declared.paths.CallPath.{CallPath}
use Rattle.tm_laid.specs.declared.objects.DeclaredObject.{DeclaredObject}
use Rattle.tm_laid.specs.declared.objects.LaidObject.{LaidObject}
use Rattle.tm_laid.specs.declared.objects.Initial.{Initial}
use Rattle.tm_laid.specs.declared.cells.LaidCell.{LaidCell}
use Rattle.tm_laid.specs.declared.cells.AbstractCell.{AbstractCell}
use Rattle.tm_laid.specs.declared.layouts.Laid.{Laid}
use Rattle.tm_laid.specs.declared.scales.Scale.{Scale}
use Rattle.tm_laid.specs.CallTrees.{weights, one}
use Rattle.tm_laid.specs.Paths.{bodies_of, body_trees, locals_of, paths_of, first_paths_of, callees_of}
use Rattle.tm_laid.specs.Paths.{first_objects_of}
use Rattle.tm_laid.specs.TypeCells.{type_cells, type_depth, cells_of_type, abstract_cells_of_type}
use Rattle.tm_laid.specs.Objects.{local_objects, static_objects, path_objects, static_numbers, objects_from, cells_from}
use Rattle.tm_laid.specs.Objects.{abstracts_from, initial_values}
use Rattle.tm_laid.specs.Scales.{number_on}

-- ## The layout

-- A typed file with its call paths, objects and cells.
pub record LaidTree : Type 0 where
  pub file : TypedFileTree
  pub bodies : List ℕ
  pub first_paths : List ℕ
  pub paths : List CallPath
  pub callees : List (List ℕ)
  pub first_objects : List ℕ
  pub statics : List ℕ
  pub objects : List LaidObject
  pub cells : List LaidCell
  pub abstract_cells : List AbstractCell
  pub initial : List Initial

-- the objects of a file in their order, which has these call paths
abbrev pub declared_objects : TypedFileTree → List CallPath → List DeclaredObject
declared_objects file paths = static_objects file.statics ++ path_objects file 0 paths

-- how many of them have static storage
abbrev pub static_count : TypedFileTree → ℕ
static_count file = length (static_objects file.statics)

-- a layout with these call paths and objects
abbrev pub layout_with : TypedFileTree → List CallPath → List LaidObject → LaidTree
layout_with file paths objects = record {
  file = file;
  bodies = bodies_of file;
  first_paths = first_paths_of file;
  paths = paths;
  callees = callees_of file;
  first_objects = first_objects_of file (static_count file) paths;
  statics = static_numbers 0 file.statics;
  objects = objects;
  cells = cells_from file 0 objects;
  abstract_cells = abstracts_from file 0 objects;
  initial = initial_values file (static_numbers 0 file.statics) file.statics;
}

abbrev pub layout_along : TypedFileTree → List CallPath → LaidTree
layout_along file paths = layout_with file paths (objects_from file 0 0 (declared_objects file paths))

-- the layout of a file
unfoldable pub layout_of : TypedFileTree → LaidTree
layout_of file = layout_along file (paths_of file)

-- what the code holds, as a plain record
abbrev pub laid_tree : Laid → LaidTree
laid_tree laid = record {
  file = typed_file_tree laid.file;
  bodies = laid.bodies.items;
  first_paths = laid.first_paths.items;
  paths = laid.paths.items;
  callees = map (λ v. v.items) laid.callees.items;
  first_objects = laid.first_objects.items;
  statics = laid.statics.items;
  objects = laid.objects.items;
  cells = laid.cells.items;
  abstract_cells = laid.abstract_cells.items;
  initial = laid.initial.items;
}

-- ## What later layers read of a layout

-- what stands in place of a path, an object and a cell that there is not
abbrev pub no_path : CallPath
no_path = record { body = 0; function = 0; caller = None; paths = 0 }

abbrev pub no_object : LaidObject
no_object = record {
  name = record { start = 0; length = 0 };
  place = record { line = 0; col = 0 };
  of = record { number = 0; constant = false; volatile = false };
  owner = None;
  first_cell = 0;
  cells = 0;
  first_abstract = 0;
  abstract_cells = 0;
}

abbrev pub no_cell : LaidCell
no_cell = record { object = 0; scalar = Scalars.Pointer 0; abstract_cell = 0 }

abbrev pub no_abstract_cell : AbstractCell
no_abstract_cell = record { object = 0; offset = 0; scalar = Scalars.Pointer 0; smashed = false }

abbrev pub path_at : LaidTree → ℕ → CallPath
path_at laid p = get_or laid.paths p no_path

abbrev pub object_at : LaidTree → ℕ → LaidObject
object_at laid o = get_or laid.objects o no_object

abbrev pub cell_at : LaidTree → ℕ → LaidCell
cell_at laid c = get_or laid.cells c no_cell

abbrev pub abstract_at : LaidTree → ℕ → AbstractCell
abstract_at laid a = get_or laid.abstract_cells a no_abstract_cell

-- the path of a body
abbrev pub first_path : LaidTree → ℕ → ℕ
first_path laid body = get_or laid.first_paths body 0

-- the path that goes on from a path by one of its calls
abbrev pub callee : LaidTree → ℕ → ℕ → ℕ
callee laid p site = get_or (get_or laid.callees p []) site 0

-- the object that a number stands for on a path
abbrev pub object_of : LaidTree → ℕ → ObjectNumber → ℕ
object_of laid p (Objects.Static k) = get_or laid.statics k 0
object_of laid p (Objects.Local k) = get_or laid.first_objects p 0 + k

-- the cell at an offset of an object
abbrev pub cell_of : LaidTree → ℕ → ℕ → ℕ
cell_of laid o offset = (object_at laid o).first_cell + offset

-- its abstract cell
abbrev pub abstract_of : LaidTree → ℕ → ℕ → ℕ
abstract_of laid o offset = (cell_at laid (cell_of laid o offset)).abstract_cell

-- an object of static storage is shared by all tasks
abbrev pub is_shared : LaidTree → ℕ → Bool
is_shared laid o = is_none (object_at laid o).owner

abbrev pub is_on_path : LaidTree → ℕ → ℕ → Bool
is_on_path laid q p = nat_le q p && nat_lt p (q + (path_at laid q).paths)

abbrev pub is_alive_by : LaidTree → ℕ → Option ℕ → Bool
is_alive_by laid p None = true
is_alive_by laid p (Some q) = is_on_path laid q p

-- An object is alive on a path: it has static storage, or the path begins with its own one. The paths that begin with
-- one have the numbers from its own on.
abbrev pub is_alive : LaidTree → ℕ → ℕ → Bool
is_alive laid p o = is_alive_by laid p (object_at laid o).owner

-- ## Where a type stands

abbrev pub is_same_scalar : Scalar → Scalar → Bool
is_same_scalar (Scalars.Int t) (Scalars.Int u) = is_same_int t u
is_same_scalar (Scalars.Pointer c) (Scalars.Pointer d) = c == d
is_same_scalar _ _ = false

-- the first of these scalars are those
abbrev pub begins_with : List Scalar → List Scalar → Bool
begins_with xs [] = true
begins_with [] (y ∷ ys) = false
begins_with (x ∷ xs) (y ∷ ys) = is_same_scalar x y && begins_with xs ys

-- the scalars of a type
abbrev pub scalars_of_type : TypedFileTree → ℕ → List Scalar
scalars_of_type file n = map (λ c. c.scalar) (type_cells file (type_depth file) n 0)

-- the scalars of an object from an offset on
abbrev pub scalars_from : LaidTree → ℕ → ℕ → List Scalar
scalars_from laid o offset =
    map (λ c. c.scalar) (drop offset (take (object_at laid o).cells (drop (object_at laid o).first_cell laid.cells)))

-- the cells of a type stand in order at an offset of an object
abbrev pub stands_at : LaidTree → ℕ → ℕ → ℕ → Bool
stands_at laid o offset n = begins_with (scalars_from laid o offset) (scalars_of_type laid.file n)

-- ## Limits

abbrev pub summed_types : (ℕ → ℕ) → List DeclaredObject → ℕ
summed_types count [] = 0
summed_types count (d ∷ ds) = count d.of.number + summed_types count ds

-- what is counted over the parameters and local objects of a function, by their types
abbrev pub own_cells : TypedFileTree → (ℕ → ℕ) → ℕ → ℕ
own_cells file count f = summed_types count (local_objects 0 (locals_of file f))

-- what is counted over all objects, by their types
abbrev pub over_objects : TypedFileTree → (ℕ → ℕ) → ℕ
over_objects file count = summed_types count (static_objects file.statics) + weights (own_cells file count)
    (body_trees file)

-- how much of what a limit counts is laid out
unfoldable pub laid_count : TypedFileTree → Limit → ℕ
laid_count file Limits.Tasks = length file.tasks
laid_count file Limits.Mutexes = length file.mutexes
laid_count file Limits.Paths = weights one (body_trees file)
laid_count file Limits.Cells = over_objects file (cells_of_type file)
laid_count file Limits.Abstract = over_objects file (abstract_cells_of_type file)
laid_count file _ = 0

-- the limits of what is laid out, in the order in which they refuse
abbrev pub laid_limits : List Limit
laid_limits = Limits.Tasks ∷ Limits.Mutexes ∷ Limits.Paths ∷ Limits.Cells ∷ Limits.Abstract ∷ []

abbrev pub is_exceeded : Scale → TypedFileTree → Limit → Bool
is_exceeded scale file l = nat_lt (number_on scale l) (laid_count file l)

abbrev pub beyond : Limit → Refusal
beyond l = record { kind = Kinds.Limit; place = record { line = 0; col = 0 }; limit = Some l }

abbrev pub unless_beyond : TypedFileTree → Option Limit → Result LaidTree Refusal
unless_beyond file None = Ok (layout_of file)
unless_beyond file (Some l) = Err (beyond l)

-- The answer to a file on a scale: its layout, or the first limit that is exceeded.
abbrev pub laid_out : Scale → TypedFileTree → Result LaidTree Refusal
laid_out scale file = unless_beyond file (find (is_exceeded scale file) laid_limits)

-- what the code answers, as plain data: nothing where memory is wanting
abbrev pub answer_of : Result Laid Fail → Option (Result LaidTree Refusal)
answer_of (Ok laid) = Some (Ok (laid_tree laid))
answer_of (Err (Fails.Refused r)) = Some (Err r)
answer_of (Err Fails.NoMemory) = None
