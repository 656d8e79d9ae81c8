-- Objects: those of static storage, then the parameters and local objects of each call path.
use Rattle.std.specs.Prelude.{ℕ, pos, suc, ◌+◌, false, cond, List, [], ◌∷◌, ◌++◌, map, get_or, slice_set, Some, None}
use Rattle.tm_typed.specs.declared.types.Scalar.{Scalar}
use Rattle.tm_typed.specs.declared.types.Scalar.TheVariants as Scalars
use Rattle.tm_typed.specs.declared.files.LocalEntry.{LocalEntry}
use Rattle.tm_typed.specs.declared.files.StaticCell.{StaticCell}
use Rattle.tm_typed.specs.declared.files.StaticValue.{StaticValue}
use Rattle.tm_typed.specs.declared.files.StaticValue.TheVariants as Values
use Rattle.tm_typed.specs.States.{Static}
use Rattle.tm_typed.specs.Files.{TypedFileTree}
use Rattle.tm_laid.specs.declared.paths.CallPath.{CallPath}
use Rattle.tm_laid.specs.declared.objects.DeclaredObject.{DeclaredObject}
use Rattle.tm_laid.specs.declared.objects.LaidObject.{LaidObject}
use Rattle.tm_laid.specs.declared.objects.Initial.{Initial}
use Rattle.tm_laid.specs.declared.objects.Initial.TheVariants as Initials
use Rattle.tm_laid.specs.declared.cells.LaidCell.{LaidCell}
use Rattle.tm_laid.specs.declared.cells.AbstractCell.{AbstractCell}
use Rattle.tm_laid.specs.Paths.{locals_of}
use Rattle.tm_laid.specs.TypeCells.{TypeCell, TypeAbstract, type_cells, type_abstracts, type_depth, cells_of_type}
use Rattle.tm_laid.specs.TypeCells.{abstract_cells_of_type}

-- ## Objects in their order

abbrev pub local_objects : ℕ → List LocalEntry → List DeclaredObject
local_objects path [] = []
local_objects path (l ∷ ls) = record { name = l.name; place = l.place; of = l.of; owner = Some path } ∷ local_objects
    path ls

-- the parameters and local objects of paths from this number on
abbrev pub path_objects : TypedFileTree → ℕ → List CallPath → List DeclaredObject
path_objects file number [] = []
path_objects file number (p ∷ ps) = local_objects number (locals_of file p.function) ++ path_objects file
    (suc number) ps

-- the objects of static storage that the file defines
abbrev pub static_objects : List Static → List DeclaredObject
static_objects [] = []
static_objects (s ∷ ss) =
    cond s.defined (record { name = s.name; place = s.place; of = s.of; owner = None } ∷ static_objects ss)
    (static_objects ss)

-- for each object of static storage of the file how many that are defined stand before it, and that is its number
abbrev pub static_numbers : ℕ → List Static → List ℕ
static_numbers n [] = []
static_numbers n (s ∷ ss) = n ∷ static_numbers (cond s.defined (suc n) n) ss

-- ## Their cells

-- objects whose cells and abstract cells begin with these
abbrev pub objects_from : TypedFileTree → ℕ → ℕ → List DeclaredObject → List LaidObject
objects_from file cell abstract [] = []
objects_from file cell abstract (d ∷ ds) =
    record {
      name = d.name;
      place = d.place;
      of = d.of;
      owner = d.owner;
      first_cell = cell;
      cells = cells_of_type file d.of.number;
      first_abstract = abstract;
      abstract_cells = abstract_cells_of_type file d.of.number;
    }
    ∷ objects_from file (cell + cells_of_type file d.of.number) (abstract + abstract_cells_of_type file d.of.number) ds

abbrev pub laid_cell : ℕ → TypeCell → LaidCell
laid_cell object c = record { object = object; scalar = c.scalar; abstract_cell = c.abstract_cell }

-- the cells of objects from this number on
abbrev pub cells_from : TypedFileTree → ℕ → List LaidObject → List LaidCell
cells_from file object [] = []
cells_from file object (o ∷ os) =
    map (laid_cell object) (type_cells file (type_depth file) o.of.number o.first_abstract) ++ cells_from file
    (suc object) os

abbrev pub laid_abstract : ℕ → TypeAbstract → AbstractCell
laid_abstract object a = record { object = object; offset = a.offset; scalar = a.scalar; smashed = a.smashed }

-- their abstract cells
abbrev pub abstracts_from : TypedFileTree → ℕ → List LaidObject → List AbstractCell
abstracts_from file object [] = []
abstracts_from file object (o ∷ os) =
    map (laid_abstract object) (type_abstracts file (type_depth file) false o.of.number 0) ++ abstracts_from file
    (suc object) os

-- ## What static cells hold before the program runs (C99 6.7.8)

-- zero, or the null pointer
abbrev pub nothing_given : Scalar → Initial
nothing_given (Scalars.Int t) = Initials.Number (pos 0)
nothing_given (Scalars.Pointer class) = Initials.Null

-- a value that an initialiser gives, where objects have these numbers
abbrev pub value_given : List ℕ → StaticValue → Initial
value_given numbers (Values.Number z) = Initials.Number z
value_given numbers Values.Null = Initials.Null
value_given numbers (Values.Address object cell) = Initials.To (get_or numbers object 0) cell

-- the cells of an object, of which some are given
abbrev pub with_given : List ℕ → List StaticCell → List Initial → List Initial
with_given numbers [] values = values
with_given numbers (g ∷ gs) values = with_given numbers gs (slice_set values g.cell (value_given numbers g.value))

-- the cells of the objects of static storage that the file defines
abbrev pub initial_values : TypedFileTree → List ℕ → List Static → List Initial
initial_values file numbers [] = []
initial_values file numbers (s ∷ ss) = cond s.defined
    (with_given numbers s.given (map (λ c. nothing_given c.scalar) (type_cells file (type_depth file) s.of.number 0))
    ++ initial_values file numbers ss)
    (initial_values file numbers ss)
