-- The cells of a type: every object is its scalars in order (C99 6.2.5). Elements of an array of 65 and more share
-- their abstract cells.
use Rattle.std.specs.Prelude.{ℕ, zero, suc, ◌+◌, ◌*◌, Bool, true, cond, nat_le, List, [], ◌∷◌, ◌++◌, length, get_or}
use Rattle.tm_typed.specs.declared.types.CType.{CType}
use Rattle.tm_typed.specs.declared.types.CType.TheVariants as Types
use Rattle.tm_typed.specs.declared.types.TypeEntry.{TypeEntry}
use Rattle.tm_typed.specs.declared.types.Scalar.{Scalar}
use Rattle.tm_typed.specs.declared.types.Scalar.TheVariants as Scalars
use Rattle.tm_typed.specs.declared.scopes.Member.{Member}
use Rattle.tm_typed.specs.Types.{no_type}
use Rattle.tm_typed.specs.Scopes.{Structure, no_structure}
use Rattle.tm_typed.specs.Files.{TypedFileTree}

abbrev pub entry_of : TypedFileTree → ℕ → TypeEntry
entry_of file n = get_or file.types n no_type

abbrev pub structure_in : TypedFileTree → ℕ → Structure
structure_in file k = get_or file.structs k no_structure

-- An array this long is smashed: one element's abstract cells stand for those of all.
abbrev pub is_smashed : ℕ → Bool
is_smashed length = nat_le 65 length

-- ## Numbers of cells

abbrev pub summed : (ℕ → ℕ) → List Member → ℕ
summed count [] = 0
summed count (m ∷ ms) = count m.part.of.number + summed count ms

abbrev pub count_by : TypedFileTree → (ℕ → ℕ) → CType → ℕ
count_by file count Types.Void = 0
count_by file count (Types.Int t) = 1
count_by file count (Types.Pointer q) = 1
count_by file count (Types.Array e n) = n * count e
count_by file count (Types.Struct k) = summed count (structure_in file k).members

-- the number of cells of a type that is made of others at most so deep
unfoldable pub cell_count : TypedFileTree → ℕ → ℕ → ℕ
cell_count file zero n = 0
cell_count file (suc depth) n = count_by file (cell_count file depth) (entry_of file n).ctype

abbrev pub abstract_by : TypedFileTree → (ℕ → ℕ) → CType → ℕ
abstract_by file count (Types.Array e n) = cond (is_smashed n) (count e) (n * count e)
abstract_by file count t = count_by file count t

-- the number of its abstract cells
unfoldable pub abstract_count : TypedFileTree → ℕ → ℕ → ℕ
abstract_count file zero n = 0
abstract_count file (suc depth) n = abstract_by file (abstract_count file depth) (entry_of file n).ctype

-- How deep types are made of others: a structure has no part of its own type but by a pointer, so that the numbers of
-- types and structures are deep enough.
abbrev pub type_depth : TypedFileTree → ℕ
type_depth file = length file.types + length file.structs

abbrev pub cells_of_type : TypedFileTree → ℕ → ℕ
cells_of_type file n = cell_count file (type_depth file) n

abbrev pub abstract_cells_of_type : TypedFileTree → ℕ → ℕ
abstract_cells_of_type file n = abstract_count file (type_depth file) n

-- ## The cells

-- what so many elements have, one behind the other, each by where it begins: the next begins a step further
abbrev pub elements : {A : Type 0} → (ℕ → List A) → ℕ → ℕ → ℕ → List A
elements at zero step start = []
elements at (suc n) step start = at start ++ elements at n step (start + step)

-- what the members of a structure have, each by its type and where it begins: the next begins behind it
abbrev pub in_members : {A : Type 0} → (ℕ → ℕ → List A) → (ℕ → ℕ) → List Member → ℕ → List A
in_members at count [] start = []
in_members at count (m ∷ ms) start = at m.part.of.number start ++ in_members at count ms
    (start + count m.part.of.number)

-- a cell of a type: its scalar, and its abstract cell
pub record TypeCell : Type 0 where
  pub scalar : Scalar
  pub abstract_cell : ℕ

abbrev pub cells_by : TypedFileTree → (ℕ → ℕ → List TypeCell) → (ℕ → ℕ) → ℕ → TypeEntry → CType → List TypeCell
cells_by file at count start e Types.Void = []
cells_by file at count start e (Types.Int t) = record { scalar = Scalars.Int t; abstract_cell = start } ∷ []
cells_by file at count start e (Types.Pointer q) = record { scalar = Scalars.Pointer e.class; abstract_cell = start }
    ∷ []
cells_by file at count start e (Types.Array element n) = elements (at element) n
    (cond (is_smashed n) 0 (count element)) start
cells_by file at count start e (Types.Struct k) = in_members at count (structure_in file k).members start

-- the cells of a type whose abstract cells begin with this one
unfoldable pub type_cells : TypedFileTree → ℕ → ℕ → ℕ → List TypeCell
type_cells file zero n start = []
type_cells file (suc depth) n start =
    cells_by file (type_cells file depth) (abstract_cells_of_type file) start (entry_of file n) (entry_of file n).ctype

-- an abstract cell of a type: its scalar, the first of the cells for which it stands, and whether it is smashed
pub record TypeAbstract : Type 0 where
  pub scalar : Scalar
  pub offset : ℕ
  pub smashed : Bool

abbrev pub abstracts_by : TypedFileTree → (Bool → ℕ → ℕ → List TypeAbstract) → (ℕ → ℕ) → Bool → ℕ → TypeEntry → CType
    → List TypeAbstract
abstracts_by file at count smashed start e Types.Void = []
abstracts_by file at count smashed start e (Types.Int t) = record
    { scalar = Scalars.Int t; offset = start; smashed = smashed } ∷ []
abstracts_by file at count smashed start e (Types.Pointer q) = record
    { scalar = Scalars.Pointer e.class; offset = start; smashed = smashed } ∷ []
abstracts_by file at count smashed start e (Types.Array element n) =
    cond (is_smashed n) (at true element start) (elements (at smashed element) n (count element) start)
abstracts_by file at count smashed start e (Types.Struct k) = in_members (at smashed) count
    (structure_in file k).members start

-- the abstract cells of a type whose cells begin with this one, inside an array that is smashed or not
unfoldable pub type_abstracts : TypedFileTree → ℕ → Bool → ℕ → ℕ → List TypeAbstract
type_abstracts file zero smashed n start = []
type_abstracts file (suc depth) smashed n start =
    abstracts_by file (type_abstracts file depth) (cells_of_type file) smashed start (entry_of file n)
    (entry_of file n).ctype
