-- The bounds of the numbers that the integer cells of an object hold, or that an abstract cell holds.
use Rattle.std.specs.Prelude.{◌≡◌, ℕ, ◌<◌, ℤ, ◌≤ℤ◌, true, List, [], ◌∷◌, length, get_or, slice_get, Contains, Option}
use Rattle.std.specs.Prelude.{Some, None}
use Rattle.strided_dom.specs.Progression.{Has}
use Rattle.tm_laid.specs.tm_typed.declared.types.Scalar.{Scalar}
use Rattle.tm_laid.specs.tm_typed.declared.types.Scalar.TheVariants as Scalars
use Rattle.tm_laid.specs.declared.objects.Initial.TheVariants as Initials
use Rattle.tm_laid.specs.Layouts.{LaidTree, cell_at, abstract_at, is_shared}
use Rattle.interfere_set.specs.Stores.{Interferences}
use Rattle.program_reports.specs.post_recheck.transfer_rows.StateForms.{State, own_of}
use Rattle.program_reports.specs.post_recheck.transfer_rows.Contributions.{entry_at}
use Rattle.program_reports.specs.post_recheck.table_covers.Solutions.{NodeTable}
use Rattle.program_reports.specs.post_recheck.program_equations.Programs.{ProgramBodies}
use Rattle.program_reports.specs.post_recheck.program_equations.Solutions.{table_at, tables_of, IsWholeLeast}
use Rattle.value_ranges.specs.declared.object_bounds.ObjectBounds.{ObjectBounds}
use Rattle.value_ranges.specs.declared.object_bounds.Grouping.{Grouping}
use Rattle.value_ranges.specs.declared.object_bounds.Grouping.TheVariants as Groupings

-- ## Cells

-- an integer type (C99 6.2.5p17)
abbrev pub IsInteger : Scalar → Type 0
IsInteger (Scalars.Int type) = Unit {0}
IsInteger (Scalars.Pointer class) = ⊥

-- an abstract cell of integer type, of an object of static storage (C99 6.2.4p3)
pub record IsIntegerCell (laid : LaidTree) (object x : ℕ) : Type 0 where
  pub within : x < length laid.abstract_cells
  pub of : (let a = abstract_at laid x in a.object ≡ object)
  pub integer : (let a = abstract_at laid x in IsInteger a.scalar)
  pub there : object < length laid.objects
  pub static : is_shared laid object ≡ true

-- the numbers of an integer cell are told of this: of its object, or of the abstract cell itself
abbrev pub IsKeyOf : Grouping → LaidTree → ℕ → ℕ → Type 0
IsKeyOf Groupings.Objects laid key x = IsIntegerCell laid key x
IsKeyOf Groupings.Cells laid key x = (key ≡ x) × (let a = abstract_at laid x in IsIntegerCell laid a.object x)

-- how many there are of which numbers may be told
abbrev pub key_count : Grouping → LaidTree → ℕ
key_count Groupings.Objects laid = length laid.objects
key_count Groupings.Cells laid = length laid.abstract_cells

-- ## Lists

-- each object comes before the next one
abbrev pub AreRising : List ObjectBounds → Type 0
AreRising [] = Unit {0}
AreRising (b ∷ []) = Unit {0}
AreRising (b ∷ c ∷ list) = (b.object < c.object) × AreRising (c ∷ list)

-- the list has bounds of the object
pub record IsListed (list : List ObjectBounds) (object : ℕ) : Type 0 where
  pub bounds : ObjectBounds
  pub has : Contains list bounds
  pub of : bounds.object ≡ object

-- the tables and the store are the least solution of the program
abbrev pub AreLeast : ProgramBodies → List (List (Option State)) → Interferences → Type 0
AreLeast p tables store = IsWholeLeast p (table_at tables p.tasks) (tables_of tables) store

module _ (p : ProgramBodies) (tables : ℕ → NodeTable State) (store : Interferences) where
  -- ## Numbers

  -- What the tables and the store tell of an abstract cell: the numbers that the cells for which it stands hold before
  -- the program runs (C99 6.7.8), those of its own value in the state of some node of some body, and those of its weak
  -- entries.
  pub data IsToldNumber (x : ℕ) (n : ℤ) : Type 0 where
    at_first : (cell : ℕ) → cell < length p.laid.cells → (let c = cell_at p.laid cell in c.abstract_cell ≡ x)
        → slice_get p.laid.initial cell ≡ Some (Initials.Number n) → IsToldNumber x n
    at_node : (body node : ℕ) (s : State) → tables body node ≡ Some s
        → (let own = own_of s x in Has own.numbers n) → IsToldNumber x n
    in_store : (task held : ℕ) → (let entry = entry_at store.weak task held x in Has entry.numbers n)
        → IsToldNumber x n

  -- a number of an object, or of an abstract cell: one that is told of an integer cell of it
  pub record IsNumberBy (by : Grouping) (key : ℕ) (n : ℤ) : Type 0 where
    pub cell : ℕ
    pub of : IsKeyOf by p.laid key cell
    pub told : IsToldNumber cell n

  -- the least and the greatest of them
  pub record AreBoundsBy (by : Grouping) (key : ℕ) (low high : ℤ) : Type 0 where
    pub low_is : IsNumberBy by key low
    pub high_is : IsNumberBy by key high
    pub least : (n : ℤ) → IsNumberBy by key n → low ≤ℤ n
    pub greatest : (n : ℤ) → IsNumberBy by key n → n ≤ℤ high

  abbrev pub IsNumberOf : ℕ → ℤ → Type 0
  IsNumberOf = IsNumberBy Groupings.Objects

  abbrev pub AreBounds : ℕ → ℤ → ℤ → Type 0
  AreBounds = AreBoundsBy Groupings.Objects

  -- each object of which a number is told, once, with its bounds, in their order
  pub record AreRanges (list : List ObjectBounds) : Type 0 where
    pub sorted : AreRising list
    pub each : (b : ObjectBounds) → Contains list b → AreBounds b.object b.low b.high
    pub all : (object : ℕ) (n : ℤ) → IsNumberOf object n → IsListed list object

  -- ## Cells one by one

  -- the bounds of what has this key, if a number is told of it
  abbrev pub AreBoundsIf : Grouping → ℕ → Option ObjectBounds → Type 0
  AreBoundsIf by key None = (n : ℤ) → IsNumberBy by key n → ⊥
  AreBoundsIf by key (Some b) = AreBoundsBy by key b.low b.high

  -- for each abstract cell its bounds
  pub record AreCellRanges (bounds : List (Option ObjectBounds)) : Type 0 where
    pub count : length bounds ≡ length p.laid.abstract_cells
    pub each : (x : ℕ) → AreBoundsIf Groupings.Cells x (get_or bounds x None)
