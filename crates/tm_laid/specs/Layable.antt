-- What a typed file has, on which the layout stands: its numbers name what there is, no function reaches itself and no
-- type is a part of itself, and the columns of its types count cells.
use Rattle.std.specs.Prelude.{◌≡◌, ℕ, ◌+◌, ◌<◌, true, List, [], ◌∷◌, length, All, Contains}
use Rattle.tm_typed.specs.declared.types.CType.TheVariants as Types
use Rattle.tm_typed.specs.declared.types.TypeEntry.{TypeEntry}
use Rattle.tm_typed.specs.declared.scopes.Member.{Member}
use Rattle.tm_typed.specs.Scopes.{Scope, Structure, cells_of, abstract_cells_of}
use Rattle.tm_typed.specs.TypeRows.{clipped, cells_in, abstract_cells_in, is_founded}
use Rattle.tm_typed.specs.CallGraph.{AreCalleesFirst, calls_in}
use Rattle.tm_typed.specs.Files.{TypedFileTree}
use Rattle.tm_laid.specs.Paths.{bodies_of, locals_of}
use Rattle.tm_laid.specs.TypeCells.{entry_of, structure_in, type_depth, summed}

-- ## Types

-- the tables of a file as a scope in which nothing is visible
abbrev pub tables_of : TypedFileTree → Scope
tables_of file = record {
  names = [];
  tags = [];
  outer_names = 0;
  outer_tags = 0;
  types = file.types;
  structs = file.structs;
  functions = [];
}

-- a row is made of types of the table, and its columns count cells
pub record IsRow (file : TypedFileTree) (e : TypeEntry) : Type 0 where
  pub founded : is_founded (tables_of file) e.ctype ≡ true
  pub structures : (k : ℕ) → e.ctype ≡ Types.Struct k → k < length file.structs
  pub cells : e.cells ≡ cells_in (tables_of file) e.ctype
  pub abstract_cells : e.abstract_cells ≡ abstract_cells_in (tables_of file) e.ctype

-- members stand one behind the other
abbrev pub AreParts : TypedFileTree → ℕ → List Member → Type 0
AreParts file start [] = Unit {0}
AreParts file start (m ∷ ms) =
    (m.part.cell ≡ clipped start) × (m.part.of.number < length file.types) × AreParts file
    (start + cells_of (tables_of file) m.part.of.number) ms

pub record IsStructure (file : TypedFileTree) (s : Structure) : Type 0 where
  pub parts : AreParts file 0 s.members
  pub cells : s.cells ≡ clipped (summed (cells_of (tables_of file)) s.members)
  pub abstract_cells : s.abstract_cells ≡ clipped (summed (abstract_cells_of (tables_of file)) s.members)

-- Types have ranks, and what a type is made of other than by a pointer has a lower one.
pub record HasRanks (file : TypedFileTree) : Type 0 where
  pub rank : ℕ → ℕ
  pub deep : (n : ℕ) → n < length file.types → rank n < type_depth file
  pub elements : (n element count : ℕ) → (entry_of file n).ctype ≡ Types.Array element count → rank element < rank n
  pub members : (n k : ℕ) → (entry_of file n).ctype ≡ Types.Struct k → All (λ m. rank m.part.of.number < rank n)
      (structure_in file k).members

-- ## Files

-- the file can be laid out, where its functions stand in this order
pub record IsLayable (file : TypedFileTree) (order : List ℕ) : Type 0 where
  -- types
  pub rows : All (IsRow file) file.types
  pub structures : All (IsStructure file) file.structs
  pub ranks : HasRanks file
  -- objects have types of the table
  pub statics : All (λ s. s.of.number < length file.types) file.statics
  pub locals : (f : ℕ) → All (λ l. l.of.number < length file.types) (locals_of file f)
  -- functions
  pub graph : length file.calls ≡ length file.functions
  pub calls : All (All (λ g. g < length file.functions)) file.calls
  pub bodies : All (λ f. f < length file.functions) (bodies_of file)
  pub callees_first : AreCalleesFirst (calls_in file.calls) order
  pub within : All (λ f. f < length file.functions) order
  pub whole : (f : ℕ) → f < length file.functions → Contains order f
