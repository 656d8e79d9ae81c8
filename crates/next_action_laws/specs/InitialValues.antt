-- The values that initialisers give to cells of static storage.
use Rattle.std.specs.Prelude.{◌≡◌, ℕ, ◌≤◌, true, List, All, get_or, Option, Ok}
use Rattle.cell_layout.specs.tm_cint.IntTypes.{IsIn}
use Rattle.cell_layout.specs.tm_terms.declared.tokens.Name.{Name}
use Rattle.cell_layout.specs.tm_trees.FileTrees.{ItemTree}
use Rattle.cell_layout.specs.tm_typed.declared.types.Scalar.{Scalar}
use Rattle.cell_layout.specs.tm_typed.declared.types.Scalar.TheVariants as Scalars
use Rattle.cell_layout.specs.tm_typed.declared.files.StaticCell.{StaticCell}
use Rattle.cell_layout.specs.tm_typed.declared.files.StaticValue.{StaticValue}
use Rattle.cell_layout.specs.tm_typed.declared.files.StaticValue.TheVariants as Values
use Rattle.cell_layout.specs.tm_typed.Scopes.{cells_of}
use Rattle.cell_layout.specs.tm_typed.States.{no_static}
use Rattle.cell_layout.specs.tm_typed.Files.{TypedFileTree, IsTyped}
use Rattle.cell_layout.specs.tm_laid.Layable.{tables_of}
use Rattle.typed_file_laws.specs.Sites.{is_defined_object}
use Rattle.next_action_laws.specs.Regular.{HasScalar}

-- A value for a cell of this type: a number of its range; null, or an address in an object that the file defines, at an
-- offset of at most its size.
abbrev pub IsValueFor : TypedFileTree → Scalar → StaticValue → Type 0
IsValueFor file (Scalars.Int t) (Values.Number z) = IsIn t z
IsValueFor file (Scalars.Int t) Values.Null = ⊥
IsValueFor file (Scalars.Int t) (Values.Address o k) = ⊥
IsValueFor file (Scalars.Pointer c) (Values.Number z) = ⊥
IsValueFor file (Scalars.Pointer c) Values.Null = Unit {0}
IsValueFor file (Scalars.Pointer c) (Values.Address o k) = (is_defined_object file o ≡ true)
    × (k ≤ cells_of (tables_of file) (get_or file.statics o no_static).of.number)

-- a given cell is one of the object's type, and the value is one for it
pub record IsFilled (file : TypedFileTree) (n : ℕ) (g : StaticCell) : Type 0 where
  pub type : Scalar
  pub cell : HasScalar (tables_of file) n g.cell type
  pub value : IsValueFor file type g.value

-- so are all given cells of objects of static storage
abbrev pub AreFilled : TypedFileTree → Type 0
AreFilled file = All (λ s. All (IsFilled file s.of.number) s.given) file.statics

-- they are so in a typed file
abbrev pub InitialValuesFit : Type 0
InitialValuesFit =
    (main : Option Name) (items : List ItemTree) (file : TypedFileTree) → IsTyped main items (Ok file) → AreFilled file
