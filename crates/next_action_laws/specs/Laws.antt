-- What the next actions of every typed file that is laid out keep to, after every list of answers that fits.
use Rattle.std.specs.Prelude.{◌≡◌, ℕ, pos, ◌+◌, ◌*◌, ◌^◌, ◌<◌, ◌≤◌, List, length, Option, Ok}
use Rattle.cell_layout.specs.tm_terms.declared.tokens.Name.{Name}
use Rattle.cell_layout.specs.tm_trees.FileTrees.{ItemTree}
use Rattle.cell_layout.specs.tm_typed.declared.types.CType.TheVariants as Types
use Rattle.cell_layout.specs.tm_typed.Scopes.{ctype_of, cells_of}
use Rattle.cell_layout.specs.tm_typed.Files.{TypedFileTree, IsTyped}
use Rattle.cell_layout.specs.tm_typed.WellTyped.{HasPart}
use Rattle.cell_layout.specs.tm_laid.Layable.{IsLayable, tables_of}
use Rattle.cell_layout.specs.tm_laid.declared.scales.Scale.{Scale}
use Rattle.cell_layout.specs.tm_laid.Layouts.{LaidTree, laid_out}
use Rattle.cell_types.specs.concrete_values.declared.values.Pointer.TheVariants.{To}
use Rattle.cell_types.specs.concrete_values.declared.values.Value.{Value}
use Rattle.cell_types.specs.concrete_values.declared.values.Value.TheVariants.{Number, Pointer}
use Rattle.cell_types.specs.concrete_values.declared.values.Answer.{Answer}
use Rattle.cell_types.specs.concrete_values.declared.actions.Next.TheVariants as Acts
use Rattle.cell_types.specs.concrete_values.Pointers.{part, element}
use Rattle.concrete_steps.specs.NextAction.{next}
use Rattle.next_action_laws.specs.Actions.{Fit, IsProper, IsPlace}
use Rattle.next_action_laws.specs.Regular.{AreRegularBodies}

-- the file is laid out so on some scale, and numbers of 32 bits are enough for its objects
pub record HasLayout (file : TypedFileTree) (order : List ℕ) (laid : LaidTree) : Type 0 where
  pub layable : IsLayable file order
  pub scale : Scale
  pub is : laid_out scale file ≡ Ok laid
  pub few : length laid.objects ≤ 2 ^ 32

-- the bodies of a typed file are regular
abbrev pub BodiesAreRegular : Type 0
BodiesAreRegular =
    (main : Option Name) (items : List ItemTree) (file : TypedFileTree) → IsTyped main items (Ok file)
    → AreRegularBodies file

-- after answers that fit each body's next action is proper
abbrev pub ActionsAreProper : Type 0
ActionsAreProper =
    (main : Option Name) (items : List ItemTree) (file : TypedFileTree) → IsTyped main items (Ok file)
    → (order : List ℕ) (laid : LaidTree) → HasLayout file order laid
    → (body : ℕ) → body < length laid.bodies → (answers : List Answer) → Fit laid (next laid body) answers
    → IsProper laid body (next laid body answers)

-- and so it is no misfit
abbrev pub NeverMisfit : Type 0
NeverMisfit =
    (main : Option Name) (items : List ItemTree) (file : TypedFileTree) → IsTyped main items (Ok file)
    → (order : List ℕ) (laid : LaidTree) → HasLayout file order laid
    → (body : ℕ) → body < length laid.bodies → (answers : List Answer) → Fit laid (next laid body) answers
    → next laid body answers ≡ Acts.Misfit → ⊥

-- the address of a cell of an object, or of what is behind the last
abbrev pub address : ℕ → ℕ → Value
address o k = Pointer (To o k)

-- Where a structure stands, each part stands at its cell, in the same object.
abbrev pub PartsStand : Type 0
PartsStand =
    (file : TypedFileTree) (order : List ℕ) (laid : LaidTree) → HasLayout file order laid
    → (body o k n s c m : ℕ) → IsPlace laid body o k n → ctype_of (tables_of file) n ≡ Types.Struct s
    → HasPart (tables_of file) s c m
    → (part laid c (address o k) ≡ address o (k + c)) × IsPlace laid body o (k + c) m

-- Where an array stands, each element stands behind those before it, in the same object.
abbrev pub ElementsStand : Type 0
ElementsStand =
    (file : TypedFileTree) (order : List ℕ) (laid : LaidTree) → HasLayout file order laid
    → (body o k n e l i : ℕ) → IsPlace laid body o k n → ctype_of (tables_of file) n ≡ Types.Array e l → i < l
    → (element laid l (cells_of (tables_of file) e) (address o k) (Number (pos i))
    ≡ Ok (address o (k + i * cells_of (tables_of file) e)))
    × IsPlace laid body o (k + i * cells_of (tables_of file) e) e
