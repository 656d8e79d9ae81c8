-- What the typed file of a source leaves open, and with it what stands whether or not the source has tokens. How the
-- code looks for negative numbers in enumerations.
use Rattle.std.specs.Prelude.{◌≡◌, ◌⊎◌, ◌&&◌, ◌||◌, ℕ, pos, int_lt, Bool, false, List, [], ◌∷◌, Contains, IsTrue}
use Rattle.tm_typed.specs.declared.files.StaticCell.{StaticCell}
use Rattle.tm_typed.specs.declared.files.StaticValue.{StaticValue}
use Rattle.tm_typed.specs.declared.files.StaticValue.TheVariants as Values
use Rattle.tm_typed.specs.declared.types.Qualified.{Qualified}
use Rattle.tm_typed.specs.States.{Static}
use Rattle.tm_laid.specs.Layouts.{LaidTree}
use Rattle.part_extents.specs.Parts.{is_of_enumeration}
use Rattle.text_choices.specs.declared.kinds.Kind.TheVariants as Kinds
use Rattle.text_choices.specs.declared.kinds.Choice.{Choice}
use Rattle.text_choices.specs.Choices.{OfKind}
use Rattle.text_choices.specs.Enumerations.{BeginsNegative}
use Rattle.text_choices.specs.Texts.{IsPragma}

-- ## Negative numbers in enumerations

abbrev pub is_negative : StaticValue → Bool
is_negative (Values.Number n) = int_lt n (pos 0)
is_negative _ = false

module _ (laid : LaidTree) where
  -- a cell that is given to an object of a type is such a number
  abbrev pub begins_negative : Qualified → StaticCell → Bool
  begins_negative of given = is_negative given.value && is_of_enumeration laid (record { of = of; cell = given.cell })

  -- one of some cells is
  abbrev pub any_negative : Qualified → List StaticCell → Bool
  any_negative of [] = false
  any_negative of (cell ∷ cells) = begins_negative of cell || any_negative of cells

  -- an object begins so, and the choice stands at its place
  abbrev pub IsOfObject : Static → Choice → Type 0
  IsOfObject object c = IsTrue (any_negative object.of object.given) × (c ≡ record { place = object.place; kind = Kinds.Enum })

  -- ## The typed file

  -- a size or the beginning of an object leaves it open
  abbrev pub IsOfTyped : Choice → Type 0
  IsOfTyped c = OfKind Kinds.Layout (Contains laid.file.sizes) c ⊎ OfKind Kinds.Enum (BeginsNegative laid) c

-- a skipped line does, or the typed file
abbrev pub IsWithoutTokens : List ℕ → LaidTree → Choice → Type 0
IsWithoutTokens bytes laid c = OfKind Kinds.Pragma (IsPragma bytes) c ⊎ IsOfTyped laid c
