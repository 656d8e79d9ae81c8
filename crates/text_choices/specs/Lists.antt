-- All that a source leaves open by its text and its tree.
use Rattle.std.specs.Prelude.{ℕ, List, Contains}
use Rattle.tm_laid.specs.Layouts.{LaidTree}
use Rattle.tm_terms.specs.declared.places.Place.{Place}
use Rattle.text_choices.specs.declared.kinds.Kind.{Kind}
use Rattle.text_choices.specs.declared.kinds.Kind.TheVariants as Kinds
use Rattle.text_choices.specs.declared.kinds.Choice.{Choice}
use Rattle.text_choices.specs.Texts.{IsPragma, IsRestricted, IsReserved}
use Rattle.text_choices.specs.Initialisers.{IsConstantMoved, IsConstantGiven}
use Rattle.text_choices.specs.Enumerations.{BeginsNegative}

module _ (bytes : List ℕ) (laid : LaidTree) where
  abbrev pub IsOpenByText : Kind → Place → Type 0
  IsOpenByText Kinds.Const place = IsConstantGiven bytes laid place
  IsOpenByText Kinds.Enum place = BeginsNegative laid place
  IsOpenByText Kinds.Layout place = Contains laid.file.sizes place
  IsOpenByText Kinds.Member place = IsConstantMoved bytes laid place
  IsOpenByText Kinds.Pragma place = IsPragma bytes place
  IsOpenByText Kinds.Reserved place = IsReserved bytes place
  IsOpenByText Kinds.Restrict place = IsRestricted bytes place
  IsOpenByText kind place = ⊥

  abbrev pub IsOfText : Choice → Type 0
  IsOfText c = IsOpenByText c.kind c.place
