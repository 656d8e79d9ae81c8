-- ENUM in static storage (C99 6.7.2.2p4): objects that begin with a negative number where an enumeration stands that
-- compilers may make unsigned.
use Rattle.std.specs.Prelude.{◌≡◌, ℕ, negsuc, true, Contains}
use Rattle.tm_terms.specs.declared.places.Place.{Place}
use Rattle.tm_typed.specs.declared.files.StaticCell.{StaticCell}
use Rattle.tm_typed.specs.declared.files.StaticValue.TheVariants as Values
use Rattle.tm_typed.specs.States.{Static}
use Rattle.tm_laid.specs.Layouts.{LaidTree}
use Rattle.part_extents.specs.Parts.{is_of_enumeration}

-- the place of the name of such an object, in its first declaration
pub record BeginsNegative (laid : LaidTree) (place : Place) : Type 0 where
  pub object : Static
  pub has : Contains laid.file.statics object
  pub is : object.place ≡ place
  pub cell : StaticCell
  pub given : Contains object.given cell
  pub below : ℕ
  pub negative : cell.value ≡ Values.Number (negsuc below)
  pub enumerated : is_of_enumeration laid (record { of = object.of; cell = cell.cell }) ≡ true
