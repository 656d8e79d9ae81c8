-- What the code holds of where expressions lead.
use Rattle.std.specs.Prelude.{◌≡◌, ◌≤◌, ◌++◌, ℕ, ℤ, pos, int_le, cond, length, List, map, Option, Some, None, option_map}
use Rattle.tm_terms.specs.declared.places.Place.{Place}
use Rattle.tm_terms.specs.ExprTrees.{Tree}
use Rattle.tm_typed.specs.TypedFiles.{typed_file_tree}
use Rattle.tm_laid.specs.declared.layouts.Laid.{Laid}
use Rattle.tm_laid.specs.Layouts.{LaidTree, laid_tree}
use Rattle.tm_laid.specs.Layable.{IsLayable}
use Rattle.text_choices.specs.declared.kinds.Choice.{Choice}
use Rattle.text_choices.specs.declared.spots.Spot as Held
use Rattle.text_choices.specs.AddressConstants.{Spot, Led, led_on, first_element, designated, pointed, summed}
use Rattle.text_choices.specs.AddressConstants.{number_of, negated, moved}
use Rattle.text_choices.specs.Initialisers.{named_at}
use Rattle.text_choices.specs.reading.Files.{left_at}
use Rattle.text_choices.specs.reading.Named.{Named, named_static}

abbrev pub spot_of : Held.Spot → Spot
spot_of s = record { object = s.object; offset = s.offset; of = s.of; constant = s.constant; cast = s.cast }

-- the same spot at another offset
abbrev pub at_offset : Spot → ℕ → Spot
at_offset s n = record s { offset = n }

-- an offset, if there is such a one in 32 bits
abbrev pub offset_in : ℤ → Option ℕ
offset_in (pos n) = cond (int_le (pos n) (pos 4294967295)) (Some n) None
offset_in _ = None

-- the pointer to the first element of what an expression designates
abbrev pub array_pointed : LaidTree → Tree → Led
array_pointed laid e =
    led_on laid (named_at laid) (first_element laid (named_at laid)) (designated laid (named_at laid) e)

-- the sum of two expressions
abbrev pub sum_pointed : LaidTree → Tree → Place → Tree → Led
sum_pointed laid l p r = (let left = pointed laid (named_at laid) l in
    summed laid (named_at laid) p left.spot left (number_of l) (pointed laid (named_at laid) r) (number_of r))

-- the difference of two expressions
abbrev pub difference_pointed : LaidTree → Tree → Place → Tree → Led
difference_pointed laid l p r =
    moved laid (named_at laid) p (pointed laid (named_at laid) l) (negated (number_of r))

-- an expression leads there, and the signs at which a pointer leaves its array are added to the choices
pub record IsLed (old new : List Choice) (found : Option Held.Spot) (led : Led) : Type 0 where
  pub spot : option_map spot_of found ≡ led.spot
  pub left : new ≡ old ++ map left_at led.left

-- a layout whose types can be compared cell by cell, and the names of its objects of static storage
pub record IsIndexed (laid : Laid) (names : List Named) : Type 0 where
  pub layable : IsLayable (typed_file_tree laid.file) laid.file.order.items
  pub few : length laid.cells.items ≤ 65536
  pub named : names ≡ map named_static (laid_tree laid).file.statics
