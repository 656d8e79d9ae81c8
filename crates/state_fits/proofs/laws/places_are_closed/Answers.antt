use Rattle.state_fits.specs.Kinds.{InExtents}
use Rattle.state_fits.specs.laws.ExtentKinds.{extents_are_kinds}
use Rattle.state_fits.specs.laws.PlacesFit.{joined_fits, rounded_fits}
use Rattle.state_fits.proofs.laws.places_are_closed.Goals as goal

pub returns : goal.returns
returns c = record {
  joined = λ laid task extents. joined_fits laid task (InExtents laid extents) (extents_are_kinds laid extents);
  rounded = λ laid task extents. rounded_fits laid task (InExtents laid extents) (extents_are_kinds laid extents);
}
