use Rattle.state_fits.specs.laws.ExtentKinds.{extents_are_kinds}
use Rattle.state_fits.proofs.laws.extents_are_kinds.Goals as goal

pub returns : goal.returns
returns c = extents_are_kinds
