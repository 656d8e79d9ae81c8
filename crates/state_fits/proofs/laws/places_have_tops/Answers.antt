use Rattle.state_fits.specs.laws.TopStates.{fits_below, fits_within, heights}
use Rattle.state_fits.proofs.laws.places_have_tops.Goals as goal

pub returns : goal.returns
returns c = record { below = fits_below; within = fits_within; heights = heights }
