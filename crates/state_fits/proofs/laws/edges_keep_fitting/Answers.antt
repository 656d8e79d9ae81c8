use Rattle.state_fits.specs.laws.AfterFits.{edge_fits}
use Rattle.state_fits.proofs.laws.edges_keep_fitting.Goals as goal

pub returns : goal.returns
returns c = edge_fits
