use Rattle.sound_core.proofs.ToldStops.{stops_listed}
use Rattle.sound_core.proofs.laws.stops_are_listed.Goals as goal

pub returns : goal.returns
returns c = stops_listed
