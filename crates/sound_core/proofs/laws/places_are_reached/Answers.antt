use Rattle.sound_core.proofs.Reached.{acts_reached, never_listed}
use Rattle.sound_core.proofs.laws.places_are_reached.Goals as goal

pub returns : goal.returns
returns c = record { reached = acts_reached; dead = never_listed }
