use Rattle.std.specs.Prelude.{Contains}
use Rattle.sound_choices.proofs.Enumerated.{enumerations_listed}
use Rattle.sound_choices.proofs.laws.enumerations_are_listed.Goals as goal

pub returns : goal.returns
returns c =
    λ laid p from is few tables store pair seen read origins others choices are.
    enumerations_listed laid p from is few tables store pair seen read origins (Contains others) choices are
