use Rattle.std.specs.Prelude.{Contains}
use Rattle.sound_choices.proofs.Listed.{beginnings_listed}
use Rattle.sound_choices.proofs.laws.beginnings_are_listed.Goals as goal

pub returns : goal.returns
returns c =
    λ laid p from is few tables store pair seen read origins others choices are.
    beginnings_listed laid p from is few tables store pair seen read origins (Contains others) choices are
