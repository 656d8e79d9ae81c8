use Rattle.std.specs.Prelude.{Contains}
use Rattle.sound_choices.proofs.Kept.{choices_listed}
use Rattle.sound_choices.proofs.laws.choices_are_listed.Goals as goal

pub returns : goal.returns
returns c =
    λ laid p from is few tables store pair seen origins others choices are.
    choices_listed laid p from is few tables store pair seen origins (Contains others) choices are
