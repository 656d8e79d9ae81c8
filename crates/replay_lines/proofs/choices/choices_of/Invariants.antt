use Rattle.std.proofs.Common.{◌≡◌, length}
use Rattle.replay_lines.specs.Choices.{choices_of}
use Rattle.replay_lines.specs.reading.Choices.{in_front}
use Rattle.replay_lines.proofs.choices.choices_of.Given as goal

-- the choices so far, and those that the other lines are
abbrev pub invariant-loop-rest : goal.invariant-loop-rest
invariant-loop-rest l = in_front l.choices.items (choices_of l.rest) ≡ choices_of l.fn.text

abbrev pub decreases-loop-rest : goal.decreases-loop-rest
decreases-loop-rest l = length l.rest
