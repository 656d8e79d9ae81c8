use Rattle.std.proofs.Common.{◌≡◌, ◌+◌, drop}
use Rattle.std.specs.List.{position_or_len}
use Rattle.replay_lines.specs.Choices.{is_space}
use Rattle.replay_lines.proofs.choices.word_length.Given as goal

abbrev pub invariant-loop-at : goal.invariant-loop-at
invariant-loop-at l = l.at + position_or_len is_space (drop l.at l.bytes) ≡ position_or_len is_space l.bytes
