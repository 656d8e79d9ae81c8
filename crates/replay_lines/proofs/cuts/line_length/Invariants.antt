use Rattle.std.proofs.Common.{◌≡◌, ◌+◌, drop}
use Rattle.std.specs.List.{position_or_len}
use Rattle.replay_lines.specs.Cuts.{is_newline}
use Rattle.replay_lines.proofs.cuts.line_length.Given as goal

abbrev pub invariant-loop-at : goal.invariant-loop-at
invariant-loop-at l = l.at + position_or_len is_newline (drop l.at l.bytes) ≡ position_or_len is_newline l.bytes
