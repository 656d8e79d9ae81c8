use Rattle.std.proofs.Common.{◌≡◌, take, drop}
use Rattle.std.specs.Prelude.{option_map}
use Rattle.replay_lines.specs.Cuts.{cut, cut_from}
use Rattle.replay_lines.specs.reading.Cuts.{in_front}
use Rattle.replay_lines.proofs.cuts.mark_in.Given as goal

-- no line that is the mark begins before this byte
abbrev pub invariant-loop-at : goal.invariant-loop-at
invariant-loop-at l = option_map (in_front (take l.at l.bytes)) (cut_from l.fresh (drop l.at l.bytes)) ≡ cut l.bytes
