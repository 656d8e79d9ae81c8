use Rattle.std.proofs.Common.{◌∷◌, drop, map}
use Rattle.std.specs.Prelude.{take_while}
use Rattle.serde_json.specs.Data.{array}
use Rattle.serde_json.specs.View.{items_of}
use Rattle.report_logs.specs.Sarif.{frame_data, is_call}
use Rattle.report_logs.specs.reading.Seen.{way_told_seen}
use Rattle.report_logs.specs.reading.Written.{Completes, last_tokens, value_tokens}
use Rattle.report_logs.proofs.stacks.write_frames.Given as goal

abbrev pub invariant-loop-i : goal.invariant-loop-i
invariant-loop-i l =
    Completes l.fn.out l.out
    (value_tokens (array (items_of (map frame_data
    (way_told_seen l.way ∷ take_while is_call (map way_told_seen l.behind))))))
    (last_tokens (map frame_data (take_while is_call (map way_told_seen (drop l.i l.behind)))))
