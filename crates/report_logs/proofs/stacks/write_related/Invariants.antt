use Rattle.std.proofs.Common.{drop, map}
use Rattle.serde_json.specs.Data.{array}
use Rattle.serde_json.specs.View.{items_of}
use Rattle.report_logs.specs.Sarif.{related_data}
use Rattle.report_logs.specs.reading.Seen.{way_told_seen}
use Rattle.report_logs.specs.reading.Written.{Completes, last_tokens, value_tokens}
use Rattle.report_logs.proofs.stacks.write_related.Given as goal

abbrev pub invariant-loop-i : goal.invariant-loop-i
invariant-loop-i l =
    Completes l.fn.out l.out (value_tokens (array (items_of (related_data (map way_told_seen l.ways)))))
    (last_tokens (related_data (map way_told_seen (drop l.i l.ways))))
