use Rattle.std.proofs.Common.{drop, map}
use Rattle.serde_json.specs.Data.{array}
use Rattle.serde_json.specs.View.{items_of}
use Rattle.place_details.specs.reading.Seen.{bytes_seen}
use Rattle.report_logs.specs.Sarif.{artifact_data}
use Rattle.report_logs.specs.reading.Written.{Completes, last_tokens, value_tokens}
use Rattle.report_logs.proofs.sarif.write_artifacts.Given as goal

abbrev pub invariant-loop-i : goal.invariant-loop-i
invariant-loop-i l =
    Completes l.fn.out l.out (value_tokens (array (items_of (map artifact_data (map bytes_seen l.files)))))
    (last_tokens (map artifact_data (map bytes_seen (drop l.i l.files))))
