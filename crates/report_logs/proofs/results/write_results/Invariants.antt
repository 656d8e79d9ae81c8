use Rattle.std.proofs.Common.{◌≡◌, ◌+◌, drop, length, map}
use Rattle.std.specs.Prelude.{string_bytes, sum}
use Rattle.serde_json.specs.Data.{array}
use Rattle.serde_json.specs.View.{items_of}
use Rattle.place_details.specs.reading.Seen.{bytes_seen}
use Rattle.report_views.specs.Shares.{cut}
use Rattle.report_views.specs.reading.Seen.{spot_seen}
use Rattle.report_logs.specs.Sarif.{result_data, told_of}
use Rattle.report_logs.specs.reading.Seen.{way_told_seen}
use Rattle.report_logs.specs.reading.Written.{Completes, last_tokens, value_tokens}
use Rattle.report_logs.proofs.results.write_results.Given as goal

abbrev pub invariant-loop-i : goal.invariant-loop-i
invariant-loop-i l =
    Completes l.fn.out l.out
    (value_tokens (array (items_of (map result_data (told_of (map spot_seen l.spots) l.details.regions.items
    (map bytes_seen l.details.functions.items) (map string_bytes l.details.fingerprints.items)
    (cut l.ways.counts.now (map way_told_seen l.ways.told.now)))))))
    (last_tokens (map result_data (told_of (map spot_seen (drop l.i l.spots)) (drop l.i l.details.regions.items)
    (map bytes_seen (drop l.i l.details.functions.items)) (map string_bytes (drop l.i l.details.fingerprints.items))
    (cut (drop l.i l.ways.counts.now) (drop l.start (map way_told_seen l.ways.told.now))))))
    × (l.start + sum (drop l.i l.ways.counts.now) ≡ length l.ways.told.now)
