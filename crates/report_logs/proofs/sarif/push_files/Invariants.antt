use Rattle.std.proofs.Common.{◌≡◌, ◌++◌, map, take}
use Rattle.std.specs.Prelude.{string_bytes}
use Rattle.report_views.specs.reading.Seen.{spot_seen}
use Rattle.report_logs.specs.Sarif.{file_of}
use Rattle.report_logs.proofs.sarif.push_files.Given as goal

abbrev pub invariant-loop-spot : goal.invariant-loop-spot
invariant-loop-spot l =
    map string_bytes l.files.items
    ≡ map string_bytes l.initial.files.items ++ map file_of (map spot_seen (take l.spot-index l.spots))
