use Rattle.std.proofs.Common.{map, take}
use Rattle.std.specs.Prelude.{string_bytes}
use Rattle.report_logs.specs.Uris.{distinct}
use Rattle.report_logs.specs.reading.Seen.{HasFiles}
use Rattle.report_logs.proofs.sarif.distinct_of.Given as goal

abbrev pub invariant-loop-file : goal.invariant-loop-file
invariant-loop-file l = HasFiles (distinct (take l.file-index (map string_bytes l.files))) l.found.items l.seen
