use Rattle.std.proofs.Common.{◌≡◌, ◌+◌, ◌++◌, drop, map}
use Rattle.page_pieces.specs.Pieces.{page_text}
use Rattle.source_marks.specs.reading.Seen.{origin_seen}
use Rattle.report_pages.specs.Sources.{line_rows}
use Rattle.report_pages.specs.reading.Seen.{bytes_seen}
use Rattle.report_pages.proofs.sources.push_lines.Given as goal

abbrev pub invariant-loop-i : goal.invariant-loop-i
invariant-loop-i l =
    l.initial.page.items ++ page_text (line_rows 1 (map origin_seen l.origins) (map bytes_seen l.lines) (map bytes_seen l.remarks))
    ≡ l.page.items ++ page_text (line_rows (l.i + 1) (drop l.i (map origin_seen l.origins))
    (drop l.i (map bytes_seen l.lines)) (drop l.i (map bytes_seen l.remarks)))
