use Rattle.std.proofs.Common.{◌≡◌, ◌++◌, drop, map}
use Rattle.page_pieces.specs.Pieces.{page_text}
use Rattle.report_views.specs.reading.Seen.{spot_seen}
use Rattle.report_pages.specs.Rows.{alarm_rows}
use Rattle.report_pages.specs.reading.Seen.{bytes_seen}
use Rattle.report_pages.proofs.rows.push_alarms.Given as goal

abbrev pub invariant-loop-i : goal.invariant-loop-i
invariant-loop-i l =
    l.initial.page.items ++ page_text (alarm_rows l.findings (map spot_seen l.spots) (map bytes_seen l.notes))
    ≡ l.page.items ++ page_text (alarm_rows (drop l.i l.findings) (drop l.i (map spot_seen l.spots))
    (drop l.i (map bytes_seen l.notes)))
