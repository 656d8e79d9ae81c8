use Rattle.std.proofs.Common.{sym, ap}
use Rattle.report_pages.specs.Rows.{first_of}
use Rattle.report_pages.specs.reading.Seen.{bytes_seen}
use Rattle.report_pages.proofs.Steps.{item_at}
use Rattle.report_pages.proofs.lines.line_at.Goals as goal

pub returns-then-index-lines : goal.returns-then-index-lines
returns-then-index-lines c =
    sym (ap first_of (item_at bytes_seen c.args.lines.now c.args.index _ c.if-index-lines.true))
