use Rattle.std.proofs.Common.{◌∙◌, ap, map}
use Rattle.place_details.specs.reading.Seen.{sight_seen}
use Rattle.report_views.specs.reading.Seen.{spot_seen}
use Rattle.report_logs.specs.reading.Seen.{way_told_seen}
use Rattle.report_logs.proofs.LogFound.{if_ok_by, written_of}
use Rattle.report_logs.proofs.ToldOnce.{as_many_told}
use Rattle.report_logs.proofs.logs.written.Goals as goal

pub sarif_log-requires : goal.sarif_log-requires
sarif_log-requires c =
    record {
      details = as_many_told _ _ _ c.args.findings.now c.args.spots.now (map sight_seen c.deref-2.result.now) _ _ _
          c.in_ok-details.ensures (ap (map sight_seen) c.deref-2.ensures.value ∙ c.in_ok-sights.ensures) c.requires.spots;
      ways = c.requires.ways;
    }

pub returns : goal.returns
returns c =
    if_ok_by _ _ c.sarif_log.result c.sarif_log.ensures
    (λ log. λ is. λ list. λ told. written_of c.args.frame.documents.now c.args.frame.folder.now c.args.frame.name.now
    c.args.frame.text.now c.args.frame.lines.now c.deref-3.result.now c.deref.result.now c.deref-4.result.now
    c.args.findings.now list c.args.ways.counts.now (map spot_seen c.args.spots.now) (map spot_seen c.args.sites.now)
    (map sight_seen c.deref-2.result.now) _ _ _ (map way_told_seen c.args.ways.told.now) log.items
    (c.deref-3.ensures.value ∙ c.in_ok-documents.ensures) (c.deref.ensures.value ∙ c.in_ok-folder.ensures)
    (c.deref-4.ensures.value ∙ c.in_ok-name.ensures)
    (ap (map sight_seen) c.deref-2.ensures.value ∙ c.in_ok-sights.ensures) c.in_ok-details.ensures told is)
