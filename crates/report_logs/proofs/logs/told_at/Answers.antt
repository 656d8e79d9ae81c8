use Rattle.std.proofs.Common.{◌∙◌, ap, map, sym}
use Rattle.std.proofs.lemmas.List.{length-map}
use Rattle.place_details.specs.reading.Seen.{sight_seen}
use Rattle.report_reading.specs.reading.Told.{way_seen}
use Rattle.report_views.specs.reading.Seen.{spot_seen}
use Rattle.report_logs.proofs.ToldOnce.{as_many_regions}
use Rattle.report_logs.proofs.logs.told_at.Goals as goal

pub ways_told-requires-clause-regions : goal.ways_told-requires-clause-regions
ways_told-requires-clause-regions c =
    as_many_regions c.args.text.now c.args.lines.now (map way_seen c.args.ways.now) c.args.found.now
    (map spot_seen c.args.sites.now) (map sight_seen c.deref.result.now) c.deref-2.result.now c.requires.found
    (ap (map sight_seen) c.deref.ensures.value ∙ c.in_ok-sights.ensures)
    (c.deref-2.ensures.value ∙ c.in_ok-regions.ensures)
    (c.requires.sites ∙ sym (length-map c.args.sites.now spot_seen))
    ∙ length-map c.args.ways.now way_seen
