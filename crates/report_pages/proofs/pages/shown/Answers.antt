use Rattle.std.proofs.Common.{◌∙◌, ap, length, map, sym}
use Rattle.std.proofs.lemmas.List.{length-map}
use Rattle.source_marks.specs.reading.Seen.{origin_seen}
use Rattle.report_views.specs.reading.Seen.{spot_seen}
use Rattle.report_pages.proofs.Found.{as_many_spots}
use Rattle.report_pages.proofs.pages.shown.Goals as goal

pub written-requires : goal.written-requires
written-requires c =
    sym (as_many_spots (map origin_seen c.args.origins.now) c.args.findings.now (map spot_seen c.in_ok-spots.spots.items)
    c.in_ok-spots.ensures.ok)
    ∙ length-map c.in_ok-spots.spots.items spot_seen ∙ ap length (sym c.deref.ensures.value)
