use Rattle.std.proofs.Common.{◌∙◌, ap, length, map, sym}
use Rattle.std.proofs.lemmas.List.{length-map}
use Rattle.source_marks.specs.reading.Seen.{origin_seen}
use Rattle.report_views.specs.reading.Seen.{spot_seen}
use Rattle.report_logs.proofs.ToldOnce.{as_many_spots}
use Rattle.report_logs.proofs.logs.sited.Goals as goal

pub told_at-requires-clause-sites : goal.told_at-requires-clause-sites
told_at-requires-clause-sites c =
    ap length (c.deref-2.ensures.value ∙ sym c.deref.ensures.value)
    ∙ sym (as_many_spots (map origin_seen c.args.origins.now) c.deref.result.now
    (map spot_seen c.in_ok-sites.sites.items) c.in_ok-sites.ensures.ok)
    ∙ length-map c.in_ok-sites.sites.items spot_seen ∙ ap length (sym c.deref-3.ensures.value)
