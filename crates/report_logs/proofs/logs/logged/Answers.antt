use Rattle.std.proofs.Common.{rules, arith, ◌≡◌, ◌∙◌, ap, length, map, sym}
use Rattle.std.proofs.lemmas.Grind.{common_steps}
use Rattle.std.proofs.lemmas.List.{length-map}
use Rattle.source_marks.specs.reading.Seen.{origin_seen}
use Rattle.report_reading.specs.reading.Told.{way_seen}
use Rattle.report_views.specs.Shares.{site_of}
use Rattle.report_views.specs.reading.Seen.{spot_seen}
use Rattle.report_logs.specs.reading.Seen.{way_told_seen}
use Rattle.report_logs.proofs.LogFound.{misplaced_behind, misplaced_in_front}
use Rattle.report_logs.proofs.ToldOnce.{as_many_sites, as_many_spots, as_many_told_at}
use Rattle.report_logs.proofs.logs.logged.Goals as goal

pub returns-in_err-spots-clause-refused : goal.returns-in_err-spots-clause-refused
returns-in_err-spots-clause-refused c =
    λ cause e. misplaced_in_front (map origin_seen c.args.origins.now) c.args.findings.now
    (map site_of (map way_seen c.args.ways.now)) cause
    (first_of (search rules, grind (arith, common_steps)))

pub returns-in_err-sited-clause-refused : goal.returns-in_err-sited-clause-refused
returns-in_err-sited-clause-refused c =
    λ cause e. misplaced_behind (map origin_seen c.args.origins.now) c.args.findings.now
    (map site_of (map way_seen c.args.ways.now)) cause
    (first_of (search rules, grind (arith, common_steps)))

pub written-requires-clause-spots : goal.written-requires-clause-spots
written-requires-clause-spots c =
    sym (as_many_spots (map origin_seen c.args.origins.now) c.args.findings.now
    (map spot_seen c.in_ok-spots.spots.items) c.in_ok-spots.ensures.ok)
    ∙ length-map c.in_ok-spots.spots.items spot_seen ∙ ap length (sym c.deref-2.ensures.value)

pub written-requires-clause-ways : goal.written-requires-clause-ways
written-requires-clause-ways c =
    let spots : length c.args.findings.now ≡ length c.deref-2.result.now =
    sym (as_many_spots (map origin_seen c.args.origins.now) c.args.findings.now
    (map spot_seen c.in_ok-spots.spots.items) c.in_ok-spots.ensures.ok)
    ∙ length-map c.in_ok-spots.spots.items spot_seen ∙ ap length (sym c.deref-2.ensures.value) in
    let told : length c.deref.result.now ≡ length c.args.ways.now =
    ap length c.deref.ensures.value ∙ sym (length-map c.in_ok-sited.sited.told.items way_told_seen)
    ∙ ap length c.in_ok-sited.ensures.told
    ∙ as_many_told_at c.args.frame.text.now c.args.frame.lines.now (map way_seen c.args.ways.now)
    (map spot_seen c.in_ok-sited.sited.spots.items)
    (as_many_sites (map origin_seen c.args.origins.now) (map way_seen c.args.ways.now)
    (map spot_seen c.in_ok-sited.sited.spots.items) c.in_ok-sited.ensures.placed)
    ∙ length-map c.args.ways.now way_seen in
    record { of_counts = c.requires.of_counts ∙ spots; of_told = c.requires.of_told ∙ sym told }
