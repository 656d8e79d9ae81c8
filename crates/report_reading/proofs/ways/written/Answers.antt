use Rattle.std.proofs.Common.{◌∙◌, ◌+◌, ap, map, sym, take}
use Rattle.std.specs.List.{flat_map}
use Rattle.std.proofs.lemmas.List.{take_all}
use Rattle.std.proofs.lemmas.List.Folds.{flat_map-map}
use Rattle.report_reading.specs.Ways.{way_line}
use Rattle.report_reading.specs.reading.Told.{way_seen}
use Rattle.report_reading.proofs.Lines.{line_more}
use Rattle.report_reading.proofs.ways.written.Goals as goal

pub loop-way-preserved : goal.loop-way-preserved
loop-way-preserved c =
    let ways = c.args.ways.now in
    let at = c.loop-way.way-index in
    line_more (λ w. way_line (way_seen w)) ways at _ _ _ c.loop-way-test.true
    (c.loop-way.invariant ∙ flat_map-map way_line way_seen (take at ways)) c.in_ok-push_way.ensures
    ∙ sym (flat_map-map way_line way_seen (take (at + 1) ways))

pub returns : goal.returns
returns c =
    c.loop-way.invariant
    ∙ ap (λ ways. flat_map way_line (map way_seen ways)) (take_all c.loop-way.way-index c.args.ways.now c.loop-way-test.false)
