use Rattle.std.proofs.Common.{◌∙◌, ◌++◌, ap}
use Rattle.std.specs.List.{flat_map}
use Rattle.std.proofs.lemmas.List.{take_all}
use Rattle.report_reading.specs.Assumptions.{assumption_line}
use Rattle.report_reading.proofs.Lines.{line_more}
use Rattle.report_reading.proofs.assumptions.written.Goals as goal

pub loop-assumption-preserved : goal.loop-assumption-preserved
loop-assumption-preserved c =
    line_more assumption_line c.args.list.now c.loop-assumption.assumption-index _ _ _ c.loop-assumption-test.true
    c.loop-assumption.invariant c.in_ok-push_assumption.ensures

pub returns : goal.returns
returns c =
    let list = c.args.list.now in
    c.in_ok-extend_from_slice.ensures.items
    ∙ ap (λ t. t ++ c.as_bytes.result.now)
    (c.loop-assumption.invariant
    ∙ ap (flat_map assumption_line) (take_all c.loop-assumption.assumption-index list c.loop-assumption-test.false))
    ∙ ap (λ t. flat_map assumption_line list ++ t) (c.as_bytes.ensures.value ∙ c.in_ok-number.ensures)
