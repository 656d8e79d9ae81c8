use Rattle.std.proofs.Common.{refl, ap, ◌∙◌}
use Rattle.std.specs.FinMap.{entries}
use Rattle.certificate_texts.specs.StateLines.{copy_lines}
use Rattle.certificate_texts.proofs.Adding.{no_lines, as_lines, lines_next, flat_map_all}
use Rattle.certificate_texts.proofs.pages.Page.push_copies.Goals as goal

pub loop-temp-init : goal.loop-temp-init
loop-temp-init c = no_lines _ _ refl

pub loop-temp-preserved : goal.loop-temp-preserved
loop-temp-preserved c =
    lines_next copy_lines c.entries-temp-items.result.now c.loop-temp.temp-index c.loop-temp-item.result _ _ _ c.loop-temp-test.true
    c.loop-temp-item.is c.loop-temp.invariant c.in_ok-push_copy.ensures

pub returns : goal.returns
returns c =
    as_lines c.loop-temp.invariant (flat_map_all copy_lines c.entries-temp-items.result.now _ c.loop-temp.temp-index
    c.loop-temp-test.false (c.entries-temp-items.ensures ∙ ap entries c.temps.ensures))
