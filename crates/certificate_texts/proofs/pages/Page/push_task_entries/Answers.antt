use Rattle.std.proofs.Common.{refl}
use Rattle.certificate_texts.specs.StoreLines.{set_lines}
use Rattle.certificate_texts.proofs.Adding.{no_lines, as_lines, lines_next, flat_map_all}
use Rattle.certificate_texts.proofs.pages.Page.push_task_entries.Goals as goal

pub loop-set-init : goal.loop-set-init
loop-set-init c = no_lines _ _ refl

pub loop-set-preserved : goal.loop-set-preserved
loop-set-preserved c =
    lines_next (set_lines c.args.letters.now c.args.task) c.entries-set-items.result.now c.loop-set.set-index c.loop-set-item.result _ _ _ c.loop-set-test.true
    c.loop-set-item.is c.loop-set.invariant c.in_ok-push_set_entries.ensures

pub returns : goal.returns
returns c =
    as_lines c.loop-set.invariant (flat_map_all (set_lines c.args.letters.now c.args.task) c.entries-set-items.result.now _ c.loop-set.set-index c.loop-set-test.false
    c.entries-set-items.ensures)
