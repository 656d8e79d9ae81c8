use Rattle.std.proofs.Common.{refl}
use Rattle.certificate_texts.specs.StoreLines.{entry_lines}
use Rattle.certificate_texts.proofs.Adding.{stopped, no_lines, as_lines, lines_next, flat_map_all}
use Rattle.certificate_texts.proofs.pages.Page.push_set_entries.Goals as goal

pub returns-then-is_full : goal.returns-then-is_full
returns-then-is_full c = stopped c.args.self.now _ (c.is_full.ensures.0 c.if-is_full.true)

pub loop-cell-init : goal.loop-cell-init
loop-cell-init c = no_lines _ _ refl

pub loop-cell-preserved : goal.loop-cell-preserved
loop-cell-preserved c =
    lines_next (entry_lines c.args.letters.now c.args.task c.args.set) c.entries-cell-items.result.now c.loop-cell.cell-index c.loop-cell-item.result _ _ _ c.loop-cell-test.true
    c.loop-cell-item.is c.loop-cell.invariant c.in_ok-push_entry.ensures

pub returns : goal.returns
returns c =
    as_lines c.loop-cell.invariant (flat_map_all (entry_lines c.args.letters.now c.args.task c.args.set) c.entries-cell-items.result.now _ c.loop-cell.cell-index c.loop-cell-test.false
    c.entries-cell-items.ensures)
