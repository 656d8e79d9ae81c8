use Rattle.std.proofs.Common.{refl, arith}
use Rattle.certificate_texts.specs.reading.Pages.{entries_of, kind_lines}
use Rattle.certificate_texts.proofs.Adding.{no_lines, as_lines, lines_next, flat_map_all}
use Rattle.certificate_texts.proofs.Listing.{listed_entry, listed_count}
use Rattle.certificate_texts.proofs.pages.Page.push_kind.Goals as goal

pub loop-of_cell-init : goal.loop-of_cell-init
loop-of_cell-init c = no_lines _ _ refl

pub loop-of_cell-preserved : goal.loop-of_cell-preserved
loop-of_cell-preserved c =
    let cells = c.args.cells.now in
    let at = listed_entry cells c.loop-of_cell.of_cell-index c.of_cell-item.result c.loop-of_cell-test.true
    c.of_cell-item.is in
    lines_next (kind_lines c.args.kind) (entries_of cells) c.loop-of_cell.of_cell-index _ _ _ _ at.0 at.1
    c.loop-of_cell.invariant c.in_ok-push_about.ensures

pub returns : goal.returns
returns c =
    let cells = c.args.cells.now in
    let size = listed_count cells in
    let all = c.loop-of_cell-test.false in
    as_lines c.loop-of_cell.invariant (flat_map_all (kind_lines c.args.kind) (entries_of cells) (entries_of cells)
    c.loop-of_cell.of_cell-index (omega (arith, size, all)) refl)
