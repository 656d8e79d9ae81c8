use Rattle.std.proofs.Common.{ap}
use Rattle.std.specs.FinMap.{entries}
use Rattle.std.specs.List.{flat_map}
use Rattle.std.proofs.lemmas.Result.{on_ok_weaker}
use Rattle.certificate_texts.specs.StateLines.{copy_lines}
use Rattle.certificate_texts.specs.reading.CellLines.{cells_lines}
use Rattle.certificate_texts.specs.reading.Pages.{HasLines}
use Rattle.certificate_texts.proofs.Adding.{as_lines, lines_then}
use Rattle.certificate_texts.proofs.Listing.{of_cells}
use Rattle.certificate_texts.proofs.pages.Page.push_state.Goals as goal

pub returns : goal.returns
returns c =
    let s = c.args.state.now in
    let cells = as_lines c.in_ok-push_cells_again.ensures (ap cells_lines c.cells.ensures) in
    on_ok_weaker c.push_copies.result
    (λ (h : HasLines c.push_cells_again.new.self c.push_copies.new.self (flat_map copy_lines (entries s.temps))).
    as_lines (lines_then c.in_ok-push_temps.ensures (lines_then cells h)) (of_cells s)) c.push_copies.ensures
