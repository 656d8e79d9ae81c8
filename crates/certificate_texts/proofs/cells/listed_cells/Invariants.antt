use Rattle.std.proofs.Common.{◌≡◌, ◌++◌, ◌-◌, ◌^◌}
use Rattle.std.specs.FinMap.{entries}
use Rattle.certificate_texts.specs.reading.Pages.{entries_of}
use Rattle.certificate_texts.proofs.Walking.{from_key}
use Rattle.certificate_texts.proofs.cells.listed_cells.Given as goal

-- with the cells from the next one on, all are listed
abbrev pub invariant-cells : goal.invariant-cells
invariant-cells l = entries_of l.listed.items ++ from_key l.from (entries l.cells) ≡ entries l.cells

abbrev pub decreases-cells : goal.decreases-cells
decreases-cells l = 2 ^ 32 - l.from
