use Rattle.std.proofs.Common.{refl, arith, true}
use Rattle.cell_placings.specs.CellLists.{is_in}
use Rattle.cell_placings.proofs.Checking.{all_members}
use Rattle.slot_numbers.proofs.checks.are_among.Goals as goal

pub returns : goal.returns
returns c =
    all_members (λ x. is_in c.args.cells.now x) c.args.listed.now true refl (λ k lt. c.loop-cell.invariant k (omega arith))
