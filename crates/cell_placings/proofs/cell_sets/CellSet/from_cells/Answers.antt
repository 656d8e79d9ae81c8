use Rattle.cell_placings.proofs.Members.{is_rising, same_cells}
use Rattle.cell_placings.proofs.cell_sets.CellSet.from_cells.Goals as goal

pub invariant_of-result : goal.invariant_of-result
invariant_of-result c =
    is_rising c.args.cells.items c.sort_unstable.new.self.items c.dedup.new.self.items
    c.sort_unstable.ensures.permutation c.sort_unstable.ensures.sorted c.dedup.ensures.filtered

pub returns : goal.returns
returns c =
    same_cells c.args.cells.items c.sort_unstable.new.self.items c.dedup.new.self.items
    c.sort_unstable.ensures.permutation c.sort_unstable.ensures.sorted c.dedup.ensures.filtered
