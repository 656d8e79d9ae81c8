use Rattle.std.proofs.Common.{sym, subst}
use Rattle.thresholds.proofs.Ascending.{kept_marks, kept_same}
use Rattle.thresholds.proofs.lists.sorted.Goals as goal

pub new-requires : goal.new-requires
new-requires c =
    kept_marks c.args.ends.items c.sort.new.self.items c.dedup.new.self.items c.in-Ok.ensures.permutation c.in-Ok.ensures.sorted c.dedup.ensures.filtered c.requires

pub returns-in-Ok : goal.returns-in-Ok
returns-in-Ok c = subst (Rattle.thresholds.specs.Thresholds.AreInOrder c.args.ends.items) (sym c.new.ensures)
    (kept_same c.args.ends.items c.sort.new.self.items c.dedup.new.self.items c.in-Ok.ensures.permutation c.in-Ok.ensures.sorted c.dedup.ensures.filtered c.requires)
