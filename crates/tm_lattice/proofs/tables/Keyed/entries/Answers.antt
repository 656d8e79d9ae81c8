use Rattle.std.proofs.Common.{◌∙◌, sym, ap}
use Rattle.std.specs.Ordering.{nat_cmp}
use Rattle.std.specs.FinMap.{entries, entries-from_sorted}
use Rattle.tm_lattice.proofs.tables.Keyed.entries.Goals as goal

pub returns : goal.returns
returns g c = c.deref.ensures.value ∙ sym (entries-from_sorted nat_cmp c.self.inside.entries.items c.self.invariant.sorted) ∙ ap entries c.self.view_is
