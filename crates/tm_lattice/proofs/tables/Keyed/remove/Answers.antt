use Rattle.std.proofs.Common.{◌∙◌, subst, sym, ap}
use Rattle.std.specs.FinMap as map
use Rattle.std.specs.FinMap.{from_sorted}
use Rattle.tm_lattice.specs.reading.Listed.{IsListed}
use Rattle.tm_lattice.proofs.Writes.{remove_listed, remove_removes, absent_removes}
use Rattle.tm_lattice.proofs.tables.Keyed.remove.Goals as goal

pub invariant_of-self : goal.invariant_of-self
invariant_of-self g c =
    subst (IsListed g.V.Lattice.is_value g.V.Lattice.nothing) (sym c.remove-gone.ensures.items)
    (remove_listed g.V.Lattice.is_value g.V.Lattice.nothing c.self.inside.entries.items c.args.key c.in-Ok.at c.self.invariant (rw c.deref.ensures.value at c.in-Ok.ensures.found))

pub returns-in-Ok : goal.returns-in-Ok
returns-in-Ok g c =
    ap from_sorted c.remove-gone.ensures.items
    ∙ remove_removes c.self.inside.entries.items c.args.key c.in-Ok.at c.self.invariant.sorted (rw c.deref.ensures.value at c.in-Ok.ensures.found) ∙ ap (λ t. map.remove t c.args.key) c.self.view_is

pub returns-in_default : goal.returns-in_default
returns-in_default g c =
    let told = c.in_default.ensures in
    sym c.self.view_is ∙ absent_removes c.self.inside.entries.items c.args.key c.in_default.field-0 c.self.invariant.sorted (rw c.deref.ensures.value at told.absent) ∙ ap (λ t. map.remove t c.args.key) c.self.view_is
