use Rattle.std.proofs.Common.{◌≡◌, ◌∙◌, ap, subst, sym}
use Rattle.std.specs.FinMap.{from_sorted}
use Rattle.std.proofs.lemmas.List.{take_all}
use Rattle.tm_lattice.specs.Tables.{rounded_entries, rounded_table}
use Rattle.tm_lattice.specs.reading.Listed.{IsListed}
use Rattle.tm_lattice.proofs.Edits.{rounded_listed, rounded_is}
use Rattle.tm_lattice.proofs.tables.KeyedLattice.round.Given.{Over}
use Rattle.tm_lattice.proofs.tables.KeyedLattice.round.Goals as goal
use Rattle.tm_lattice.proofs.tables.KeyedLattice.round.Goals.{After-loop-key}

all_rounded : (g : Over) (c : After-loop-key g) → c.loop-key.entries.items ≡ rounded_entries (g.V.Lattice.rounded c.args.marks.now) c.self.inside.entries.items
all_rounded g c =
    c.loop-key.invariant
    ∙ ap (rounded_entries (g.V.Lattice.rounded c.args.marks.now)) (take_all c.loop-key.key-index c.deref-key-items.result.now c.loop-key-test.false ∙ c.deref-key-items.ensures.value)

pub invariant_of-result : goal.invariant_of-result
invariant_of-result g c =
    let met = g.met.V.Lattice in
    subst (IsListed g.V.Lattice.is_value g.V.Lattice.nothing) (sym (all_rounded g c))
    (rounded_listed g.V.Lattice met.order met.join_laws met.closure met.nothing_laws c.args.marks.now c.self.inside.entries.items c.requires c.self.invariant)

pub returns : goal.returns
returns g c =
    let met = g.met.V.Lattice in
    ap from_sorted (all_rounded g c)
    ∙ rounded_is g.V.Lattice met.order met.join_laws met.closure met.nothing_laws c.args.marks.now c.self.inside.entries.items c.self.invariant
    ∙ ap (rounded_table (g.V.Lattice.rounded c.args.marks.now)) c.self.view_is
