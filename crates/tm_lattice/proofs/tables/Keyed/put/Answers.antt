use Rattle.std.proofs.Common.{◌∙◌, subst, sym, ap}
use Rattle.std.proofs.lemmas.Bool.{false≢true}
use Rattle.std.specs.FinMap as map
use Rattle.std.specs.FinMap.{from_sorted}
use Rattle.tm_lattice.specs.reading.Listed.{IsListed}
use Rattle.tm_lattice.proofs.Writes.{write_listed, write_inserts, enter_listed, enter_inserts}
use Rattle.tm_lattice.proofs.tables.Keyed.put.Goals as goal

pub invariant_of-self : goal.invariant_of-self
invariant_of-self g c =
    let some : g.V.Lattice.nothing c.args.value → ⊥ = λ none. false≢true (c.if-is_nothing.ensures.nothing.1 none) in
    write_listed g.V.Lattice.is_value g.V.Lattice.nothing c.self.inside.entries.items c.self.invariant c.args.key c.args.value c.is_nothing.ensures.value some
    c.in-Ok.at (rw c.deref.ensures.value at c.in-Ok.ensures.found)

pub returns-in-Ok-clause-written : goal.returns-in-Ok-clause-written
returns-in-Ok-clause-written g c = λ some.
    write_inserts g.V.Lattice.is_value g.V.Lattice.nothing c.self.inside.entries.items c.self.invariant c.args.key c.args.value c.is_nothing.ensures.value some
    c.in-Ok.at (rw c.deref.ensures.value at c.in-Ok.ensures.found) ∙ ap (λ t. map.insert t c.args.key c.args.value) c.self.view_is

pub invariant_of-self-in-Continue-1 : goal.invariant_of-self-in-Continue-1
invariant_of-self-in-Continue-1 g c =
    let some : g.V.Lattice.nothing c.args.value → ⊥ = λ none. false≢true (c.if-is_nothing.ensures.nothing.1 none) in
    subst (IsListed g.V.Lattice.is_value g.V.Lattice.nothing) (sym c.in_ok-insert-in-Err.ensures.items)
    (enter_listed g.V.Lattice.is_value g.V.Lattice.nothing c.self.inside.entries.items c.self.invariant c.args.key c.args.value c.is_nothing.ensures.value some
    c.in-Err.at (rw c.deref.ensures.value at c.in-Err.ensures.absent))

pub returns-in_ok-insert-in-Err-clause-written : goal.returns-in_ok-insert-in-Err-clause-written
returns-in_ok-insert-in-Err-clause-written g c = λ some.
    ap from_sorted c.in_ok-insert-in-Err.ensures.items
    ∙ enter_inserts g.V.Lattice.is_value g.V.Lattice.nothing c.self.inside.entries.items c.self.invariant c.args.key c.args.value c.is_nothing.ensures.value some
    c.in-Err.at (rw c.deref.ensures.value at c.in-Err.ensures.absent) ∙ ap (λ t. map.insert t c.args.key c.args.value) c.self.view_is
