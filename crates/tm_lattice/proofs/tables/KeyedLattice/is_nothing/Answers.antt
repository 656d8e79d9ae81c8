use Rattle.std.proofs.Common.{◌≡◌, ◌∙◌, length, sym, subst, eq-eqb, eqb-true}
use Rattle.tm_lattice.specs.Tables.{IsTable}
use Rattle.tm_lattice.proofs.Edits.{table_of, empty_of, length_of_empty}
use Rattle.tm_lattice.proofs.tables.KeyedLattice.is_nothing.Goals as goal

pub returns-clause-value : goal.returns-clause-value
returns-clause-value g c =
    subst (IsTable g.V.Lattice.is_value g.V.Lattice.nothing) c.self.view_is (table_of g.V.Lattice.is_value g.V.Lattice.nothing c.self.inside.entries.items c.self.invariant)

-- the list is empty exactly where the map is
pub returns-clause-nothing : goal.returns-clause-nothing
returns-clause-nothing g c =
    let items = c.self.inside.entries.items in
    let len : length items ≡ c.self.inside.entries.len = sym c.self.inside.entries.ok.0 in (
      (λ empty.
          let none : length items ≡ 0 = len ∙ eqb-true _ 0 (sym c.is_empty.ensures ∙ empty) in
          sym c.self.view_is ∙ empty_of items c.self.invariant.sorted none),
      (λ empty. c.is_empty.ensures ∙ eq-eqb _ 0 (sym len ∙ length_of_empty items c.self.invariant.sorted (c.self.view_is ∙ empty))),
    )
