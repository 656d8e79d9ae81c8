use Rattle.std.proofs.Common.{◌∙◌, sym, subst}
use Rattle.tm_lattice.specs.Tables.{IsTable}
use Rattle.state_tree.proofs.Parting.{together_is, together_none, together_some, have_parts}
use Rattle.state_tree.proofs.trees.TreeLattice.is_nothing.Goals as goal

pub returns-clause-value : goal.returns-clause-value
returns-clause-value g c = subst (IsTable g.V.Lattice.is_value g.V.Lattice.nothing) c.self.view_is
    (together_is 8 g.V.Lattice.is_value g.V.Lattice.nothing c.self.inside.parts c.self.invariant c.is_nothing.ensures.value)

pub returns-clause-nothing : goal.returns-clause-nothing
returns-clause-nothing g c =
    let parts = have_parts g.V.Lattice.is_value g.V.Lattice.nothing c.self.inside.parts c.is_nothing.ensures.value in (
      λ yes. sym c.self.view_is ∙ together_some 8 c.self.inside.parts (c.is_nothing.ensures.nothing.0 yes),
      λ none. c.is_nothing.ensures.nothing.1 (together_none 8 c.self.inside.parts c.self.invariant parts (c.self.view_is ∙ none)),
    )
