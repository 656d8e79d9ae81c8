use Rattle.std.proofs.Common.{◌∙◌, sym, subst, ap}
use Rattle.tm_lattice.specs.Tables.{joined_table}
use Rattle.state_tree.specs.reading.Parts.{IsParted, together}
use Rattle.state_tree.proofs.Parting.{parted_joined, together_both}
use Rattle.state_tree.proofs.trees.TreeLattice.join.Goals as goal

pub invariant_of-result : goal.invariant_of-result
invariant_of-result g c = subst (IsParted 8) (sym c.in_ok-join.ensures) (parted_joined 8 g.V.Lattice.joined c.self.inside.parts c.other.inside.parts c.self.invariant c.other.invariant)

pub returns : goal.returns
returns g c =
    let join = g.V.Lattice.joined in
    ap together c.in_ok-join.ensures ∙ together_both 8 join c.self.inside.parts c.other.inside.parts c.self.invariant c.other.invariant
    ∙ ap (λ s. joined_table join s (together c.other.inside.parts)) c.self.view_is ∙ ap (joined_table join c.args.self.now) c.other.view_is
