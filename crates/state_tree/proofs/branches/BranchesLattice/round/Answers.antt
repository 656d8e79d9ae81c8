use Rattle.std.proofs.Common.{◌∙◌, sym, subst, ap}
use Rattle.tm_lattice.specs.Tables.{rounded_table}
use Rattle.state_tree.specs.reading.Parts.{IsParted, together}
use Rattle.state_tree.proofs.Parting.{parted_rounded, together_rounded}
use Rattle.state_tree.proofs.branches.BranchesLattice.round.Goals as goal

pub invariant_of-result : goal.invariant_of-result
invariant_of-result g c = subst (IsParted 32) (sym c.in_ok-round.ensures) (parted_rounded 32 (g.V.Lattice.rounded c.args.marks.now) c.self.inside.parts c.self.invariant)

pub returns : goal.returns
returns g c =
    let round = g.V.Lattice.rounded c.args.marks.now in
    ap together c.in_ok-round.ensures ∙ together_rounded 32 round c.self.inside.parts c.self.invariant ∙ ap (rounded_table round) c.self.view_is
