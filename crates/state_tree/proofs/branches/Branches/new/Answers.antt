use Rattle.std.proofs.Common.{◌∙◌, sym, ap, subst}
use Rattle.state_tree.specs.reading.Parts.{IsParted, together}
use Rattle.state_tree.proofs.Parting.{parted_empty, together_empty}
use Rattle.state_tree.proofs.branches.Branches.new.Goals as goal

pub invariant_of-result : goal.invariant_of-result
invariant_of-result g c = subst (IsParted 32) (sym c.new.ensures) (parted_empty 32)

pub returns : goal.returns
returns g c = ap together c.new.ensures ∙ together_empty 32
