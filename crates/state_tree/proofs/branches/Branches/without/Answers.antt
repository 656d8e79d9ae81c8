use Rattle.state_tree.proofs.Parting.{without_parted, without_removed}
use Rattle.state_tree.proofs.branches.Branches.without.Goals as goal

pub invariant_of-result : goal.invariant_of-result
invariant_of-result g c = without_parted 32 c.self.inside.parts c.remove.new.self c.put.new.self c.args.self c.args.key c.part_of.result c.part_of-2.result
    c.in_ok-part.part c.remove-2.new.self c.self.invariant c.self.view_is c.part_of.ensures.value c.part_of-2.ensures.value c.in_ok-part.ensures
    c.in_ok-remove.ensures.ok c.in_ok-put.ensures.nothing c.in_ok-put.ensures.written c.in_ok-remove-2.ensures.ok

pub returns : goal.returns
returns g c = without_removed 32 c.self.inside.parts c.remove.new.self c.put.new.self c.args.self c.args.key c.part_of.result c.part_of-2.result
    c.in_ok-part.part c.remove-2.new.self c.self.invariant c.self.view_is c.part_of.ensures.value c.part_of-2.ensures.value c.in_ok-part.ensures
    c.in_ok-remove.ensures.ok c.in_ok-put.ensures.nothing c.in_ok-put.ensures.written c.in_ok-remove-2.ensures.ok
