use Rattle.state_tree.proofs.Parting.{parted_by, removed_by}
use Rattle.state_tree.proofs.trees.Tree.remove.Goals as goal

pub invariant_of-self : goal.invariant_of-self
invariant_of-self g c = parted_by 8 c.self.inside.parts c.put.new.self c.args.self.now c.args.key c.part_of.result c.in_ok-part.part c.remove.new.self c.self.invariant c.self.view_is
    c.part_of.ensures.value c.in_ok-part.ensures c.in_ok-remove.ensures.ok c.put.result c.put.ensures.nothing c.put.ensures.written c.put.ensures.err

pub returns-clause-ok : goal.returns-clause-ok
returns-clause-ok g c = removed_by 8 c.self.inside.parts c.put.new.self c.args.self.now c.args.key c.part_of.result c.in_ok-part.part c.remove.new.self c.self.invariant c.self.view_is
    c.part_of.ensures.value c.in_ok-part.ensures c.in_ok-remove.ensures.ok c.put.result c.put.ensures.nothing c.put.ensures.written
