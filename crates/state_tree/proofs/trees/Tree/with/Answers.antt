use Rattle.state_tree.proofs.Parting.{with_parted, with_nothing, with_written}
use Rattle.state_tree.proofs.trees.Tree.with.Goals as goal

pub invariant_of-result : goal.invariant_of-result
invariant_of-result g c = with_parted 8 c.self.inside.parts c.in_ok-others.others c.in_ok-parts.parts c.args.self c.args.key c.part_of.result c.part_of-2.result
    c.in_ok-part.part c.put.new.self c.self.invariant c.self.view_is c.part_of.ensures.value c.part_of-2.ensures.value c.in_ok-part.ensures
    c.in_ok-others.ensures c.in_ok-parts.ensures.nothing c.in_ok-parts.ensures.written
    (g.V.Lattice.nothing c.args.value) c.args.value c.in_ok-put.ensures.nothing c.in_ok-put.ensures.written

pub returns-clause-nothing : goal.returns-clause-nothing
returns-clause-nothing g c = with_nothing 8 c.self.inside.parts c.in_ok-others.others c.in_ok-parts.parts c.args.self c.args.key c.part_of.result c.part_of-2.result
    c.in_ok-part.part c.put.new.self c.self.invariant c.self.view_is c.part_of.ensures.value c.part_of-2.ensures.value c.in_ok-part.ensures
    c.in_ok-others.ensures c.in_ok-parts.ensures.nothing c.in_ok-parts.ensures.written
    (g.V.Lattice.nothing c.args.value) c.args.value c.in_ok-put.ensures.nothing c.in_ok-put.ensures.written

pub returns-clause-written : goal.returns-clause-written
returns-clause-written g c = with_written 8 c.self.inside.parts c.in_ok-others.others c.in_ok-parts.parts c.args.self c.args.key c.part_of.result c.part_of-2.result
    c.in_ok-part.part c.put.new.self c.self.invariant c.self.view_is c.part_of.ensures.value c.part_of-2.ensures.value c.in_ok-part.ensures
    c.in_ok-others.ensures c.in_ok-parts.ensures.nothing c.in_ok-parts.ensures.written
    (g.V.Lattice.nothing c.args.value) c.args.value c.in_ok-put.ensures.nothing c.in_ok-put.ensures.written
