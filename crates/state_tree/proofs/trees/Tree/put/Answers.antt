use Rattle.state_tree.proofs.Parting.{put_parted, put_nothing, put_written}
use Rattle.state_tree.proofs.trees.Tree.put.Goals as goal

pub invariant_of-self : goal.invariant_of-self
invariant_of-self g c = put_parted 8 c.self.inside.parts c.put-2.new.self c.args.self.now c.args.key c.part_of.result c.in_ok-part.part c.put.new.self c.self.invariant c.self.view_is
    c.part_of.ensures.value c.in_ok-part.ensures (g.V.Lattice.nothing c.args.value) c.args.value c.in_ok-put.ensures.nothing c.in_ok-put.ensures.written
    c.put-2.result c.put-2.ensures.nothing c.put-2.ensures.written c.put-2.ensures.err

pub returns-clause-nothing : goal.returns-clause-nothing
returns-clause-nothing g c = put_nothing 8 c.self.inside.parts c.put-2.new.self c.args.self.now c.args.key c.part_of.result c.in_ok-part.part c.put.new.self c.self.invariant c.self.view_is
    c.part_of.ensures.value c.in_ok-part.ensures (g.V.Lattice.nothing c.args.value) c.args.value c.in_ok-put.ensures.nothing c.in_ok-put.ensures.written
    c.put-2.result c.put-2.ensures.nothing c.put-2.ensures.written

pub returns-clause-written : goal.returns-clause-written
returns-clause-written g c = put_written 8 c.self.inside.parts c.put-2.new.self c.args.self.now c.args.key c.part_of.result c.in_ok-part.part c.put.new.self c.self.invariant c.self.view_is
    c.part_of.ensures.value c.in_ok-part.ensures (g.V.Lattice.nothing c.args.value) c.args.value c.in_ok-put.ensures.nothing c.in_ok-put.ensures.written
    c.put-2.result c.put-2.ensures.nothing c.put-2.ensures.written
