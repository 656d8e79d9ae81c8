use Rattle.std.proofs.Common.{◌≡◌, ◌≢◌, sym, subst}
use Rattle.std.specs.Bool.{MatchBool}
use Rattle.state_tree.specs.reading.Parts.{together}
use Rattle.state_tree.proofs.Parting.{joined_parted, joined_raised, joined_rose, joined_stays}
use Rattle.state_tree.proofs.trees.Tree.join_at.Goals as goal

pub invariant_of-self : goal.invariant_of-self
invariant_of-self g c = joined_parted 8 g.V.Lattice.joined c.self.inside.parts c.args.self.now c.args.key c.in_ok-part.part c.join_at.new.self c.self.invariant c.self.view_is
    c.in_ok-part.ensures (g.V.Lattice.nothing c.args.value.now) c.args.value.now c.in_ok-rose.ensures.nothing c.in_ok-rose.ensures.joined
    c.put.new.self c.part_of.result c.part_of.ensures.value c.put.result c.put.ensures.nothing c.put.ensures.written c.put.ensures.err

pub returns-in_ok-put-clause-joined : goal.returns-in_ok-put-clause-joined
returns-in_ok-put-clause-joined g c = joined_raised 8 g.V.Lattice.joined c.self.inside.parts c.args.self.now c.args.key c.in_ok-part.part c.join_at.new.self c.self.invariant c.self.view_is
    c.in_ok-part.ensures (g.V.Lattice.nothing c.args.value.now) c.args.value.now c.in_ok-rose.ensures.nothing c.in_ok-rose.ensures.joined
    c.put.new.self c.part_of.result c.part_of.ensures.value c.in_ok-put.ensures.nothing c.in_ok-put.ensures.written

pub returns-in_ok-put-clause-rose : goal.returns-in_ok-put-clause-rose
returns-in_ok-put-clause-rose g c =
    let rose = joined_rose 8 g.V.Lattice.joined c.self.inside.parts c.args.self.now c.args.key c.in_ok-part.part c.join_at.new.self c.self.invariant c.self.view_is
    c.in_ok-part.ensures (g.V.Lattice.nothing c.args.value.now) c.args.value.now c.in_ok-rose.ensures.nothing c.in_ok-rose.ensures.joined
    c.put.new.self c.part_of.result c.part_of.ensures.value c.in_ok-put.ensures.nothing c.in_ok-put.ensures.written in
    subst (λ b. MatchBool b (together c.put.new.self ≢ c.args.self.now) (together c.put.new.self ≡ c.args.self.now)) (sym c.if-rose.true)
    (rose (subst (λ b. MatchBool b (c.join_at.new.self ≢ c.in_ok-part.part) (c.join_at.new.self ≡ c.in_ok-part.part)) c.if-rose.true c.in_ok-rose.ensures.rose))

pub returns-else-rose-clause-joined : goal.returns-else-rose-clause-joined
returns-else-rose-clause-joined g c = joined_stays 8 g.V.Lattice.joined c.self.inside.parts c.args.self.now c.args.key c.in_ok-part.part c.join_at.new.self c.self.invariant c.self.view_is
    c.in_ok-part.ensures (g.V.Lattice.nothing c.args.value.now) c.args.value.now c.in_ok-rose.ensures.nothing c.in_ok-rose.ensures.joined
    (subst (λ b. MatchBool b (c.join_at.new.self ≢ c.in_ok-part.part) (c.join_at.new.self ≡ c.in_ok-part.part)) c.if-rose.false c.in_ok-rose.ensures.rose)
