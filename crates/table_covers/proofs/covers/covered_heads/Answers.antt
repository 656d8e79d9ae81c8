use Rattle.std.proofs.Common.{◌≡◌, ◌↔◌, ◌<◌, ◌∙◌, ℕ, Bool, true, IsTrue, ap, subst, length, arith}
use Rattle.std.proofs.lemmas.List.{length_push}
use Rattle.table_covers.specs.Solutions.{at, IsCovered}
use Rattle.table_covers.proofs.AlongEdges.{pushed_flags}
use Rattle.table_covers.proofs.covers.covered_heads.Goals as goal

pub is_head_covered-requires-clause-node : goal.is_head_covered-requires-clause-node
is_head_covered-requires-clause-node g c = λ κs within.
    subst (λ m. c.loop-node.node < m) c.nodes-node-end.ensures c.loop-node-test.true

pub is_head_covered-requires-clause-all : goal.is_head_covered-requires-clause-all
is_head_covered-requires-clause-all g c = λ κs within.
    c.requires.all c.loop-node.node (subst (λ m. c.loop-node.node < m) c.nodes-node-end.ensures c.loop-node-test.true)

pub loop-node-preserved : goal.loop-node-preserved
loop-node-preserved g c =
    let old = c.loop-node.covered.items in
    let x = c.in_ok-is_head_covered.field-0 in
    let counted = ap length c.in_ok-push.ensures.items ∙ length_push old x in
    let before = c.loop-node.invariant.0 in (
      omega (arith, counted, before),
      pushed_flags (λ (n : ℕ) (b : Bool). (g.E.Equations.system_of c.args.system.now).heads n ≡ true
          → (IsTrue b ↔ IsCovered g.E.State.Lattice (g.E.Equations.fits c.args.system.now)
          (g.E.Equations.system_of c.args.system.now) (at c.args.table.now) n)) old c.push.new.self.items
          x c.loop-node.node c.in_ok-push.ensures.items before c.loop-node.invariant.1 c.in_ok-is_head_covered.ensures,
    )

pub returns-clause-covered : goal.returns-clause-covered
returns-clause-covered g c = λ n lt.
    c.loop-node.invariant.1 n (omega (arith, lt, c.nodes-node-end.ensures, c.loop-node-test.false))
