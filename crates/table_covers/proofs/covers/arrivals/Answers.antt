use Rattle.std.proofs.Common.{◌≡◌, ◌+◌, ◌<◌, ◌∙◌, suc, ap, subst, length, get_or, drop, List, None, arith}
use Rattle.table_covers.specs.declared.links.Link.{Link}
use Rattle.table_covers.specs.Solutions.{at, gathered}
use Rattle.table_covers.proofs.AlongEdges.{written_back}
use Rattle.table_covers.proofs.covers.arrivals.Goals as goal

pub loop-edge-init : goal.loop-edge-init
loop-edge-init g c = (c.in_ok-arrived.ensures.nodes, λ n lt head. c.in_ok-arrived.ensures.all n)

pub arrive-requires-clause-edge : goal.arrive-requires-clause-edge
arrive-requires-clause-edge g c κs within =
    subst (λ (ls : List Link). c.loop-edge.edge < length ls) c.links-edge-end.ensures.links c.loop-edge-test.true

pub arrive-requires-clause-so_far : goal.arrive-requires-clause-so_far
arrive-requires-clause-so_far g c = λ κs within n lt head.
    ap (λ xs. get_or xs n None) c.deref_mut.ensures.value ∙ c.loop-edge.invariant.1 n lt head

pub loop-edge-preserved : goal.loop-edge-preserved
loop-edge-preserved g c =
    let new = c.arrive.new.arrived in
    let e = c.loop-edge.edge in
    let next : suc e ≡ e + 1 = omega arith in
    let whole = written_back c.loop-edge.arrived.len new (drop (length new) c.loop-edge.arrived.items)
    (omega (arith, c.arrive.auto.arrived, c.deref_mut.ensures.len)) in (
      ap length whole ∙ c.arrive.auto.arrived ∙ ap length c.deref_mut.ensures.value ∙ c.loop-edge.invariant.0,
      λ n lt head. ap (λ xs. get_or xs n None) whole ∙ c.in_ok-arrive.ensures n lt head
          ∙ ap (λ k. gathered g.E.State.Lattice (g.E.Equations.fits c.args.system.now)
          (g.E.Equations.system_of c.args.system.now) k n (at c.args.table.now)) next,
    )

pub returns-clause-all : goal.returns-clause-all
returns-clause-all g c = λ n lt head.
    let counted = ap (λ (ls : List Link). length ls) c.links-edge-end.ensures.links in
    let ends : c.loop-edge.edge ≡ length (g.E.Equations.system_of c.args.system.now).links =
    omega (arith, counted, c.loop-edge-test.false, c.loop-edge.auto.edge-end) in
    c.loop-edge.invariant.1 n lt head
    ∙ ap (λ k. gathered g.E.State.Lattice (g.E.Equations.fits c.args.system.now)
    (g.E.Equations.system_of c.args.system.now) k n (at c.args.table.now)) ends
