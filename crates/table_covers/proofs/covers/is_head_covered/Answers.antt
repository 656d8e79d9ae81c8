use Rattle.std.proofs.Common.{◌∙◌, sym, ap, subst, refl, arith, None, Some, get_or, IsTrue, ◌↔◌}
use Rattle.std.proofs.lemmas.List.{get_or_default}
use Rattle.tm_lattice.specs.Tables.{IsBelow}
use Rattle.table_covers.specs.Solutions.{at}
use Rattle.table_covers.proofs.Rechecks.{head_none, head_fits, head_some}
use Rattle.table_covers.proofs.covers.is_head_covered.Goals as goal

pub returns-in_default : goal.returns-in_default
returns-in_default g c = λ head.
    let met = g.met.E.State.Lattice g.world.𝓛 g.world.𝓜 g.world.𝓡 ((λ s x. x), (λ x. x), (λ x. x), λ x. x) in
    let law = g.met.E.Equations.lawful c.args.system.now c.requires.system in
    let read = get_or_default c.args.arrived.now c.args.node None c.index-arrived-node.result (omega (arith, c.requires.arrived, c.requires.node)) in
    let covered = head_none g.E.State.Lattice (g.E.Equations.fits c.args.system.now) (g.E.Equations.system_of c.args.system.now) met.order met.join_laws law (at c.args.table.now) c.requires.fits c.args.node (get_or c.args.arrived.now c.args.node None) c.requires.node (c.requires.all head)
    (read ∙ sym c.index-arrived-node.is ∙ c.in_default.is) in
    (λ yes. covered, λ covered'. refl)

pub rounded-requires-clause-fits : goal.rounded-requires-clause-fits
rounded-requires-clause-fits g c =
    let met = g.met.E.State.Lattice g.world.𝓛 g.world.𝓜 g.world.𝓡 ((λ s x. x), (λ x. x), (λ x. x), λ x. x) in
    let law = g.met.E.Equations.lawful c.args.system.now c.requires.system in
    let head = sym c.if-not-is_head.ensures in
    let read = get_or_default c.args.arrived.now c.args.node None c.index-arrived-node.result (omega (arith, c.requires.arrived, c.requires.node)) in
    subst (λ v. g.E.Equations.fits c.args.system.now c.args.node v) (sym c.in_ok-copied.ensures)
    (head_fits g.E.State.Lattice (g.E.Equations.fits c.args.system.now) (g.E.Equations.system_of c.args.system.now) met.order met.join_laws law (at c.args.table.now) c.requires.fits c.args.node (get_or c.args.arrived.now c.args.node None) c.in-Some.state (c.requires.all head)
    (read ∙ sym c.index-arrived-node.is ∙ c.in-Some.is))

pub returns : goal.returns
returns g c = λ head.
    let met = g.met.E.State.Lattice g.world.𝓛 g.world.𝓜 g.world.𝓡 ((λ s x. x), (λ x. x), (λ x. x), λ x. x) in
    let law = g.met.E.Equations.lawful c.args.system.now c.requires.system in
    let read = get_or_default c.args.arrived.now c.args.node None c.index-arrived-node.result (omega (arith, c.requires.arrived, c.requires.node)) in
    let there = get_or_default c.args.table.now c.args.node None c.index-table-node.result (omega (arith, c.requires.nodes, c.requires.node)) in
    let out = (g.E.Equations.system_of c.args.system.now).outward c.args.node in
    head_some g.E.State.Lattice (g.E.Equations.fits c.args.system.now) (g.E.Equations.system_of c.args.system.now) met.order met.join_laws law (at c.args.table.now) c.requires.fits c.args.node (get_or c.args.arrived.now c.args.node None) c.in-Some.state c.in_ok-rounded.rounded c.is_below.result c.requires.node (c.requires.all head)
    (read ∙ sym c.index-arrived-node.is ∙ c.in-Some.is) (c.in_ok-rounded.ensures ∙ ap out c.in_ok-copied.ensures)
    (subst (λ x. IsTrue c.is_below.result ↔ IsBelow g.E.State.Lattice.leq (Some c.in_ok-rounded.rounded) x) (c.index-table-node.is ∙ sym there) c.is_below.ensures)
