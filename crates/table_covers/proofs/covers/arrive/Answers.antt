use Rattle.std.proofs.Common.{◌≡◌, ◌<◌, ◌∙◌, sym, ap, subst, length, get_or, false, List}
use Rattle.tm_lattice.specs.Tables.{joined_at}
use Rattle.table_covers.specs.declared.links.Link.{Link}
use Rattle.table_covers.specs.Systems.{to_of}
use Rattle.table_covers.specs.Solutions.{at}
use Rattle.table_covers.proofs.AlongEdges.{other_heads, joined_head}
use Rattle.table_covers.proofs.covers.arrive.Goals as goal

pub bounds-links-edge : goal.bounds-links-edge
bounds-links-edge g c =
    subst (λ (ls : List Link). c.args.edge < length ls) (sym c.links.ensures.links) c.requires.edge

pub is_head-requires : goal.is_head-requires
is_head-requires g c =
    let law = g.met.E.Equations.lawful c.args.system.now c.requires.system in
    subst (λ (ls : List Link). to_of ls c.args.edge < (g.E.Equations.system_of c.args.system.now).node_count)
    (sym c.links.ensures.links) (law.to_node c.args.edge c.requires.edge)

pub returns-then-not-is_head : goal.returns-then-not-is_head
returns-then-not-is_head g c =
    let plain = subst (λ (ls : List Link). (g.E.Equations.system_of c.args.system.now).heads (to_of ls c.args.edge) ≡ false)
    c.links.ensures.links (sym c.if-not-is_head.ensures) in
    other_heads g.E.State.Lattice (g.E.Equations.fits c.args.system.now)
    (g.E.Equations.system_of c.args.system.now) (at c.args.table.now) c.args.edge c.args.arrived.now plain
    c.requires.so_far

pub bounds-arrived-to : goal.bounds-arrived-to
bounds-arrived-to g c =
    let law = g.met.E.Equations.lawful c.args.system.now c.requires.system in
    subst (λ (ls : List Link). to_of ls c.args.edge < length c.args.arrived.now) (sym c.links.ensures.links)
    (subst (λ m. to_of (g.E.Equations.system_of c.args.system.now).links c.args.edge < m) (sym c.requires.arrived)
    (law.to_node c.args.edge c.requires.edge))

pub way_share_back-arrived : goal.way_share_back-arrived
way_share_back-arrived g c =
    (ap (λ x. get_or c.args.arrived.now (to_of c.links.result.now c.args.edge) x) c.index-arrived-to.is, tt)

pub bounds-arrived-to-2 : goal.bounds-arrived-to-2
bounds-arrived-to-2 g c =
    let law = g.met.E.Equations.lawful c.args.system.now c.requires.system in
    subst (λ (ls : List Link). to_of ls c.args.edge < length c.args.arrived.now) (sym c.links.ensures.links)
    (subst (λ m. to_of (g.E.Equations.system_of c.args.system.now).links c.args.edge < m) (sym c.requires.arrived)
    (law.to_node c.args.edge c.requires.edge))

pub returns : goal.returns
returns g c =
    let law = g.met.E.Equations.lawful c.args.system.now c.requires.system in
    let within = subst (λ m. to_of (g.E.Equations.system_of c.args.system.now).links c.args.edge < m)
    (sym c.requires.arrived) (law.to_node c.args.edge c.requires.edge) in
    joined_head g.E.State.Lattice (g.E.Equations.fits c.args.system.now)
    (g.E.Equations.system_of c.args.system.now) (at c.args.table.now) c.args.edge c.args.arrived.now c.index-arrived-to.result
    c.in_ok-brought.brought c.in_ok-joined.joined (to_of c.links.result.now c.args.edge)
    (ap (λ (ls : List Link). to_of ls c.args.edge) c.links.ensures.links) within c.index-arrived-to.is
    c.in_ok-brought.ensures (c.in_ok-joined.ensures
    ∙ ap (λ w. joined_at g.E.State.Lattice.joined w c.in_ok-brought.brought) (sym c.index-arrived-to.is))
    c.requires.so_far
