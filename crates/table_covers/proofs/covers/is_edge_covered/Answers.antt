use Rattle.std.proofs.Common.{◌≡◌, ◌↔◌, ◌<◌, ◌∙◌, sym, subst, length, get_or, true, false, None, Bool, IsTrue, List}
use Rattle.std.proofs.lemmas.List.{get_or_default}
use Rattle.tm_lattice.specs.Tables.{IsBelow}
use Rattle.table_covers.specs.declared.links.Link.{Link}
use Rattle.table_covers.specs.Systems.{to_of}
use Rattle.table_covers.specs.Solutions.{at, along, IsCoveredBy}
use Rattle.table_covers.proofs.covers.is_edge_covered.Goals as goal

pub bounds-links-edge : goal.bounds-links-edge
bounds-links-edge g c =
    subst (λ (ls : List Link). c.args.edge < length ls) (sym c.links.ensures.links) c.requires.edge

pub is_head-requires : goal.is_head-requires
is_head-requires g c =
    let law = g.met.E.Equations.lawful c.args.system.now c.requires.system in
    subst (λ (ls : List Link). to_of ls c.args.edge < (g.E.Equations.system_of c.args.system.now).node_count)
    (sym c.links.ensures.links) (law.to_node c.args.edge c.requires.edge)

pub bounds-covered-to : goal.bounds-covered-to
bounds-covered-to g c =
    let law = g.met.E.Equations.lawful c.args.system.now c.requires.system in
    subst (λ (ls : List Link). to_of ls c.args.edge < length c.args.covered.now) (sym c.links.ensures.links)
    (subst (λ m. to_of (g.E.Equations.system_of c.args.system.now).links c.args.edge < m) (sym c.requires.flags)
    (law.to_node c.args.edge c.requires.edge))

pub returns-then-is_head : goal.returns-then-is_head
returns-then-is_head g c =
    let sys = g.E.Equations.system_of c.args.system.now in
    let law = g.met.E.Equations.lawful c.args.system.now c.requires.system in
    let to = to_of sys.links c.args.edge in
    let head = subst (λ (ls : List Link). sys.heads (to_of ls c.args.edge) ≡ true) c.links.ensures.links
    (sym c.if-is_head.ensures) in
    subst (λ (ls : List Link). IsTrue (get_or c.args.covered.now (to_of ls c.args.edge) false)
    ↔ IsCoveredBy g.E.State.Lattice (g.E.Equations.fits c.args.system.now) sys (sys.heads to) (at c.args.table.now) c.args.edge)
    (sym c.links.ensures.links)
    (subst (λ (t : Bool). IsTrue (get_or c.args.covered.now to false)
    ↔ IsCoveredBy g.E.State.Lattice (g.E.Equations.fits c.args.system.now) sys t (at c.args.table.now) c.args.edge)
    (sym head) (c.requires.covered to (law.to_node c.args.edge c.requires.edge) head))

pub bounds-table-to : goal.bounds-table-to
bounds-table-to g c =
    let law = g.met.E.Equations.lawful c.args.system.now c.requires.system in
    subst (λ (ls : List Link). to_of ls c.args.edge < length c.args.table.now) (sym c.links.ensures.links)
    (subst (λ m. to_of (g.E.Equations.system_of c.args.system.now).links c.args.edge < m) (sym c.requires.nodes)
    (law.to_node c.args.edge c.requires.edge))

pub returns : goal.returns
returns g c =
    let sys = g.E.Equations.system_of c.args.system.now in
    let law = g.met.E.Equations.lawful c.args.system.now c.requires.system in
    let to = to_of sys.links c.args.edge in
    let within = subst (λ m. to < m) (sym c.requires.nodes) (law.to_node c.args.edge c.requires.edge) in
    let plain = subst (λ (ls : List Link). sys.heads (to_of ls c.args.edge) ≡ false) c.links.ensures.links
    (sym c.if-is_head.ensures) in
    let there = get_or_default c.args.table.now to None c.index-table-to.result within
    ∙ sym (subst (λ (ls : List Link). c.index-table-to.result ≡ get_or c.args.table.now (to_of ls c.args.edge)
    c.index-table-to.result) c.links.ensures.links c.index-table-to.is) in
    subst (λ (t : Bool). IsTrue c.is_below.result
    ↔ IsCoveredBy g.E.State.Lattice (g.E.Equations.fits c.args.system.now) sys t (at c.args.table.now) c.args.edge)
    (sym plain)
    (subst (λ x. IsTrue c.is_below.result ↔ IsBelow g.E.State.Lattice.leq (along g.E.State.Lattice
    (g.E.Equations.fits c.args.system.now) sys c.args.edge (at c.args.table.now)) x) (sym there)
    (subst (λ x. IsTrue c.is_below.result ↔ IsBelow g.E.State.Lattice.leq x c.index-table-to.result)
    c.in_ok-brought.ensures c.is_below.ensures))
