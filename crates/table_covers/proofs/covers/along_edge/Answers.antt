use Rattle.std.proofs.Common.{◌<◌, ◌∙◌, sym, ap, subst, length, List}
use Rattle.std.proofs.lemmas.Result.{IfOk-weaker}
use Rattle.table_covers.specs.declared.links.Link.{Link}
use Rattle.table_covers.specs.Solutions.{brought}
use Rattle.table_covers.proofs.AlongEdges.{left_within, left_at, left_fits}
use Rattle.table_covers.proofs.covers.along_edge.Goals as goal

pub bounds-links-edge : goal.bounds-links-edge
bounds-links-edge g c =
    subst (λ (ls : List Link). c.args.edge < length ls) (sym c.links.ensures.links) c.requires.edge

pub bounds-table-from : goal.bounds-table-from
bounds-table-from g c =
    let law = g.met.E.Equations.lawful c.args.system.now c.requires.system in
    left_within c.links.result.now (g.E.Equations.system_of c.args.system.now).links c.args.table.now c.args.edge _
    c.links.ensures.links c.requires.nodes (law.from_node c.args.edge c.requires.edge)

pub apply-requires-clause-fits : goal.apply-requires-clause-fits
apply-requires-clause-fits g c =
    let law = g.met.E.Equations.lawful c.args.system.now c.requires.system in
    left_fits c.links.result.now (g.E.Equations.system_of c.args.system.now).links c.args.table.now c.args.edge _
    c.links.ensures.links c.requires.nodes (law.from_node c.args.edge c.requires.edge) c.index-table-from.result
    (g.E.Equations.fits c.args.system.now) c.requires.fits c.in-Some.state c.index-table-from.is c.in-Some.is

pub returns-in-None : goal.returns-in-None
returns-in-None g c =
    let law = g.met.E.Equations.lawful c.args.system.now c.requires.system in
    let there = left_at c.links.result.now (g.E.Equations.system_of c.args.system.now).links c.args.table.now
    c.args.edge _ c.links.ensures.links c.requires.nodes (law.from_node c.args.edge c.requires.edge)
    c.index-table-from.result c.index-table-from.is in
    sym (ap (brought ((g.E.Equations.system_of c.args.system.now).after c.args.edge)) (there ∙ c.in-None.is))

pub returns-in-Some : goal.returns-in-Some
returns-in-Some g c =
    let law = g.met.E.Equations.lawful c.args.system.now c.requires.system in
    let there = left_at c.links.result.now (g.E.Equations.system_of c.args.system.now).links c.args.table.now
    c.args.edge _ c.links.ensures.links c.requires.nodes (law.from_node c.args.edge c.requires.edge)
    c.index-table-from.result c.index-table-from.is in
    IfOk-weaker c.apply.result _ _ (λ b is. is
    ∙ sym (ap (brought ((g.E.Equations.system_of c.args.system.now).after c.args.edge)) (there ∙ c.in-Some.is)))
    c.apply.ensures
