use Rattle.std.proofs.Common.{◌∙◌, sym, subst, ◌<◌, arith}
use Rattle.std.proofs.lemmas.List.{length-set}
use Rattle.table_covers.proofs.AlongEdges.{entered_at}
use Rattle.table_covers.proofs.covers.entered.Goals as goal

pub index_mut-requires : goal.index_mut-requires
index_mut-requires g c =
    let law = g.met.E.Equations.lawful c.args.system.now c.requires in
    let some = law.some_node in
    let counted = c.in_ok-arrived.ensures.0 ∙ c.nodes.ensures in
    omega (arith, some, counted)

pub returns-clause-nodes : goal.returns-clause-nodes
returns-clause-nodes g c =
    length-set c.in_ok-arrived.arrived.items 0 c.in_ok-first.first ∙ c.in_ok-arrived.ensures.0 ∙ c.nodes.ensures

pub returns-clause-all : goal.returns-clause-all
returns-clause-all g c =
    let law = g.met.E.Equations.lawful c.args.system.now c.requires in
    entered_at c.in_ok-arrived.arrived.items c.in_ok-first.first (g.E.Equations.system_of c.args.system.now).entry
    (subst (λ m. 0 < m) (sym (c.in_ok-arrived.ensures.0 ∙ c.nodes.ensures)) law.some_node) c.in_ok-arrived.ensures.1
    c.in_ok-first.ensures
