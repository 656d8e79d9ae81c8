use Rattle.std.proofs.Common.{◌<◌, sym, subst}
use Rattle.table_covers.specs.Systems.{from_of}
use Rattle.slot_numbers.specs.Names.{rule_named}
use Rattle.slot_numbers.specs.Numbered.{IsRuleOf}
use Rattle.slot_numbers.proofs.Flowing.{looked_has, flow_kept}
use Rattle.slot_numbers.proofs.readers.sources.Goals as goal

pub row_sources-requires-clause-node : goal.row_sources-requires-clause-node
row_sources-requires-clause-node c =
    let within = subst (λ r. IsRuleOf c.args.graph.now c.args.placing.now c.args.cells.now (rule_named r)) c.in-Row.is
    c.requires.rule in
    subst (λ n. from_of c.args.graph.now.links.items c.in-Row.edge < n) (sym c.requires.nodes)
    (c.requires.placed.from_node c.in-Row.edge within)

pub row_sources-requires-clause-slots : goal.row_sources-requires-clause-slots
row_sources-requires-clause-slots c = λ x e.
    let within = subst (λ r. IsRuleOf c.args.graph.now c.args.placing.now c.args.cells.now (rule_named r)) c.in-Row.is
    c.requires.rule in
    looked_has c.args.graph.now c.args.placing.now c.args.cells.now c.args.variables.now c.requires.variables
    c.requires.placed c.requires.numberable c.in-Row.edge x within e

pub flow_sources-requires-clause-node : goal.flow_sources-requires-clause-node
flow_sources-requires-clause-node c =
    let is = subst (λ r. IsRuleOf c.args.graph.now c.args.placing.now c.args.cells.now (rule_named r)) c.in-Flow.is
    c.requires.rule in
    subst (λ n. from_of c.args.graph.now.links.items c.in-Flow.edge < n) (sym c.requires.nodes)
    (c.requires.placed.from_node c.in-Flow.edge is.0)

pub flow_sources-requires-clause-slot : goal.flow_sources-requires-clause-slot
flow_sources-requires-clause-slot c =
    let is = subst (λ r. IsRuleOf c.args.graph.now c.args.placing.now c.args.cells.now (rule_named r)) c.in-Flow.is
    c.requires.rule in
    flow_kept c.args.graph.now c.args.placing.now c.args.cells.now c.args.variables.now c.requires.variables
    c.requires.placed c.in-Flow.edge c.in-Flow.cell is.0 is.1
