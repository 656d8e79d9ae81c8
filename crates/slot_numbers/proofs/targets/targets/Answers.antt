use Rattle.std.proofs.Common.{subst}
use Rattle.slot_numbers.specs.Names.{rule_named}
use Rattle.slot_numbers.specs.Numbered.{IsRuleOf}
use Rattle.slot_numbers.proofs.Flowing.{ends_of, entry_has, touched_has, flow_has}
use Rattle.slot_numbers.proofs.targets.targets.Goals as goal

pub entry_targets-requires : goal.entry_targets-requires
entry_targets-requires c =
    entry_has c.args.graph.now c.args.placing.now c.args.cells.now c.args.variables.now c.requires.variables
    (ends_of c.args.graph.now c.args.placing.now c.args.cells.now c.requires.placed)

pub row_targets-requires-clause-slots : goal.row_targets-requires-clause-slots
row_targets-requires-clause-slots c = λ x e.
    let within = subst (λ r. IsRuleOf c.args.graph.now c.args.placing.now c.args.cells.now (rule_named r)) c.in-Row.is
    c.requires.rule in
    touched_has c.args.graph.now c.args.placing.now c.args.cells.now c.args.variables.now c.requires.variables
    c.requires.placed c.requires.numberable c.in-Row.edge x within e

pub flow_targets-requires-clause-slot : goal.flow_targets-requires-clause-slot
flow_targets-requires-clause-slot c =
    let is = subst (λ r. IsRuleOf c.args.graph.now c.args.placing.now c.args.cells.now (rule_named r)) c.in-Flow.is
    c.requires.rule in
    flow_has c.args.graph.now c.args.placing.now c.args.cells.now c.args.variables.now c.requires.variables
    (ends_of c.args.graph.now c.args.placing.now c.args.cells.now c.requires.placed) c.in-Flow.edge c.in-Flow.cell is.0
    is.1
