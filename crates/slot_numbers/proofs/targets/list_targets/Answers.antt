use Rattle.std.proofs.Common.{◌≡◌, ◌∙◌, sym, ap, subst, rules, length, ◌+◌, ◌++◌, ◌∷◌, []}
use Rattle.slot_numbers.specs.Names.{rule_named}
use Rattle.slot_numbers.specs.Numberings.{rule_of}
use Rattle.slot_numbers.specs.Numbered.{IsRuleOf, edges}
use Rattle.slot_numbers.specs.reading.Building.{AreTargets}
use Rattle.slot_numbers.proofs.Flowing.{targets_begun, targets_more, rule_fits}
use Rattle.slot_numbers.proofs.targets.list_targets.Goals as goal

pub loop-number-init : goal.loop-number-init
loop-number-init c =
    targets_begun c.args.graph.now c.args.cells.now c.args.variables.now c.args.flows.now c.in_ok-lists.lists c.in_ok-lists.ensures

pub targets-requires-clause-rule : goal.targets-requires-clause-rule
targets-requires-clause-rule c =
    let same : c.len-edges.result ≡ edges c.args.graph.now = search rules in
    subst (IsRuleOf c.args.graph.now c.args.placing.now c.args.cells.now)
    (sym (c.rule_at-rule.ensures ∙ ap (λ e. rule_of e c.args.flows.now c.loop-number.number) same))
    (rule_fits c.args.graph.now c.args.placing.now c.args.cells.now c.args.flows.now c.requires.flows
    c.loop-number.number (search rules))

pub loop-number-preserved : goal.loop-number-preserved
loop-number-preserved c =
    let same : c.len-edges.result ≡ edges c.args.graph.now = search rules in
    targets_more c.args.graph.now c.args.cells.now c.args.variables.now c.args.flows.now c.loop-number.number
    c.loop-number.lists c.push_list.new.self c.in_ok-list.list (rule_named c.rule_at-rule.result)
    c.loop-number.invariant
    (c.rule_at-rule.ensures ∙ ap (λ e. rule_of e c.args.flows.now c.loop-number.number) same) c.in_ok-list.ensures
    (c.in_ok-push_list.ensures ∙ ap (λ xs. c.loop-number.lists ++ xs ∷ []) c.numbers.ensures)

pub returns : goal.returns
returns c =
    let all : c.loop-number.number ≡ length c.args.graph.now.links.items + 1 + length c.args.flows.now = search rules in
    subst (AreTargets c.args.graph.now c.args.cells.now c.args.variables.now c.args.flows.now
    (length c.args.graph.now.links.items + 1 + length c.args.flows.now)) (sym c.shrink_to_fit.ensures)
    (subst (λ n. AreTargets c.args.graph.now c.args.cells.now c.args.variables.now c.args.flows.now n
    c.loop-number.lists) all c.loop-number.invariant)
