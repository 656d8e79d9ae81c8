use Rattle.std.proofs.Common.{◌≡◌, ◌<◌, ◌∙◌, ◌+◌, sym, ap, subst, arith, rules, map, length, true}
use Rattle.cell_placings.specs.CellLists.{is_in}
use Rattle.slot_numbers.specs.Names.{rule_named}
use Rattle.slot_numbers.specs.Numberings.{rule_of, number_of}
use Rattle.slot_numbers.specs.Numbered.{IsRuleOf, edges, sources_on}
use Rattle.slot_numbers.specs.reading.Building.{AreReaders, AreNoted}
use Rattle.slot_numbers.proofs.Flowing.{readers_begun, readers_more, rule_fits, sources_counted}
use Rattle.slot_numbers.proofs.Noting.{written_back}
use Rattle.slot_numbers.proofs.readers.list_readers.Goals as goal

pub loop-number-init : goal.loop-number-init
loop-number-init c =
    readers_begun c.args.graph.now c.args.placing.now c.args.variables.now c.args.flows.now c.args.count c.count.result
    c.in_ok-lists.lists.items c.count.ensures c.in_ok-lists.ensures

pub sources-requires-clause-rule : goal.sources-requires-clause-rule
sources-requires-clause-rule c =
    let same : c.len.result ≡ edges c.args.graph.now = search rules in
    subst (IsRuleOf c.args.graph.now c.args.placing.now c.args.cells.now)
    (sym (c.rule_at-rule.ensures ∙ ap (λ e. rule_of e c.args.flows.now c.loop-number.number) same))
    (rule_fits c.args.graph.now c.args.placing.now c.args.cells.now c.args.flows.now c.requires.flows
    c.loop-number.number (search rules))

pub note_all-requires : goal.note_all-requires
note_all-requires c = λ i e.
    let same : c.len.result ≡ edges c.args.graph.now = search rules in
    let listed : c.numbers-listed.result.now ≡ map (number_of c.args.variables.now)
    (sources_on c.args.graph.now c.args.placing.now (rule_named c.rule_at-rule.result)) = c.numbers-listed.ensures ∙ c.in_ok-sources.ensures in
    let room : length c.deref_mut.result.now ≡ length c.loop-number.lists.items = ap length c.deref_mut.ensures.value in
    subst (λ n. i < n) (sym (room ∙ c.loop-number.invariant.each))
    (sources_counted c.args.graph.now c.args.placing.now c.args.cells.now c.args.variables.now c.requires.variables
    c.requires.placed c.requires.numberable (rule_named c.rule_at-rule.result)
    (subst (IsRuleOf c.args.graph.now c.args.placing.now c.args.cells.now)
    (sym (c.rule_at-rule.ensures ∙ ap (λ e. rule_of e c.args.flows.now c.loop-number.number) same))
    (rule_fits c.args.graph.now c.args.placing.now c.args.cells.now c.args.flows.now c.requires.flows
    c.loop-number.number (search rules))) i (subst (λ ys. is_in ys i ≡ true) listed e))

pub loop-number-preserved : goal.loop-number-preserved
loop-number-preserved c =
    let same : c.len.result ≡ edges c.args.graph.now = search rules in
    let listed : c.numbers-listed.result.now ≡ map (number_of c.args.variables.now)
    (sources_on c.args.graph.now c.args.placing.now (rule_named c.rule_at-rule.result)) = c.numbers-listed.ensures ∙ c.in_ok-sources.ensures in
    let noted = subst (λ ls. AreNoted c.loop-number.number c.numbers-listed.result.now ls c.note_all.new.lists)
    c.deref_mut.ensures.value c.in_ok-note_all.ensures in
    subst (AreReaders c.args.graph.now c.args.placing.now c.args.variables.now c.args.flows.now c.args.count
    (c.loop-number.number + 1))
    (sym (written_back c.loop-number.lists.len c.loop-number.lists.items c.note_all.new.lists noted.each (search rules)))
    (readers_more c.args.graph.now c.args.placing.now c.args.variables.now c.args.flows.now c.args.count
    c.loop-number.number c.loop-number.lists.items c.note_all.new.lists c.numbers-listed.result.now
    (rule_named c.rule_at-rule.result) (omega arith) c.loop-number.invariant
    (c.rule_at-rule.ensures ∙ ap (λ e. rule_of e c.args.flows.now c.loop-number.number) same) listed noted)
