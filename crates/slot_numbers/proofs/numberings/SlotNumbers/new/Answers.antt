use Rattle.std.proofs.Common.{◌≡◌, ◌+◌, List, length, true, false, sym, subst, ◌∙◌, rules}
use Rattle.slot_numbers.specs.declared.names.FlowingCell.{FlowingCell}
use Rattle.slot_numbers.specs.Numbered.{AreFlows, edges}
use Rattle.slot_numbers.specs.reading.Building.{AreTargets, AreReaders}
use Rattle.slot_numbers.proofs.Flowing.{ends_of}
use Rattle.slot_numbers.proofs.Whole.{are_whole, numbering_is}
use Rattle.slot_numbers.proofs.numberings.SlotNumbers.new.Goals as goal

pub returns-then-not-is_numberable : goal.returns-then-not-is_numberable
returns-then-not-is_numberable c = λ p.
    let yes = c.is_numberable.ensures.1 p in
    let no = c.if-not-is_numberable.true in
    let clash : true ≡ false = sym yes ∙ no in cc

pub number_variables-requires-clause-counted : goal.number_variables-requires-clause-counted
number_variables-requires-clause-counted c = (c.is_numberable.ensures.0 c.if-not-is_numberable.false).placed

pub list_flows-requires-clause-ends : goal.list_flows-requires-clause-ends
list_flows-requires-clause-ends c = ends_of c.args.graph.now c.args.placing.now c.args.cells.now c.requires.placed

pub list_targets-requires-clause-numberable : goal.list_targets-requires-clause-numberable
list_targets-requires-clause-numberable c = c.is_numberable.ensures.0 c.if-not-is_numberable.false

pub list_targets-requires-clause-flows : goal.list_targets-requires-clause-flows
list_targets-requires-clause-flows c =
    subst (AreFlows c.args.graph.now c.args.placing.now c.args.cells.now) (sym c.as_slice-listed.ensures.value) c.in_ok-flows.ensures

pub list_readers-requires-clause-numberable : goal.list_readers-requires-clause-numberable
list_readers-requires-clause-numberable c = c.is_numberable.ensures.0 c.if-not-is_numberable.false

pub list_readers-requires-clause-flows : goal.list_readers-requires-clause-flows
list_readers-requires-clause-flows c =
    subst (AreFlows c.args.graph.now c.args.placing.now c.args.cells.now) (sym c.as_slice-listed.ensures.value) c.in_ok-flows.ensures

pub list_readers-requires-clause-count : goal.list_readers-requires-clause-count
list_readers-requires-clause-count c = let each = c.in_ok-targets.ensures.each in search rules

pub invariant_of-result : goal.invariant_of-result
invariant_of-result c =
    let is = c.as_slice-listed.ensures.value in
    let targets = subst (λ (fs : List FlowingCell). AreTargets c.args.graph.now c.args.cells.now c.in_ok-variables.variables fs
    (edges c.args.graph.now + 1 + length fs) c.in_ok-targets.targets) is c.in_ok-targets.ensures in
    let readers = subst (λ (fs : List FlowingCell). AreReaders c.args.graph.now c.args.placing.now c.in_ok-variables.variables fs
    c.len-count.result c.len-count.result c.in_ok-readers.readers) is c.in_ok-readers.ensures in
    are_whole c.args.graph.now c.args.placing.now c.args.cells.now c.in_ok-variables.variables c.in_ok-flows.flows.items
    c.in_ok-targets.targets c.in_ok-readers.readers c.in_ok-variables.ensures c.len-count.result
    (let each = targets.each in search rules) targets readers

pub returns : goal.returns
returns c =
    let is = c.as_slice-listed.ensures.value in
    let targets = subst (λ (fs : List FlowingCell). AreTargets c.args.graph.now c.args.cells.now c.in_ok-variables.variables fs
    (edges c.args.graph.now + 1 + length fs) c.in_ok-targets.targets) is c.in_ok-targets.ensures in
    let readers = subst (λ (fs : List FlowingCell). AreReaders c.args.graph.now c.args.placing.now c.in_ok-variables.variables fs
    c.len-count.result c.len-count.result c.in_ok-readers.readers) is c.in_ok-readers.ensures in
    numbering_is c.args.graph.now c.args.placing.now c.args.cells.now c.in_ok-variables.variables c.in_ok-flows.flows.items
    c.in_ok-targets.targets c.in_ok-readers.readers c.in_ok-variables.ensures c.len-count.result
    (let each = targets.each in search rules) targets readers (c.is_numberable.ensures.0 c.if-not-is_numberable.false) c.in_ok-flows.ensures
