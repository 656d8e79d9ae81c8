use Rattle.std.proofs.Common.{◌∙◌, ap, subst}
use Rattle.tm_laid.specs.Layouts.{laid_tree, is_alive, stands_at}
use Rattle.flow_graph.specs.declared.operations.Operation.{Operation}
use Rattle.memory_effects.specs.calculations.transfer_rows.StateForms.{only_numbers}
use Rattle.memory_effects.specs.calculations.transfer_rows.Actions.{Action, constant, copied, operated, converted}
use Rattle.memory_effects.specs.calculations.transfer_rows.Actions.{compared, part}
use Rattle.memory_effects.specs.calculations.transfer_rows.Actions.{element, moved}
use Rattle.memory_effects.specs.calculations.Given.{IsCalculated}
use Rattle.memory_effects.specs.edge_actions.Layouts.{numbers_between}
use Rattle.memory_effects.specs.edge_actions.Edges.{action_of, constant_value, base_value, unary_of, followed}
use Rattle.strided_dom.specs.Progression.{IsInReach}
use Rattle.strided_dom.proofs.Reach.{kept}
use Rattle.transfer_mem.specs.Applicable.{IsOperable}
use Rattle.transfer_mem.proofs.giving.number_given.Goals as goal

pub returns-in_ok-set-in-Const : goal.returns-in_ok-set-in-Const
returns-in_ok-set-in-Const c =
    let view = c.args.view.now in
    let laid = laid_tree view.laid.now in
    record {
      calculation = constant (constant_value laid c.in-Const.value);
      is = ap (action_of laid view.task view.tests_pointer view.answer) c.in-Const.is;
      calculated = subst (λ v. IsCalculated (constant v) c.args.state.now c.constant.result) c.in_ok-set-in-Const.ensures (c.constant.ensures c.args.state.now);
    }

pub returns-in_ok-copy-in-Copy : goal.returns-in_ok-copy-in-Copy
returns-in_ok-copy-in-Copy c =
    let view = c.args.view.now in
    let laid = laid_tree view.laid.now in
    record {
      calculation = copied c.in-Copy.from;
      is = ap (action_of laid view.task view.tests_pointer view.answer) c.in-Copy.is;
      calculated = c.in_ok-copy-in-Copy.ensures;
    }

pub returns-in-Un : goal.returns-in-Un
returns-in-Un c =
    let view = c.args.view.now in
    let laid = laid_tree view.laid.now in
    record {
      calculation = unary_of c.in-Un.operator c.in-Un.of c.in-Un.from;
      is = ap (action_of laid view.task view.tests_pointer view.answer) c.in-Un.is;
      calculated = c.unary-calculated.ensures;
    }

pub returns-in-Bin : goal.returns-in-Bin
returns-in-Bin c =
    let view = c.args.view.now in
    let laid = laid_tree view.laid.now in
    record {
      calculation = operated c.in-Bin.operator c.in-Bin.of c.in-Bin.left c.in-Bin.right;
      is = ap (action_of laid view.task view.tests_pointer view.answer) c.in-Bin.is;
      calculated = c.operated-calculated.ensures;
    }

pub returns-in-Convert : goal.returns-in-Convert
returns-in-Convert c =
    let view = c.args.view.now in
    let laid = laid_tree view.laid.now in
    record {
      calculation = converted c.in-Convert.of c.in-Convert.from;
      is = ap (action_of laid view.task view.tests_pointer view.answer) c.in-Convert.is;
      calculated = c.converted-calculated.ensures;
    }

pub returns-in-Any : goal.returns-in-Any
returns-in-Any c =
    let view = c.args.view.now in
    let laid = laid_tree view.laid.now in
    let reach : IsInReach c.in-Any.low × IsInReach c.in-Any.high = subst (λ op. IsOperable op c.args.state.now) c.in-Any.is c.requires in
    let low = kept {v = c.in-Any.low} reach.0 in
    let high = kept {v = c.in-Any.high} reach.1 in
    record {
      calculation = constant (let numbers = numbers_between c.in-Any.low c.in-Any.high in only_numbers numbers);
      is = ap (action_of laid view.task view.tests_pointer view.answer) c.in-Any.is;
      calculated = subst (λ v. IsCalculated (constant v) c.args.state.now c.constant-in-Any.result) (c.from_numbers-value.ensures ∙ ap only_numbers (c.numbers_between.ensures ∙ (λ i. numbers_between (low i) (high i)))) (c.constant-in-Any.ensures c.args.state.now);
    }
