use Rattle.std.specs.Prelude.{not}
use Rattle.std.proofs.Common.{◌∙◌, ap, subst}
use Rattle.tm_laid.specs.Layouts.{laid_tree, is_alive, stands_at}
use Rattle.flow_graph.specs.declared.operations.Operation.{Operation}
use Rattle.memory_effects.specs.calculations.transfer_rows.Actions.{Action, constant, copied, operated, converted}
use Rattle.memory_effects.specs.calculations.transfer_rows.Actions.{compared, part}
use Rattle.memory_effects.specs.calculations.transfer_rows.Actions.{element, moved}
use Rattle.memory_effects.specs.calculations.Given.{IsCalculated}
use Rattle.memory_effects.specs.edge_actions.Layouts.{numbers_between}
use Rattle.memory_effects.specs.edge_actions.Edges.{action_of, constant_value, base_value, unary_of, followed}
use Rattle.transfer_mem.proofs.giving.pointer_given.Goals as goal

pub returns-in-BinPointers : goal.returns-in-BinPointers
returns-in-BinPointers c =
    let view = c.args.view.now in
    let laid = laid_tree view.laid.now in
    record {
      calculation = compared c.in-BinPointers.equal c.in-BinPointers.left c.in-BinPointers.right;
      is = ap (action_of laid view.task view.tests_pointer view.answer) c.in-BinPointers.is;
      calculated = c.compared-calculated.ensures;
    }

pub returns-in_ok-address-in-Base : goal.returns-in_ok-address-in-Base
returns-in_ok-address-in-Base c =
    let view = c.args.view.now in
    let laid = laid_tree view.laid.now in
    record {
      calculation = constant (base_value laid c.in-Base.object);
      is = ap (action_of laid view.task view.tests_pointer view.answer) c.in-Base.is;
      calculated = subst (λ v. IsCalculated (constant v) c.args.state.now c.constant.result) c.in_ok-address-in-Base.ensures (c.constant.ensures c.args.state.now);
    }

pub returns-in_ok-shifted-in-Offset : goal.returns-in_ok-shifted-in-Offset
returns-in_ok-shifted-in-Offset c =
    let view = c.args.view.now in
    let laid = laid_tree view.laid.now in
    record {
      calculation = part c.in-Offset.cells c.in-Offset.from;
      is = ap (action_of laid view.task view.tests_pointer view.answer) c.in-Offset.is;
      calculated = c.in_ok-shifted-in-Offset.ensures;
    }

pub returns-in_ok-indexed-in-Index : goal.returns-in_ok-indexed-in-Index
returns-in_ok-indexed-in-Index c =
    let view = c.args.view.now in
    let laid = laid_tree view.laid.now in
    record {
      calculation = element c.in-Index.length c.in-Index.cells c.in-Index.from c.in-Index.by;
      is = ap (action_of laid view.task view.tests_pointer view.answer) c.in-Index.is;
      calculated = c.in_ok-indexed-in-Index.ensures;
    }

pub returns-in_ok-advanced-in-Move : goal.returns-in_ok-advanced-in-Move
returns-in_ok-advanced-in-Move c =
    let view = c.args.view.now in
    let laid = laid_tree view.laid.now in
    record {
      calculation = moved (not c.in-Move.minus) c.in-Move.cells c.in-Move.from c.in-Move.by;
      is = ap (action_of laid view.task view.tests_pointer view.answer) c.in-Move.is;
      calculated = c.in_ok-advanced-in-Move.ensures;
    }

pub returns-in_ok-reached-in-Deref : goal.returns-in_ok-reached-in-Deref
returns-in_ok-reached-in-Deref c =
    let view = c.args.view.now in
    let laid = laid_tree view.laid.now in
    record {
      calculation = followed laid c.in-Deref.path c.in-Deref.target c.in-Deref.from;
      is = ap (action_of laid view.task view.tests_pointer view.answer) c.in-Deref.is;
      calculated = c.in_ok-reached-in-Deref.ensures;
    }
