use Rattle.tm_laid.specs.Layouts.{laid_tree}
use Rattle.memory_effects.proofs.low.transfer_rows.Contributing.{added_is}
use Rattle.memory_effects.proofs.low.transfer_rows.Fitting.{after_is}
use Rattle.memory_effects.proofs.low.edge_actions.ActionForms.{edge_is}
use Rattle.memory_effects.specs.edge_actions.Edges.{around_of, action_at}
use Rattle.transfer_mem.proofs.laws.edges_give_states.Goals as goal

pub returns : goal.returns
returns c = record {
  state = λ view s t store s-is store-is e.
      after_is (around_of view) s s-is store store-is (action_at view) (edge_is (laid_tree view.laid.now) view.task view.tests_pointer view.answer view.operation) t e;
  added = λ view s s-is. added_is (around_of view) s s-is (action_at view);
}
