use Rattle.tm_laid.specs.Layouts.{laid_tree}
use Rattle.memory_effects.proofs.low.transfer_rows.Contributing.{added_rises}
use Rattle.memory_effects.proofs.low.transfer_rows.RowsRise.{after_rises, target_rises, listed_rises}
use Rattle.memory_effects.proofs.low.edge_actions.ActionForms.{edge_is}
use Rattle.memory_effects.specs.edge_actions.Edges.{around_of, action_at}
use Rattle.transfer_mem.proofs.laws.edges_rise.Goals as goal

pub returns : goal.returns
returns c = record {
  state = λ view s s' store store' s-is s'-is le store-is store'-is grown.
      after_rises (around_of view) s s' s-is s'-is le store store' store-is store'-is grown (action_at view) (edge_is (laid_tree view.laid.now) view.task view.tests_pointer view.answer view.operation);
  added = λ view s s' s-is s'-is le. added_rises (around_of view) s s' s-is s'-is le (action_at view);
  targets = λ view s s' s-is s'-is le. target_rises (around_of view) s s' s-is s'-is le (action_at view);
  classes = λ view s s' class s-is s'-is le sizes h. listed_rises (around_of view) s s' s-is s'-is le sizes (action_at view) class h;
}
