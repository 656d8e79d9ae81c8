use Rattle.std.proofs.Common.{◌∙◌, ap, sym, List, ◌∷◌, [], false}
use Rattle.mutex_configs.specs.declared.nodes.ConfiguredNode.{ConfiguredNode}
use Rattle.mutex_configs.specs.reading.Searches.{added_by}
use Rattle.mutex_configs.proofs.Searching.{asking, telling}
use Rattle.mutex_configs.proofs.reached.add_along.Goals as goal

pub returns-in_ok-add_copy-2 : goal.returns-in_ok-add_copy-2
returns-in_ok-add_copy-2 c = c.in_ok-add_copy-2.ensures
    ∙ ap (λ (nodes : List ConfiguredNode). added_by nodes c.args.edge c.args.q (false ∷ [])) c.in_ok-add_copy.ensures
    ∙ asking c.args.nodes.now.keys c.args.edge c.args.q (sym c.if-asks.ensures)

pub returns-else-asks : goal.returns-else-asks
returns-else-asks c = c.in_ok-add_copy.ensures ∙ telling c.args.nodes.now.keys c.args.edge c.args.q (sym c.if-asks.ensures)
