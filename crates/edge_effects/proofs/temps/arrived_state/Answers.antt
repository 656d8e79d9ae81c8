use Rattle.std.proofs.Common.{◌∙◌}
use Rattle.edge_actions.specs.Edges.{around_of}
use Rattle.edge_effects.proofs.LiveTemps.{arrived_so}
use Rattle.edge_effects.proofs.temps.arrived_state.Goals as goal

pub returns : goal.returns
returns c = c.in_ok-after.ensures ∙ arrived_so (around_of c.args.view.now) c.args.state.now c.in_ok-kept.kept c.in_ok-kept.ensures
