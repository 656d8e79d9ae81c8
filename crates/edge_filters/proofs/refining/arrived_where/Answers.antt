use Rattle.std.proofs.Common.{◌∙◌, Some, sym, ap}
use Rattle.std.specs.Option.{option_map}
use Rattle.edge_effects.specs.calculations.transfer_rows.Rows.{arrived}
use Rattle.edge_effects.specs.edge_actions.Edges.{around_of}
use Rattle.edge_filters.proofs.refining.arrived_where.Goals as goal

pub returns-in_default : goal.returns-in_default
returns-in_default c = ap (option_map (arrived (around_of c.args.view.now))) (sym c.in_default.is)

pub returns : goal.returns
returns c = ap Some c.in_ok-after.ensures ∙ ap (option_map (arrived (around_of c.args.view.now))) (sym c.in-Some.is)
