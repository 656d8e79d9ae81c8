use Rattle.std.proofs.Common.{◌∙◌}
use Rattle.edge_actions.specs.Edges.{around_of}
use Rattle.edge_effects.proofs.Effects.{give_is}
use Rattle.edge_effects.proofs.givings.give.Goals as goal

pub returns : goal.returns
returns c = λ calculation store is.
    give_is (around_of c.args.view.now) c.args.state.now store c.plain.result c.plain.ensures.added c.plain.ensures.targets c.args.target calculation c.args.calculated is
    (c.plain.ensures.state ∙ c.in_ok-given.ensures) c.plain.ensures.classes
