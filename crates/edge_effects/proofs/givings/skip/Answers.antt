use Rattle.std.proofs.Common.{◌∙◌, ap, Some}
use Rattle.edge_actions.specs.Edges.{around_of}
use Rattle.edge_effects.proofs.Effects.{skip_is}
use Rattle.edge_effects.proofs.givings.skip.Goals as goal

pub returns : goal.returns
returns c = λ store.
    skip_is (around_of c.args.view.now) c.args.state.now store c.plain.result c.plain.ensures.added c.plain.ensures.targets
    (c.plain.ensures.state ∙ ap Some c.in_ok-arrived.ensures) (c.plain.ensures.classes ∙ c.no_classes.ensures)
