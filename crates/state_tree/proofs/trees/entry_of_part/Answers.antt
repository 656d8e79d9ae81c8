use Rattle.std.proofs.Common.{◌∙◌, sym, ap}
use Rattle.std.specs.Option.{option_copied}
use Rattle.state_tree.proofs.Parting.{past_of_none}
use Rattle.state_tree.proofs.trees.entry_of_part.Goals as goal

pub returns-in-None : goal.returns-in-None
returns-in-None g c =
    past_of_none 8 c.args.parts.now c.part_of.result c.args.key c.part_of.ensures.value
    (sym c.get.ensures ∙ ap option_copied c.in-None.is)
