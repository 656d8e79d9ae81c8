use Rattle.std.proofs.Common.{◌∙◌, sym, ap}
use Rattle.std.specs.Option.{option_copied}
use Rattle.state_tree.proofs.Parting.{past_of_none}
use Rattle.state_tree.proofs.branches.entry_of_part.Goals as goal

pub returns-in-None : goal.returns-in-None
returns-in-None g c =
    past_of_none 32 c.args.parts.now c.part_of-number.result c.args.key c.part_of-number.ensures.value
    (sym c.get_near.ensures ∙ ap option_copied c.in-None.is)
