use Rattle.std.proofs.Common.{◌∙◌, sym, ap}
use Rattle.std.specs.Option.{option_copied}
use Rattle.state_tree.proofs.Parting.{part_none}
use Rattle.state_tree.proofs.trees.part_at.Goals as goal

pub returns-in-None : goal.returns-in-None
returns-in-None g c = c.new.ensures ∙ part_none 8 c.args.parts.now c.part_of.result c.args.key c.part_of.ensures.value (sym c.get.ensures ∙ ap option_copied c.in-None.is)
