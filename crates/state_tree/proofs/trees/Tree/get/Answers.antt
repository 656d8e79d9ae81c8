use Rattle.std.proofs.Common.{◌∙◌, sym, ap}
use Rattle.std.specs.Option.{option_copied}
use Rattle.state_tree.proofs.Parting.{got_none, got_some}
use Rattle.state_tree.proofs.trees.Tree.get.Goals as goal

pub returns-in-None : goal.returns-in-None
returns-in-None g c = got_none 8 c.self.inside.parts c.args.self.now c.part_of.result c.args.key c.self.invariant c.self.view_is c.part_of.ensures.value
    (sym c.get.ensures ∙ ap option_copied c.in-None.is)

pub returns-in-Some : goal.returns-in-Some
returns-in-Some g c = got_some 8 c.self.inside.parts c.args.self.now c.part_of.result c.args.key c.in-Some.part.now (option_copied c.get_near.result) c.self.invariant c.self.view_is
    c.part_of.ensures.value (sym c.get.ensures ∙ ap option_copied c.in-Some.is) c.get_near.ensures
