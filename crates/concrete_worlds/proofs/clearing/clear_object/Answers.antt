use Rattle.tm_laid.specs.Layouts.{laid_tree}
use Rattle.concrete_worlds.proofs.Cleared.{of_object}
use Rattle.concrete_worlds.proofs.clearing.clear_object.Goals as goal

pub returns : goal.returns
returns c =
    let whole = of_object (laid_tree c.args.laid.now) c.args.object c.args.contents.now.items in
    cc
