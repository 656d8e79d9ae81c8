use Rattle.tm_laid.specs.Layouts.{laid_tree}
use Rattle.concrete_worlds.proofs.Cleared.{clear_more}
use Rattle.concrete_worlds.proofs.clearing.clear_cells.Goals as goal

pub loop-offset-preserved : goal.loop-offset-preserved
loop-offset-preserved c =
    let more = clear_more (laid_tree c.args.laid.now) c.args.first c.loop-offset.offset c.args.contents.now.items in
    cc
