use Rattle.std.proofs.Common.{refl}
use Rattle.tm_laid.specs.Layouts.{laid_tree}
use Rattle.path_origins.specs.Opens.{is_among}
use Rattle.path_origins.specs.Shown.{sizes_in}
use Rattle.edge_origins.proofs.Walked.{walked_more}
use Rattle.edge_origins.proofs.sizes.all_notes.Goals as goal

pub loop-path-preserved : goal.loop-path-preserved
loop-path-preserved c =
    walked_more (laid_tree c.args.laid.now) (is_among c.args.opens.now) (sizes_in c.args.sizes.now) c.loop-path.path
    c.loop-path.found.items c.push.new.self.items c.in_ok-notes.notes c.loop-path.invariant c.in_ok-notes.ensures
    (c.if-not-is_size.ensures refl) c.in_ok-push.ensures.items
