use Rattle.std.proofs.Common.{take}
use Rattle.tm_laid.specs.Layouts.{laid_tree, first_path}
use Rattle.edge_origins.specs.reading.Starts.{AreFollowed}
use Rattle.edge_origins.proofs.starts.starts_of.Given as goal

-- the calls of the paths so far are followed
abbrev pub invariant-loop-index : goal.invariant-loop-index
invariant-loop-index l =
    AreFollowed l.notes (first_path (laid_tree l.laid) l.body) (take l.index l.starts.items) l.starts.items
