use Rattle.tm_laid.specs.Layouts.{laid_tree}
use Rattle.path_origins.specs.Opens.{is_among}
use Rattle.path_origins.specs.Shown.{sizes_in}
use Rattle.edge_origins.specs.reading.PathNotes.{AreWalked}
use Rattle.edge_origins.proofs.sizes.all_notes.Given as goal

-- the paths so far have been walked
abbrev pub invariant-loop-path : goal.invariant-loop-path
invariant-loop-path l = AreWalked (laid_tree l.laid) (is_among l.opens) (sizes_in l.sizes) l.path l.found.items
