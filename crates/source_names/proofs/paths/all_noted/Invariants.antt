use Rattle.std.proofs.Common.{◌≡◌, map, take, length}
use Rattle.tm_laid.specs.Layouts.{laid_tree}
use Rattle.source_names.specs.Paths.{path_shown}
use Rattle.source_names.specs.Paths.{lists_of, shown_path}
use Rattle.source_names.proofs.paths.all_noted.Given as goal

-- the paths so far
abbrev pub invariant-loop-path : goal.invariant-loop-path
invariant-loop-path l =
    (map shown_path l.noted.items ≡ map (path_shown (laid_tree l.laid) (lists_of l.places)) (take l.path-index l.paths))
    × (length l.noted.items ≡ l.path-index)
