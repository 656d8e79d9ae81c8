use Rattle.std.proofs.Common.{◌≡◌, ◌-◌, [], map}
use Rattle.tm_trees.specs.FileTrees.{item_tree}
use Rattle.c_parser.specs.reading.FileDescent.{items_from}
use Rattle.c_parser.proofs.files.file.Given as goal

-- the rest of the reading gives what the whole gives
abbrev pub invariant-items : goal.invariant-items
invariant-items l = items_from 498 (l.limit - l._i) l.types (map item_tree l.items.items) l.rest ≡ items_from 498 l.limit [] [] l.tokens
