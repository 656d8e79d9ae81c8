use Rattle.std.proofs.Common.{◌≡◌, drop, map}
use Rattle.tm_trees.specs.FileTrees.{item_tree}
use Rattle.tm_typed.specs.Files.{items_in}
use Rattle.c_typing.specs.Views.{found_of}
use Rattle.c_typing.proofs.items.items_in.Given as goal

abbrev pub invariant-items : goal.invariant-items
invariant-items l = items_in (found_of l.found) (map item_tree (drop l.item-index l.items)) ≡ items_in (found_of l.initial.found) (map item_tree l.items)
