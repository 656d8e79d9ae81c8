use Rattle.std.proofs.Common.{◌≡◌, ◌++◌, drop, map}
use Rattle.tm_trees.specs.FileTrees.{item_tree}
use Rattle.tm_laid.specs.Layouts.{laid_tree}
use Rattle.text_choices.specs.reading.Files.{file_choices}
use Rattle.text_choices.proofs.static_initialisers.push_items.Given as goal

-- the choices so far, and those of what is left
abbrev pub invariant-loop-item : goal.invariant-loop-item
invariant-loop-item l =
    l.choices.items ++ file_choices (laid_tree l.laid) (map item_tree (drop l.item-index l.items))
    ≡ l.initial.choices.items ++ file_choices (laid_tree l.laid) (map item_tree l.items)
