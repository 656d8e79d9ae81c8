use Rattle.std.proofs.Common.{◌≡◌, map, take}
use Rattle.tm_trees.specs.FileTrees.{item_tree}
use Rattle.text_choices.specs.Texts.{declared_in}
use Rattle.text_choices.specs.reading.Declared.{declared_of}
use Rattle.text_choices.proofs.reserved.declared_in.Given as goal

abbrev pub invariant-loop-item : goal.invariant-loop-item
invariant-loop-item l = map declared_of l.found.items ≡ declared_in (map item_tree (take l.item-index l.file.items.items))
