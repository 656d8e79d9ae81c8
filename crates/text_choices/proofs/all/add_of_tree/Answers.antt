use Rattle.tm_laid.specs.Layouts.{laid_tree}
use Rattle.tm_trees.specs.FileTrees.{file_tree}
use Rattle.text_choices.proofs.AllLemmas.{adds_tree}
use Rattle.text_choices.proofs.all.add_of_tree.Goals as goal

pub returns : goal.returns
returns c =
    let known = rw c.in-Some.is at c.in_ok-file.ensures in
    adds_tree c.args.bytes.now (laid_tree c.args.laid.now) c.args.choices.now.items c.add_reserved_names.new.choices.items c.add_static_moves.new.choices.items
    c.args.tokens.now (file_tree c.in-Some.file) known.0 known.1 c.in_ok-add_reserved_names.ensures c.in_ok-add_static_moves.ensures
