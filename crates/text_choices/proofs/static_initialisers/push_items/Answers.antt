use Rattle.std.proofs.Common.{◌++◌, map, refl, arith}
use Rattle.tm_trees.specs.FileTrees.{item_tree}
use Rattle.tm_laid.specs.Layouts.{laid_tree}
use Rattle.text_choices.specs.reading.Files.{item_choices, file_choices}
use Rattle.text_choices.proofs.Pieces.{piece_more, pieces_all}
use Rattle.text_choices.proofs.static_initialisers.push_items.Goals as goal

pub loop-item-preserved : goal.loop-item-preserved
loop-item-preserved c =
    let laid = laid_tree c.args.laid.now in
    let items = c.args.items.now in
    piece_more (λ is. file_choices laid (map item_tree is)) (λ i. item_choices laid (item_tree i)) items c.loop-item.item-index c.item-item.result
    c.loop-item.choices.items c.push_item.new.choices.items (c.args.choices.now.items ++ file_choices laid (map item_tree items))
    (λ _ _. refl) c.loop-item-test.true c.item-item.is c.in_ok-push_item.ensures c.loop-item.invariant

pub returns : goal.returns
returns c =
    let laid = laid_tree c.args.laid.now in
    let items = c.args.items.now in
    pieces_all (λ is. file_choices laid (map item_tree is)) (λ i. item_choices laid (item_tree i)) items c.loop-item.item-index
    c.loop-item.choices.items (c.args.choices.now.items ++ file_choices laid (map item_tree items)) refl (omega arith) c.loop-item.invariant
