use Rattle.std.proofs.Common.{◌<◌, length, get_or, ◌++◌, ap, ◌∙◌}
use Rattle.tm_trees.specs.FileTrees.{item_tree}
use Rattle.text_choices.specs.Texts.{declared_by}
use Rattle.text_choices.proofs.DeclaredLemmas.{items_step}
use Rattle.text_choices.proofs.reserved.declared_in.Goals as goal

pub loop-item-preserved : goal.loop-item-preserved
loop-item-preserved c =
    let same = c.deref-item-items.ensures.value in
    let inside : c.loop-item.item-index < length c.args.file.now.items.items = rw same at c.loop-item-test.true in
    c.in_ok-add_item.ensures
    ∙ ap (λ ys. ys ++ declared_by (item_tree c.item-item.result)) c.loop-item.invariant
    ∙ items_step c.args.file.now.items.items c.loop-item.item-index c.item-item.result inside (c.item-item.is ∙ ap (λ xs. get_or xs c.loop-item.item-index c.item-item.result) same)
