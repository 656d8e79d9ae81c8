use Rattle.std.proofs.Common.{◌++◌, map, refl, arith}
use Rattle.tm_trees.specs.DeclarationTrees.{init_declarator_tree}
use Rattle.tm_laid.specs.Layouts.{laid_tree}
use Rattle.text_choices.specs.reading.Files.{declarator_choices, declarators_choices}
use Rattle.text_choices.proofs.Pieces.{piece_more, pieces_all}
use Rattle.text_choices.proofs.static_initialisers.push_declarators.Goals as goal

pub loop-one-preserved : goal.loop-one-preserved
loop-one-preserved c =
    let laid = laid_tree c.args.laid.now in
    let ones = c.args.declarators.now in
    piece_more (λ is. declarators_choices laid (map init_declarator_tree is)) (λ i. declarator_choices laid (init_declarator_tree i)) ones c.loop-one.one-index c.one-item.result
    c.loop-one.choices.items c.push_declarator.new.choices.items (c.args.choices.now.items ++ declarators_choices laid (map init_declarator_tree ones))
    (λ _ _. refl) c.loop-one-test.true c.one-item.is c.in_ok-push_declarator.ensures c.loop-one.invariant

pub returns : goal.returns
returns c =
    let laid = laid_tree c.args.laid.now in
    let ones = c.args.declarators.now in
    pieces_all (λ is. declarators_choices laid (map init_declarator_tree is)) (λ i. declarator_choices laid (init_declarator_tree i)) ones c.loop-one.one-index
    c.loop-one.choices.items (c.args.choices.now.items ++ declarators_choices laid (map init_declarator_tree ones)) refl (omega arith) c.loop-one.invariant
