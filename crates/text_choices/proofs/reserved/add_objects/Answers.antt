use Rattle.std.proofs.Common.{◌++◌, [], ◌∷◌, map, ap, ◌∙◌}
use Rattle.tm_trees.specs.DeclarationTrees.{init_declarator_tree}
use Rattle.text_choices.specs.Texts.{objects_of}
use Rattle.text_choices.specs.reading.Declared.{declared_of}
use Rattle.text_choices.proofs.DeclaredLemmas.{objects_step}
use Rattle.text_choices.proofs.reserved.add_objects.Goals as goal

pub loop-one-preserved : goal.loop-one-preserved
loop-one-preserved c =
    c.in_ok-add_object.ensures
    ∙ ap (λ ys. ys ++ objects_of c.args.internal (init_declarator_tree c.one-item.result ∷ [])) c.loop-one.invariant
    ∙ objects_step c.args.internal c.args.declarators.now c.loop-one.one-index c.one-item.result (map declared_of c.args.found.now.items) c.loop-one-test.true c.one-item.is
