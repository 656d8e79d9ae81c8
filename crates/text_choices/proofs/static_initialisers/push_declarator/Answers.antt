use Rattle.std.proofs.Common.{◌≡◌, ◌++◌, subst}
use Rattle.std.specs.Prelude.{OnOk}
use Rattle.tm_trees.specs.DeclarationTrees.{initialiser_tree}
use Rattle.tm_typed.specs.declared.types.CType.{CType}
use Rattle.tm_laid.specs.Layouts.{laid_tree}
use Rattle.text_choices.specs.reading.Files.{initialiser_choices}
use Rattle.text_choices.proofs.static_initialisers.push_declarator.Goals as goal

pub returns : goal.returns
returns c =
    let P : CType → Type 0 = λ given. OnOk c.push_initialiser.result (c.push_initialiser.new.choices.items
    ≡ c.args.choices.now.items ++ initialiser_choices (laid_tree c.args.laid.now) given (initialiser_tree c.args.one.now.initialiser)) in
    subst P c.given_type-given.ensures c.push_initialiser.ensures
