use Rattle.tm_laid.specs.Layouts.{laid_tree}
use Rattle.text_choices.specs.declared.kinds.Kind.TheVariants as Kinds
use Rattle.text_choices.specs.Choices.{OfKind}
use Rattle.text_choices.specs.Texts.{IsPragma}
use Rattle.text_choices.specs.reading.Typed.{IsOfTyped}
use Rattle.text_choices.proofs.Additions.{Adds-behind}
use Rattle.text_choices.proofs.all.add_without_tokens.Goals as goal

pub returns : goal.returns
returns c =
    Adds-behind c.args.choices.now.items c.add_pragmas.new.choices.items c.add_of_typed.new.choices.items
    (OfKind Kinds.Pragma (IsPragma c.args.bytes.now)) (IsOfTyped (laid_tree c.args.laid.now))
    c.in_ok-add_pragmas.ensures c.in_ok-add_of_typed.ensures
