use Rattle.std.specs.Prelude.{Contains}
use Rattle.tm_laid.specs.Layouts.{laid_tree}
use Rattle.text_choices.specs.declared.kinds.Kind.TheVariants as Kinds
use Rattle.text_choices.specs.Choices.{OfKind}
use Rattle.text_choices.specs.Enumerations.{BeginsNegative}
use Rattle.text_choices.proofs.Additions.{Adds-behind}
use Rattle.text_choices.proofs.all.add_of_typed.Goals as goal

pub returns : goal.returns
returns c =
    Adds-behind c.args.choices.now.items c.add_sizes.new.choices.items c.add_enumerations.new.choices.items
    (OfKind Kinds.Layout (Contains c.args.laid.now.file.sizes.items)) (OfKind Kinds.Enum (BeginsNegative (laid_tree c.args.laid.now)))
    (rw c.deref.ensures.value at c.in_ok-add_sizes.ensures) c.in_ok-add_enumerations.ensures
