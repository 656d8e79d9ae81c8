use Rattle.std.specs.Prelude.{Contains}
use Rattle.tm_laid.specs.Layouts.{laid_tree}
use Rattle.text_choices.specs.declared.kinds.Kind.TheVariants as Kinds
use Rattle.text_choices.specs.Choices.{OfKind}
use Rattle.text_choices.specs.reading.Tokens.{restrict_at}
use Rattle.text_choices.specs.reading.Trees.{IsOfTree}
use Rattle.text_choices.proofs.Additions.{Adds-behind}
use Rattle.text_choices.proofs.all.add_of_tokens.Goals as goal

pub returns : goal.returns
returns c =
    Adds-behind c.args.choices.now.items c.add_restricted.new.choices.items c.add_of_tree.new.choices.items
    (OfKind Kinds.Restrict (λ place. Contains c.args.tokens.now (restrict_at place))) (IsOfTree c.args.bytes.now (laid_tree c.args.laid.now) c.args.tokens.now)
    c.in_ok-add_restricted.ensures c.in_ok-add_of_tree.ensures
