use Rattle.tm_laid.specs.Layouts.{laid_tree}
use Rattle.text_choices.proofs.AllLemmas.{adds_without, adds_all}
use Rattle.text_choices.proofs.all.add_text_choices.Goals as goal

pub returns-in_default : goal.returns-in_default
returns-in_default c =
    adds_without c.args.bytes.now (laid_tree c.args.laid.now) c.args.choices.now.items c.add_without_tokens.new.choices.items
    (rw c.in_default.is at c.in_ok-tokens.ensures) c.in_ok-add_without_tokens.ensures

pub returns : goal.returns
returns c =
    let known = rw c.in-Some.is at c.in_ok-tokens.ensures in
    adds_all c.args.bytes.now (laid_tree c.args.laid.now) c.args.choices.now.items c.add_without_tokens.new.choices.items c.add_of_tokens.new.choices.items
    c.in-Some.tokens.items known.0 known.1 c.in_ok-add_without_tokens.ensures (rw c.deref.ensures.value at c.in_ok-add_of_tokens.ensures)
