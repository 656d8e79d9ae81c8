use Rattle.tm_laid.specs.Layouts.{laid_tree}
use Rattle.certificate_words.specs.Lines.{words_of}
use Rattle.certificate_reading.proofs.ValuesRead.{nothing_there, nothing_else, not_so}
use Rattle.certificate_reading.proofs.values.value_in.Goals as goal

pub returns-then-is_nothing : goal.returns-then-is_nothing
returns-then-is_nothing c =
    nothing_there (laid_tree c.args.laid.now) (words_of c.args.words.now) c.args.extent.now c.in-Nothing.is
    c.nothing.result c.nothing.ensures (c.is_nothing.ensures.0 c.if-is_nothing.true)

pub returns-else-is_nothing : goal.returns-else-is_nothing
returns-else-is_nothing c =
    nothing_else (laid_tree c.args.laid.now) (words_of c.args.words.now) c.args.extent.now c.in-Nothing.is
    (not_so c.is_nothing.ensures.1 c.if-is_nothing.false)
