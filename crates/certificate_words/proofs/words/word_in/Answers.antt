use Rattle.std.proofs.Common.{◌∙◌, sym}
use Rattle.certificate_words.proofs.Tags.{tag_is, no_word}
use Rattle.certificate_words.proofs.words.word_in.Goals as goal

pub returns-then-is_tag : goal.returns-then-is_tag
returns-then-is_tag c = tag_is c.args.bytes.now (sym c.is_tag.ensures ∙ c.if-is_tag.true)

pub returns-in-None : goal.returns-in-None
returns-in-None c = no_word c.args.bytes.now (sym c.is_tag.ensures ∙ c.if-is_tag.false) c.in-None.ensures
