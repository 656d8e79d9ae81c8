use Rattle.std.proofs.Common.{◌∙◌, refl, ap}
use Rattle.certificate_words.specs.Lines.{words_of}
use Rattle.certificate_texts.proofs.Adding.{words_of-append}
use Rattle.certificate_texts.proofs.pages.Page.push_tag.Goals as goal

pub returns : goal.returns
returns c = record {
  text = refl;
  words = ap words_of c.in_ok-push.ensures.items ∙ words_of-append c.args.self.now.words.items _;
}
