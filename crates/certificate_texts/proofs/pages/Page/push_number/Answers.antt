use Rattle.std.proofs.Common.{◌∙◌, refl, ap, [], ◌∷◌, ◌++◌}
use Rattle.std.specs.Int.{w128}
use Rattle.std.proofs.lemmas.Int.{to_z-of_z}
use Rattle.certificate_words.specs.Words.{number}
use Rattle.certificate_words.specs.Lines.{words_of}
use Rattle.certificate_texts.proofs.Adding.{words_of-append}
use Rattle.certificate_texts.proofs.pages.Page.push_number.Goals as goal

pub returns : goal.returns
returns c = record {
  text = refl;
  words = ap words_of c.in_ok-push.ensures.items ∙ words_of-append c.args.self.now.words.items _
      ∙ ap (λ z. words_of c.args.self.now.words.items ++ (number z ∷ [])) (to_z-of_z w128 c.args.value c.ranges.value);
}
