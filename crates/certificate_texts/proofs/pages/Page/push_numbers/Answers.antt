use Rattle.std.proofs.Common.{sym, [], ◌∷◌}
use Rattle.std.specs.Prelude.{codes}
use Rattle.std.proofs.lemmas.Result.{on_ok_weaker}
use Rattle.pointer_dom.specs.PointerSets.{no_pointer}
use Rattle.certificate_words.specs.Words.{tag}
use Rattle.certificate_words.specs.Numbers.{progression_words}
use Rattle.certificate_texts.specs.reading.Pages.{HasWords}
use Rattle.certificate_texts.proofs.Adding.{as_words, words_then}
use Rattle.certificate_texts.proofs.Telling.{none_words, numbers_words}
use Rattle.certificate_texts.proofs.pages.Page.push_numbers.Goals as goal

pub returns-then-is_empty : goal.returns-then-is_empty
returns-then-is_empty c =
    on_ok_weaker c.push_tag.result (λ (h : HasWords c.args.self.now c.push_tag.new.self (tag (codes "e") ∷ [])).
    as_words h (sym (none_words c.args.numbers.now (c.is_empty.ensures.0 c.if-is_empty.true)))) c.push_tag.ensures

pub returns : goal.returns
returns c =
    on_ok_weaker c.push_set.result
    (λ (h : HasWords c.push_tag-2.new.self c.push_set.new.self (progression_words c.args.numbers.now)).
    as_words (words_then c.in_ok-push_tag.ensures h)
    (sym (numbers_words c.args.numbers.now no_pointer (λ none. (let e = c.is_empty.ensures.1 none in cc))))) c.push_set.ensures
