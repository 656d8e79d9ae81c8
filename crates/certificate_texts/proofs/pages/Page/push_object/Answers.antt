use Rattle.std.proofs.Common.{sym, ap, ◌∙◌}
use Rattle.std.proofs.lemmas.Result.{on_ok_weaker}
use Rattle.certificate_words.specs.Numbers.{progression_words}
use Rattle.certificate_texts.specs.reading.Pages.{HasWords}
use Rattle.certificate_texts.proofs.Adding.{as_natural, as_words, words_then}
use Rattle.certificate_texts.proofs.pages.Page.push_object.Goals as goal

pub push_set-requires : goal.push_set-requires
push_set-requires c = λ none. c.requires (sym c.set.ensures.value ∙ none)

pub returns : goal.returns
returns c =
    on_ok_weaker c.push_set.result
    (λ (h : HasWords c.push_natural.new.self c.push_set.new.self (progression_words c.set.result)).
    words_then (as_natural c.in_ok-push_natural.ensures c.from.ensures) (as_words h (ap progression_words c.set.ensures.value)))
    c.push_set.ensures
