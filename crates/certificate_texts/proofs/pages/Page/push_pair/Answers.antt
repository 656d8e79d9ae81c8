use Rattle.std.proofs.lemmas.Result.{on_ok_weaker}
use Rattle.certificate_texts.specs.reading.Pages.{HasEnded}
use Rattle.certificate_texts.proofs.Adding.{as_natural, line_whole, words_then}
use Rattle.certificate_texts.proofs.pages.Page.push_pair.Goals as goal

pub returns : goal.returns
returns c =
    on_ok_weaker c.end.result (λ (h : HasEnded c.push_natural-2.new.self c.end.new.self).
    line_whole c.in_ok-begin.ensures (words_then (as_natural c.in_ok-push_natural.ensures c.from.ensures)
    (as_natural c.in_ok-push_natural-2.ensures c.from-2.ensures)) h) c.end.ensures
