use Rattle.std.proofs.lemmas.Result.{on_ok_weaker}
use Rattle.certificate_texts.specs.reading.Pages.{HasEnded}
use Rattle.certificate_texts.proofs.Adding.{line_whole}
use Rattle.certificate_texts.proofs.pages.Page.push_numbered.Goals as goal

pub returns : goal.returns
returns c =
    on_ok_weaker c.end.result (λ (h : HasEnded c.push_natural.new.self c.end.new.self).
    line_whole c.in_ok-begin.ensures c.in_ok-push_natural.ensures h) c.end.ensures
