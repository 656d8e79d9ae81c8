use Rattle.std.proofs.lemmas.Result.{on_ok_weaker}
use Rattle.certificate_texts.specs.reading.Pages.{HasEnded}
use Rattle.certificate_texts.proofs.Adding.{line_alone}
use Rattle.certificate_texts.proofs.pages.Page.push_tagged.Goals as goal

pub returns : goal.returns
returns c =
    on_ok_weaker c.end.result (λ (h : HasEnded c.begin.new.self c.end.new.self). line_alone c.in_ok-begin.ensures h)
    c.end.ensures
