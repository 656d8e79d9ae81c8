use Rattle.std.proofs.Common.{ap}
use Rattle.std.specs.Prelude.{codes}
use Rattle.std.proofs.lemmas.Result.{on_ok_weaker}
use Rattle.certificate_texts.specs.StoreLines.{nested_lines}
use Rattle.certificate_texts.specs.reading.Pages.{HasLines}
use Rattle.certificate_texts.proofs.Adding.{as_lines, lines_then}
use Rattle.certificate_texts.proofs.pages.Page.push_store.Goals as goal

pub returns : goal.returns
returns c =
    let weak = as_lines c.in_ok-push_nested.ensures (ap (nested_lines (codes "w")) c.weak.ensures) in
    on_ok_weaker c.push_nested-2.result
    (λ (h : HasLines c.push_nested.new.self c.push_nested-2.new.self (nested_lines (codes "y") c.sync.result.now)).
    lines_then c.in_ok-push_tagged.ensures (lines_then weak (as_lines h (ap (nested_lines (codes "y")) c.sync.ensures))))
    c.push_nested-2.ensures
