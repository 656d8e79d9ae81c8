use Rattle.std.proofs.Common.{sym, ap, ◌∙◌, ◌++◌}
use Rattle.certificate_texts.specs.Limits.{certificate_limit}
use Rattle.certificate_texts.specs.reading.CellLines.{cells_lines}
use Rattle.certificate_texts.proofs.Cutting.{block}
use Rattle.certificate_texts.proofs.pages.Page.push_kept.Goals as goal

pub returns-in-Ok : goal.returns-in-Ok
returns-in-Ok c =
    let text = c.args.self.now.text.items in
    let kept = c.args.kept.now in
    record {
      text = c.in-Ok.ensures.items ∙ ap (λ t. text ++ t) c.deref.ensures.value
          ∙ sym (block certificate_limit text kept.text.items (cells_lines kept.cells) kept.told c.requires);
    }
