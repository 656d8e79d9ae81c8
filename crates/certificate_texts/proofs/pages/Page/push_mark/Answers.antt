use Rattle.std.proofs.Common.{refl, sym, ap, ◌∙◌, [], ◌∷◌}
use Rattle.std.proofs.lemmas.Result.{on_ok_weaker}
use Rattle.certificate_texts.specs.StateLines.{numbered, marked_lines}
use Rattle.certificate_texts.specs.reading.Pages.{HasLines}
use Rattle.certificate_texts.proofs.Adding.{no_lines, as_lines}
use Rattle.certificate_texts.proofs.pages.Page.push_mark.Goals as goal

pub returns-then-mark : goal.returns-then-mark
returns-then-mark c =
    on_ok_weaker c.push_numbered.result
    (λ (h : HasLines c.args.self.now c.push_numbered.new.self (numbered c.args.letters.now c.from.result ∷ [])).
    as_lines h (ap (λ n. numbered c.args.letters.now n ∷ []) c.from.ensures
    ∙ ap (λ b. marked_lines c.args.letters.now b c.args.cell) (sym c.if-mark.true))) c.push_numbered.ensures

pub returns-else-mark : goal.returns-else-mark
returns-else-mark c =
    as_lines (no_lines c.args.self.now c.args.self.now refl)
    (ap (λ b. marked_lines c.args.letters.now b c.args.cell) (sym c.if-mark.false))
