use Rattle.std.proofs.Common.{refl, sym, ap, ◌∙◌, [], ◌∷◌}
use Rattle.std.specs.Prelude.{codes}
use Rattle.std.proofs.lemmas.Result.{on_ok_weaker}
use Rattle.certificate_texts.specs.StateLines.{paired}
use Rattle.certificate_texts.specs.reading.Pages.{HasLines}
use Rattle.certificate_texts.proofs.Adding.{no_lines, as_lines}
use Rattle.certificate_texts.proofs.Telling.{pending_none, pending_some}
use Rattle.certificate_texts.proofs.pages.Page.push_pending.Goals as goal

pub returns-then-pending-eq0 : goal.returns-then-pending-eq0
returns-then-pending-eq0 c =
    as_lines (no_lines c.args.self.now c.args.self.now refl) (sym (pending_none c.args.cell c.args.pending c.if-pending-eq0.true))

pub returns : goal.returns
returns c =
    on_ok_weaker c.push_pair.result
    (λ (h : HasLines c.args.self.now c.push_pair.new.self (paired (codes "p") c.args.cell c.from.result ∷ [])).
    as_lines h (ap (λ n. paired (codes "p") c.args.cell n ∷ []) c.from.ensures
    ∙ sym (pending_some c.args.cell c.args.pending c.if-pending-eq0.false))) c.push_pair.ensures
