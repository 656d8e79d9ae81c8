use Rattle.std.proofs.Common.{refl, sym, subst, [], ◌∷◌, Option, ℕ}
use Rattle.std.specs.Prelude.{codes}
use Rattle.std.proofs.lemmas.Result.{on_ok_weaker}
use Rattle.certificate_texts.specs.StateLines.{copy_line_of, paired}
use Rattle.certificate_texts.specs.reading.Pages.{HasLines}
use Rattle.certificate_texts.proofs.Adding.{no_lines}
use Rattle.certificate_texts.proofs.pages.Page.push_copy.Goals as goal

pub returns-in-None : goal.returns-in-None
returns-in-None c =
    subst (λ (o : Option ℕ). HasLines c.args.self.now c.args.self.now (copy_line_of c.args.temp o)) (sym c.in-None.is)
    (no_lines c.args.self.now c.args.self.now refl)

pub returns-in-Some : goal.returns-in-Some
returns-in-Some c =
    on_ok_weaker c.push_pair.result
    (λ (h : HasLines c.args.self.now c.push_pair.new.self (paired (codes "k") c.args.temp c.in-Some.cell ∷ [])).
    subst (λ (o : Option ℕ). HasLines c.args.self.now c.push_pair.new.self (copy_line_of c.args.temp o)) (sym c.in-Some.is) h)
    c.push_pair.ensures
