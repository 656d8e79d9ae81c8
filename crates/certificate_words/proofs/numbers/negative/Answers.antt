use Rattle.std.proofs.Common.{◌≡◌, ◌∙◌, sym, ap, suc, arith}
use Rattle.std.specs.Prelude.{decimal}
use Rattle.std.proofs.lemmas.Fmt.{decimal_injective}
use Rattle.certificate_words.proofs.numbers.negative.Goals as goal

pub returns-then-n-eq0 : goal.returns-then-n-eq0
returns-then-n-eq0 c = λ n lt e.
    let f : decimal 0 ≡ decimal (suc n) = ap decimal (sym c.if-n-eq0.true) ∙ (sym c.in-Some.ensures ∙ e) in
    let g = decimal_injective 0 (suc n) (omega arith) lt f in omega (arith, g)
