use Rattle.std.proofs.Common.{◌≡◌, ◌+◌, length, drop, drop-drop, length-drop, ap, ◌∙◌, arith}
use Rattle.tm_terms.specs.Splices.{splice, unspliced}
use Rattle.c_lexer.proofs.SpliceLemmas.{unspliced_more}
use Rattle.c_lexer.proofs.splices.unspliced.Goals as goal

pub loop-at-preserved : goal.loop-at-preserved
loop-at-preserved c =
    let text = c.args.text.now in
    let rest = drop c.loop-at.at text in
    let further : drop c.splice-length.result rest ≡ drop (c.loop-at.at + c.splice-length.result) text = drop-drop c.splice-length.result c.loop-at.at text ∙ ap (λ n. drop n text) (omega arith) in
    record {
      within = omega (arith, c.splice-length.ensures.within, ap length c.behind.ensures, length-drop c.loop-at.at text);
      rest = c.loop-at.invariant.rest ∙ unspliced_more rest c.splice-length.result (c.splice-length.ensures.value ∙ ap splice c.behind.ensures) (omega arith) ∙ ap (unspliced 0) further;
    }
