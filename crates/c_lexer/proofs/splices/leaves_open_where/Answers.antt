use Rattle.std.proofs.Common.{◌≡◌, ◌+◌, ◌-◌, drop, drop-drop, sym, ap, ◌∙◌, arith}
use Rattle.tm_terms.specs.Splices.{leaves_open_from}
use Rattle.c_lexer.specs.reading.OpenComments.{within_of}
use Rattle.c_lexer.proofs.SpliceLemmas.{leaves_open_skip}
use Rattle.c_lexer.proofs.splices.leaves_open_where.Goals as goal

pub loop-i-preserved-then-more-gt0 : goal.loop-i-preserved-then-more-gt0
loop-i-preserved-then-more-gt0 c =
    c.loop-i.invariant
    ∙ leaves_open_skip c.args.paired c.loop-i.more (c.loop-i.more - 1) (within_of c.loop-i.within) c.args.line.now c.loop-i.i (omega arith) (omega arith)

pub loop-i-preserved : goal.loop-i-preserved
loop-i-preserved c =
    let line = c.args.line.now in
    let here : c.loop-i.more ≡ 0 = omega arith in
    let further : drop 1 c.behind.result.now ≡ drop (c.loop-i.i + 1) line = ap (drop 1) c.behind.ensures ∙ drop-drop 1 c.loop-i.i line ∙ ap (λ n. drop n line) (omega arith) in
    c.loop-i.invariant
    ∙ ap (λ k. leaves_open_from c.args.paired k (within_of c.loop-i.within) (drop c.loop-i.i line)) here
    ∙ ap (leaves_open_from c.args.paired 0 (within_of c.loop-i.within)) (sym c.behind.ensures)
    ∙ c.in-Some.ensures
    ∙ ap (leaves_open_from c.args.paired c.in-Some.length (within_of c.in-Some.next)) further
