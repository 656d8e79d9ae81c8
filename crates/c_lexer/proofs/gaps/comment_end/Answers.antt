use Rattle.std.proofs.Common.{arith}
use Rattle.std.proofs.lemmas.Grind.{common_steps}
use Rattle.c_lexer.proofs.GapLemmas.{comment_end_more}
use Rattle.c_lexer.proofs.gaps.comment_end.Goals as goal

pub loop-i-preserved : goal.loop-i-preserved
loop-i-preserved c =
    let more = comment_end_more c.args.start c.args.text.now c.loop-i.i (omega arith) in
    grind (arith, common_steps, more)
