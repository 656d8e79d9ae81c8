use Rattle.std.proofs.Common.{◌≡◌, ◌+◌, drop}
use Rattle.tm_terms.specs.Lexis.{comment_end}
use Rattle.c_lexer.proofs.gaps.comment_end.Given as goal

abbrev pub invariant-loop-i : goal.invariant-loop-i
invariant-loop-i l = comment_end l.start l.text ≡ comment_end (l.start + l.i) (drop l.i l.text)
