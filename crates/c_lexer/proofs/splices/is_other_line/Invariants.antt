use Rattle.std.proofs.Common.{◌≡◌, drop}
use Rattle.tm_terms.specs.Splices.{is_other_line}
use Rattle.c_lexer.proofs.splices.is_other_line.Given as goal

abbrev pub invariant-loop-i : goal.invariant-loop-i
invariant-loop-i l = is_other_line l.text ≡ is_other_line (drop l.i l.text)
