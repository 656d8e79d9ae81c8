use Rattle.std.proofs.Common.{◌≡◌, drop}
use Rattle.tm_terms.specs.Splices.{Neither, leaves_open_from}
use Rattle.c_lexer.specs.reading.OpenComments.{within_of}
use Rattle.c_lexer.proofs.splices.leaves_open_where.Given as goal

abbrev pub invariant-loop-i : goal.invariant-loop-i
invariant-loop-i l = leaves_open_from l.paired 0 Neither l.line ≡ leaves_open_from l.paired l.more (within_of l.within) (drop l.i l.line)
