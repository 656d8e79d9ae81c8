use Rattle.std.proofs.Common.{length, sym, arith}
use Rattle.std.proofs.lemmas.List.Sums.{prefix_len_is}
use Rattle.tm_terms.specs.Splices.{is_blank_in_line}
use Rattle.source_marks.proofs.lines.blanks.Goals as goal

pub returns-then-not-is_blank-clause-value : goal.returns-then-not-is_blank-clause-value
returns-then-not-is_blank-clause-value c =
    sym (prefix_len_is is_blank_in_line c.args.line.now c.loop-i.i 0 (omega arith) c.loop-i.invariant (λ _. cc))

pub returns-clause-value : goal.returns-clause-value
returns-clause-value c =
    sym (prefix_len_is is_blank_in_line c.args.line.now (length c.args.line.now) 0 (omega arith)
    (λ k h. c.loop-i.invariant k (omega arith)) (λ h. absurd (omega arith)))
