use Rattle.std.proofs.Common.{length, sym, ap, arith}
use Rattle.std.proofs.lemmas.List.Sums.{prefix_len_is}
use Rattle.tm_terms.specs.Splices.{is_in_line}
use Rattle.tm_terms.proofs.bytes.line_length.Goals as goal

pub returns-then-byte-eq10-clause-value : goal.returns-then-byte-eq10-clause-value
returns-then-byte-eq10-clause-value c =
    sym (prefix_len_is is_in_line c.args.text.now c.loop-i.i 0 (omega arith) c.loop-i.invariant (λ _. ap is_in_line c.if-byte-eq10.true))

pub returns-clause-value : goal.returns-clause-value
returns-clause-value c =
    sym (prefix_len_is is_in_line c.args.text.now (length c.args.text.now) 0 (omega arith)
    (λ k h. c.loop-i.invariant k (omega arith)) (λ h. absurd (omega arith)))
