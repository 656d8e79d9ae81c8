use Rattle.std.proofs.Common.{length, sym, arith}
use Rattle.std.proofs.lemmas.List.Sums.{prefix_len_is}
use Rattle.tm_terms.specs.Lexis.{is_name_byte}
use Rattle.tm_terms.proofs.bytes.name_length.Goals as goal

pub returns-then-not-is_name_byte-clause-value : goal.returns-then-not-is_name_byte-clause-value
returns-then-not-is_name_byte-clause-value c =
    sym (prefix_len_is is_name_byte c.args.text.now c.loop-i.i 0 (omega arith) c.loop-i.invariant (λ _. cc))

pub returns-clause-value : goal.returns-clause-value
returns-clause-value c =
    sym (prefix_len_is is_name_byte c.args.text.now (length c.args.text.now) 0 (omega arith)
    (λ k h. c.loop-i.invariant k (omega arith)) (λ h. absurd (omega arith)))
