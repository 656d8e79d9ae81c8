use Rattle.std.proofs.Common.{◌≡◌, length, get_or, refl, sym, arith}
use Rattle.std.proofs.lemmas.List.Sums.{prefix_len_is}
use Rattle.text_choices.specs.reading.Words.{is_no_blank}
use Rattle.text_choices.proofs.library_names.word_length.Goals as goal

pub returns-then-byte-eq32-clause-value : goal.returns-then-byte-eq32-clause-value
returns-then-byte-eq32-clause-value c =
    let blank : get_or c.args.text.now c.loop-i.i 0 ≡ 32 = cc in
    sym (prefix_len_is is_no_blank c.args.text.now c.loop-i.i 0 (omega arith) c.loop-i.invariant (λ _. rw blank refl))

pub returns-clause-value : goal.returns-clause-value
returns-clause-value c =
    sym (prefix_len_is is_no_blank c.args.text.now (length c.args.text.now) 0 (omega arith) (λ k h. c.loop-i.invariant k (omega arith)) (λ h. absurd (omega arith)))
