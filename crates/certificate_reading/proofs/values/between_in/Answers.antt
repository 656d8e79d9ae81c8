use Rattle.std.proofs.Common.{sym}
use Rattle.std.proofs.lemmas.Int.{to_z-of_z}
use Rattle.certificate_words.specs.Lines.{words_of}
use Rattle.certificate_reading.proofs.ValuesRead.{nothing_between, no_numbers, more_words, outside, between, not_so}
use Rattle.certificate_reading.proofs.ValuesRead.{empty_rest}
use Rattle.certificate_reading.proofs.ValuesRead.{lies_passed, some_rest}
use Rattle.certificate_reading.proofs.values.between_in.Goals as goal

pub returns-then-is_nothing : goal.returns-then-is_nothing
returns-then-is_nothing c =
    nothing_between c.args.low c.args.high (words_of c.args.words.now) c.nothing.result c.nothing.ensures
    (c.is_nothing.ensures.0 c.if-is_nothing.true)

pub returns-in_default : goal.returns-in_default
returns-in_default c =
    no_numbers c.args.low c.args.high (words_of c.args.words.now) (not_so c.is_nothing.ensures.1 c.if-is_nothing.false)
    c.in_default.ensures

pub returns-then-not-is_empty : goal.returns-then-not-is_empty
returns-then-not-is_empty c =
    more_words c.args.low c.args.high (words_of c.args.words.now) (not_so c.is_nothing.ensures.1 c.if-is_nothing.false)
    (words_of c.in-Some.rest.now) c.in-Some.ensures c.in-Some-set_in.found.0 (words_of c.in-Some-set_in.found.1.now)
    c.in-Some-set_in.ensures
    (some_rest c.in-Some-set_in.found.1.now c.is_empty.result c.is_empty.ensures c.if-not-is_empty.true)

pub returns-then-not-lies_between : goal.returns-then-not-lies_between
returns-then-not-lies_between c =
    outside c.args.low c.args.high (words_of c.args.words.now) (not_so c.is_nothing.ensures.1 c.if-is_nothing.false)
    (words_of c.in-Some.rest.now) c.in-Some.ensures c.in-Some-set_in.found.0 (words_of c.in-Some-set_in.found.1.now)
    c.in-Some-set_in.ensures
    (empty_rest c.in-Some-set_in.found.1.now c.is_empty.result c.is_empty.ensures c.if-not-is_empty.false)
    (λ near.
    not_so c.lies_between.ensures.1 c.if-not-lies_between.true
    (lies_passed c.args.low c.args.high _ _ c.in-Some-set_in.found.0 (sym (to_z-of_z _ _ c.ranges.low))
    (sym (to_z-of_z _ _ c.ranges.high)) near))

pub returns : goal.returns
returns c =
    between c.args.low c.args.high (words_of c.args.words.now) (not_so c.is_nothing.ensures.1 c.if-is_nothing.false)
    (words_of c.in-Some.rest.now) c.in-Some.ensures c.in-Some-set_in.found.0 (words_of c.in-Some-set_in.found.1.now)
    c.in-Some-set_in.ensures
    (empty_rest c.in-Some-set_in.found.1.now c.is_empty.result c.is_empty.ensures c.if-not-is_empty.false)
    c.from_numbers.result c.from_numbers.ensures
    (lies_passed _ _ c.args.low c.args.high c.in-Some-set_in.found.0 (to_z-of_z _ _ c.ranges.low)
    (to_z-of_z _ _ c.ranges.high) (c.lies_between.ensures.0 c.if-not-lies_between.false))
