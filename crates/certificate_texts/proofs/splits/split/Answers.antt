use Rattle.std.proofs.Common.{◌+◌, ◌<◌, ◌^◌, ◌∙◌, ap, length, get_or, arith}
use Rattle.certificate_texts.proofs.Splitting.{told_text, no_count_never, is_long, break_there, slice_rest, found}
use Rattle.certificate_texts.proofs.splits.split.Goals as goal

pub returns-in_default : goal.returns-in_default
returns-in_default c = λ start end is. c.in_default.ensures _ (told_text c.args.bytes.now start end is)

pub returns-in_default-count_in : goal.returns-in_default-count_in
returns-in_default-count_in c = λ start end is.
    (let short : length c.args.bytes.now < 2 ^ 64 = omega arith in
    no_count_never c.args.bytes.now start end is short c.in-Some.told.now c.in-Some.ensures c.in_default-count_in.ensures)

pub returns-then-found-source : goal.returns-then-found-source
returns-then-found-source c = λ start end is.
    (let short : length c.args.bytes.now < 2 ^ 64 = omega arith in
    let told = c.in-Some.told.now in
    let it = c.in-Some-count_in.found in
    let long = is_long c.args.bytes.now start end is short told c.in-Some.ensures it.count it.digits c.in-Some-count_in.ensures in
    let size = ap length (slice_rest told (it.digits + 1)) in
    let le = c.if-found-source.true in
    omega (arith, long, size, le))

pub returns-then-source-length-ne10 : goal.returns-then-source-length-ne10
returns-then-source-length-ne10 c = λ start end is.
    (let short : length c.args.bytes.now < 2 ^ 64 = omega arith in
    let told = c.in-Some.told.now in
    let it = c.in-Some-count_in.found in
    c.if-source-length-ne10.true (ap (λ t. get_or t it.count 0) (slice_rest told (it.digits + 1))
    ∙ break_there c.args.bytes.now start end is short told c.in-Some.ensures it.count it.digits c.in-Some-count_in.ensures))

pub returns : goal.returns
returns c =
    let told = c.in-Some.told.now in
    let it = c.in-Some-count_in.found in
    found c.args.bytes.now told _ it.count it.digits (slice_rest told (it.digits + 1)) c.in-Some.ensures
    c.in-Some-count_in.ensures c.if-found-source.false c.if-source-length-ne10.false
