use Rattle.std.proofs.Common.{ap, ◌∙◌, sym, arith}
use Rattle.std.proofs.lemmas.Int.{ints}
use Rattle.interval_dom.proofs.Corners.{same_span}
use Rattle.std.specs.Int.{w128}
use Rattle.interval_dom.specs.Interval.{span_of}
use Rattle.interval_dom.specs.Rows.{only}
use Rattle.interval_dom.proofs.Bits.{type_or}
use Rattle.interval_dom.proofs.Guarded.{or_exact, lows_of, lows_below_ones, only_guard, left_row}
use Rattle.interval_dom.proofs.Ranges.{lo_fits, back, max_of}
use Rattle.interval_dom.proofs.bitwise.or.Goals as goal

pub returns-then-have_one : goal.returns-then-have_one
returns-then-have_one c = or_exact _ _ _ c.args.a.ordered c.args.b.ordered (sym c.have_one.ensures ∙ c.if-have_one.true)
    (c.single.ensures ∙ ap only (type_or w128 _ _ (lo_fits c.args.a c.requires.left) (lo_fits c.args.b c.requires.right)))

pub highest-requires-clause-left_low : goal.highest-requires-clause-left_low
highest-requires-clause-left_low c = (lows_of (span_of c.args.a) (span_of c.args.b) (only_guard _ _ _ _ c.requires.guard (sym c.have_one.ensures ∙ c.if-have_one.false))).0

pub highest-requires-clause-right_low : goal.highest-requires-clause-right_low
highest-requires-clause-right_low c = (lows_of (span_of c.args.a) (span_of c.args.b) (only_guard _ _ _ _ c.requires.guard (sym c.have_one.ensures ∙ c.if-have_one.false))).1

pub invariant_of-result : goal.invariant_of-result
invariant_of-result c =
    let lows = lows_of (span_of c.args.a) (span_of c.args.b) (only_guard _ _ _ _ c.requires.guard (sym c.have_one.ensures ∙ c.if-have_one.false)) in
    let low = lows_below_ones (span_of c.args.a) (span_of c.args.b) c.args.a.ordered c.args.b.ordered lows in
    let e = max_of c.max.ensures.value (back _ (lo_fits c.args.a c.requires.left)) (back _ (lo_fits c.args.b c.requires.right)) in
    record { ordered = omega (arith, ints) }

pub returns : goal.returns
returns c =
    let f = sym c.have_one.ensures ∙ c.if-have_one.false in
    let al = lo_fits c.args.a c.requires.left in
    let bl = lo_fits c.args.b c.requires.right in
    left_row _ _ _ _ _ (only_guard _ _ _ _ c.requires.guard f) f
    (same_span
    (back _ (record { sfits = c.max.type_inv }) ∙ max_of c.max.ensures.value (back _ al) (back _ bl))
    (omega (arith, ints)))
