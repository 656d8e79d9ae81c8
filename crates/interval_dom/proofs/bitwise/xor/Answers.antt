use Rattle.std.proofs.Common.{ap, ◌∙◌, sym, refl, arith}
use Rattle.std.proofs.lemmas.Int.{ints}
use Rattle.interval_dom.proofs.Corners.{same_span}
use Rattle.std.specs.Int.{w128}
use Rattle.interval_dom.specs.Interval.{span_of}
use Rattle.interval_dom.specs.Rows.{only}
use Rattle.interval_dom.proofs.Bits.{type_xor}
use Rattle.interval_dom.proofs.Guarded.{xor_exact, lows_of, only_guard, left_row}
use Rattle.interval_dom.proofs.Ranges.{lo_fits}
use Rattle.interval_dom.proofs.bitwise.xor.Goals as goal

pub returns-then-have_one : goal.returns-then-have_one
returns-then-have_one c = xor_exact _ _ _ c.args.a.ordered c.args.b.ordered (sym c.have_one.ensures ∙ c.if-have_one.true)
    (c.single.ensures ∙ ap only (type_xor w128 _ _ (lo_fits c.args.a c.requires.left) (lo_fits c.args.b c.requires.right)))

pub highest-requires-clause-left_low : goal.highest-requires-clause-left_low
highest-requires-clause-left_low c = (lows_of (span_of c.args.a) (span_of c.args.b) (only_guard _ _ _ _ c.requires.guard (sym c.have_one.ensures ∙ c.if-have_one.false))).0

pub highest-requires-clause-right_low : goal.highest-requires-clause-right_low
highest-requires-clause-right_low c = (lows_of (span_of c.args.a) (span_of c.args.b) (only_guard _ _ _ _ c.requires.guard (sym c.have_one.ensures ∙ c.if-have_one.false))).1

pub up_to-requires : goal.up_to-requires
up_to-requires c = omega (arith, ints)

pub returns : goal.returns
returns c =
    let f = sym c.have_one.ensures ∙ c.if-have_one.false in
    left_row _ _ _ _ _ (only_guard _ _ _ _ c.requires.guard f) f
    (c.up_to.ensures ∙ same_span refl (omega (arith, ints)))
