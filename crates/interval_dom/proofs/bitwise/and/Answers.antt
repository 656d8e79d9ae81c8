use Rattle.std.proofs.Common.{pos, ap, ◌∙◌, sym, refl, arith}
use Rattle.std.proofs.lemmas.Int.{ints, clamps, to_z-of_z}
use Rattle.interval_dom.proofs.Corners.{same_span}
use Rattle.std.specs.Int.{w128}
use Rattle.interval_dom.specs.Rows.{from_zero_to, only}
use Rattle.interval_dom.proofs.Bits.{type_and}
use Rattle.interval_dom.proofs.Guarded.{is_le, and_exact, and_left_alone, and_right_alone, and_both, right_guard}
use Rattle.interval_dom.proofs.Ranges.{lo_fits, hi_fits}
use Rattle.interval_dom.proofs.bitwise.and.Goals as goal

pub returns-then-have_one : goal.returns-then-have_one
returns-then-have_one c = and_exact _ _ _ c.args.a.ordered c.args.b.ordered (sym c.have_one.ensures ∙ c.if-have_one.true)
    (c.single.ensures ∙ ap only (type_and w128 _ _ (lo_fits c.args.a c.requires.left) (lo_fits c.args.b c.requires.right)))

pub up_to-requires : goal.up_to-requires
up_to-requires c =
    let low = is_le (pos 0) c.args.b.lo
    (right_guard _ _ _ _ _ _ c.requires.guard (sym c.no_negative.ensures ∙ c.if-not-no_negative.true) (sym c.have_one.ensures ∙ c.if-have_one.false)) in
    omega (arith, ints, hi_fits c.args.b c.requires.right)

pub returns-then-not-no_negative : goal.returns-then-not-no_negative
returns-then-not-no_negative c =
    let e = sym c.no_negative.ensures ∙ c.if-not-no_negative.true in
    let f = sym c.have_one.ensures ∙ c.if-have_one.false in
    and_right_alone _ _ _ _ _ _ _ e (right_guard _ _ _ _ _ _ c.requires.guard e f) f
    (c.up_to.ensures ∙ ap from_zero_to (to_z-of_z w128 _ (hi_fits c.args.b c.requires.right)))

pub returns-then-not-no_negative-2 : goal.returns-then-not-no_negative-2
returns-then-not-no_negative-2 c =
    and_left_alone _ _ _ _ _ _ _ (sym c.no_negative.ensures ∙ c.if-not-no_negative.false) (sym c.no_negative-2.ensures ∙ c.if-not-no_negative-2.true)
    (sym c.have_one.ensures ∙ c.if-have_one.false)
    (c.up_to-then-not-no_negative-2.ensures ∙ ap from_zero_to (to_z-of_z w128 _ (hi_fits c.args.a c.requires.left)))

pub returns : goal.returns
returns c =
    let a = hi_fits c.args.a c.requires.left in
    let b = hi_fits c.args.b c.requires.right in
    and_both _ _ _ _ _ _ _ (sym c.no_negative.ensures ∙ c.if-not-no_negative.false) (sym c.no_negative-2.ensures ∙ c.if-not-no_negative-2.false)
    (sym c.have_one.ensures ∙ c.if-have_one.false)
    (c.up_to-2.ensures ∙ same_span refl (omega (arith, ints, clamps)))
