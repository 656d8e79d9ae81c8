use Rattle.std.proofs.Common.{◌≡◌, pos, neg_ℤ, arith, ◌∙◌, refl}
use Rattle.std.specs.Int.{int_min, int_max}
use Rattle.std.proofs.lemmas.Int.{ints}
use Rattle.interval_dom.specs.Interval.{span_of}
use Rattle.interval_dom.specs.Rows.{rem_limit}
use Rattle.interval_dom.proofs.Corners.{same_span}
use Rattle.interval_dom.proofs.Remainders.{around_zero}
use Rattle.interval_dom.proofs.Ranges.{back, between_back, min_of, max_of, lo_fits, hi_fits}
use Rattle.interval_dom.proofs.arithmetic.rem.Goals as goal

pub invariant_of-result : goal.invariant_of-result
invariant_of-result c =
    let low : c.max.result ≡ int_max (neg_ℤ (rem_limit (span_of c.args.b))) (int_min c.args.a.lo (pos 0)) = max_of {p = neg_ℤ (rem_limit (span_of c.args.b))} {q = int_min c.args.a.lo (pos 0)} c.max.ensures.value (omega (arith, ints))
    (back _ (record { sfits = c.min.type_inv }) ∙ min_of {p = c.args.a.lo} {q = pos 0} c.min.ensures.value (back _ (lo_fits c.args.a c.requires.left)) refl) in
    let high : c.min-2.result ≡ int_min (rem_limit (span_of c.args.b)) (int_max c.args.a.hi (pos 0)) = min_of {p = rem_limit (span_of c.args.b)} {q = int_max c.args.a.hi (pos 0)} c.min-2.ensures.value (omega (arith, ints))
    (back _ (record { sfits = c.max-2.type_inv }) ∙ max_of {p = c.args.a.hi} {q = pos 0} c.max-2.ensures.value (back _ (hi_fits c.args.a c.requires.left)) refl) in
    let sides = around_zero (rem_limit (span_of c.args.b)) c.args.a.lo c.args.a.hi (omega (arith, ints)) in
    record { ordered = between_back _ _ _ _ (record { sfits = c.max.type_inv }) (record { sfits = c.min-2.type_inv }) low high sides }

pub returns : goal.returns
returns c =
    same_span
    (back _ (record { sfits = c.max.type_inv })
    ∙ max_of {p = neg_ℤ (rem_limit (span_of c.args.b))} {q = int_min c.args.a.lo (pos 0)} c.max.ensures.value (omega (arith, ints))
    (back _ (record { sfits = c.min.type_inv }) ∙ min_of {p = c.args.a.lo} {q = pos 0} c.min.ensures.value (back _ (lo_fits c.args.a c.requires.left)) refl))
    (back _ (record { sfits = c.min-2.type_inv })
    ∙ min_of {p = rem_limit (span_of c.args.b)} {q = int_max c.args.a.hi (pos 0)} c.min-2.ensures.value (omega (arith, ints))
    (back _ (record { sfits = c.max-2.type_inv }) ∙ max_of {p = c.args.a.hi} {q = pos 0} c.max-2.ensures.value (back _ (hi_fits c.args.a c.requires.left)) refl))
