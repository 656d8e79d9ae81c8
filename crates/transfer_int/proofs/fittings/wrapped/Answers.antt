use Rattle.std.proofs.Common.{pos, ◌+ℤ◌, ◌∙◌, sym, ap, arith}
use Rattle.std.specs.Int.{w128}
use Rattle.std.proofs.lemmas.Int.{ints, to_z-of_z}
use Rattle.strided_dom.specs.Progression.{IsSpaced}
use Rattle.interval_dom.specs.Interval.{span_of}
use Rattle.tm_numbers.proofs.Congruences.{turns_between}
use Rattle.transfer_int.specs.reading.Fittings.{IsMember}
use Rattle.transfer_int.specs.Values.{turns}
use Rattle.transfer_int.proofs.Fitted.{none_wrapped}
use Rattle.transfer_int.proofs.Placing.{rewrapped, value_kept}
use Rattle.transfer_int.proofs.fittings.wrapped.Goals as goal

pub returns-in-None : goal.returns-in-None
returns-in-None c =
    let low = to_z-of_z w128 c.args.span.lo (omega (arith, ints)) in
    let high = to_z-of_z w128 c.args.span.hi (omega (arith, ints)) in
    none_wrapped c.args.ty (IsMember (span_of c.args.span) c.args.class) c.empty.result (rw (low, high) at c.in-None.ensures) c.empty.ensures

pub returns-in-Some : goal.returns-in-Some
returns-in-Some c =
    let low = to_z-of_z w128 c.args.span.lo (omega (arith, ints)) in
    let high = to_z-of_z w128 c.args.span.hi (omega (arith, ints)) in
    let all = rw (low, high) at c.in-Some.ensures in
    let first = to_z-of_z w128 c.in-Some.row.first (omega (arith, ints)) in
    let turned = turns_between c.turned.ensures.congruent in
    let kept = value_kept c.args.ty c.turned.result c.turned.ensures.in_type in
    rewrapped c.args.ty (IsSpaced c.in-Some.row.first (c.in-Some.row.first +ℤ pos c.in-Some.row.extent) c.in-Some.row.step) (IsMember (span_of c.args.span) c.args.class) c.placed.result
    all.sound all.complete (c.placed.ensures c.in-Some.row.first turned.0 (sym first ∙ turned.1 ∙ ap (λ z. z +ℤ turns c.args.ty turned.0) (sym kept)))
