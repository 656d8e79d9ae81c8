use Rattle.std.proofs.Common.{sym, subst}
use Rattle.pointer_dom.specs.PointerForms.{pointer_of}
use Rattle.pointer_dom.specs.Selections.{IsHullOfPointers, IsOtherPointer}
use Rattle.pointer_dom.proofs.RemovalFacts.{without_null, without_invalid, without_offset}
use Rattle.pointer_dom.proofs.pointer_set.PointerSet.without.Goals as goal

pub returns-in_ok-objects-in-Null : goal.returns-in_ok-objects-in-Null
returns-in_ok-objects-in-Null c =
    let p = c.args.self.now in
    subst (λ x. IsHullOfPointers (IsOtherPointer p (pointer_of x)) p c.from_parts.result) (sym c.in-Null.is)
    (without_null p c.objects.ensures.within c.objects.result.now c.objects.ensures.value c.has_invalid-invalid.result c.from_parts.result c.in_ok-objects-in-Null.objects c.has_invalid-invalid.ensures c.in_ok-objects-in-Null.ensures c.from_parts.ensures)

pub returns-in_ok-objects-in-Invalid : goal.returns-in_ok-objects-in-Invalid
returns-in_ok-objects-in-Invalid c =
    let p = c.args.self.now in
    subst (λ x. IsHullOfPointers (IsOtherPointer p (pointer_of x)) p c.from_parts-in-Invalid.result) (sym c.in-Invalid.is)
    (without_invalid p c.objects-in-Invalid.ensures.within c.objects-in-Invalid.result.now c.objects-in-Invalid.ensures.value c.has_null-null.result c.from_parts-in-Invalid.result c.in_ok-objects-in-Invalid.objects c.has_null-null.ensures c.in_ok-objects-in-Invalid.ensures c.from_parts-in-Invalid.ensures)

pub returns-in_ok-objects-in-To : goal.returns-in_ok-objects-in-To
returns-in_ok-objects-in-To c =
    let p = c.args.self.now in
    subst (λ x. IsHullOfPointers (IsOtherPointer p (pointer_of x)) p c.from_parts-in-To.result) (sym c.in-To.is)
    (without_offset p c.objects-in-To.ensures.within c.objects-in-To.result.now c.objects-in-To.ensures.value c.has_null-null.result c.in-To.object c.in-To.offset c.has_invalid-invalid.result c.from_parts-in-To.result c.in_ok-objects-in-To.objects
    c.has_null-null.ensures c.has_invalid-invalid.ensures c.in_ok-objects-in-To.ensures c.from_parts-in-To.ensures)
