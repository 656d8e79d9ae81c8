use Rattle.std.proofs.Common.{sym, subst, ◌∙◌}
use Rattle.std.proofs.lemmas.Bool.{false≢true}
use Rattle.pointer_dom.specs.Pointer.{null, to}
use Rattle.pointer_dom.specs.PointerForms.{pointer_of}
use Rattle.pointer_dom.specs.Equality.{IsOnly}
use Rattle.pointer_dom.specs.Selections.{IsHullOfPointers}
use Rattle.filters.specs.PointerPartners.{MayBeUnequal}
use Rattle.filters.proofs.PointerFilters.{ok_map, unequal_none, unequal_two, unequal_invalid, unequal_one, null_valid, to_valid}
use Rattle.filters.proofs.pointers.unequal_pointers.Goals as goal

pub returns-then-is_nothing : goal.returns-then-is_nothing
returns-then-is_nothing c = unequal_none c.args.p.now c.args.q.now (c.is_nothing.ensures.nothing.0 c.if-is_nothing.true) c.new.result c.new.ensures

pub returns-in-None : goal.returns-in-None
returns-in-None c =
    ok_map c.copied.result _ _ (λ r e. subst (IsHullOfPointers (MayBeUnequal c.args.p.now c.args.q.now) c.args.p.now) (sym e)
    (unequal_two c.args.p.now c.args.q.now c.objects.ensures.within (λ n. false≢true (sym c.if-is_nothing.false ∙ c.is_nothing.ensures.nothing.1 n)) c.in-None.ensures)) c.copied.ensures

pub returns-in-Some-Invalid : goal.returns-in-Some-Invalid
returns-in-Some-Invalid c =
    ok_map c.copied-in-Some-Invalid.result _ _ (λ r e. subst (IsHullOfPointers (MayBeUnequal c.args.p.now c.args.q.now) c.args.p.now) (sym e)
    (unequal_invalid c.args.p.now c.args.q.now c.objects.ensures.within (subst (λ x. IsOnly c.args.q.now (pointer_of x)) c.in-Some-Invalid.field-0-is c.in-Some-Invalid.ensures))) c.copied-in-Some-Invalid.ensures

pub returns-in-Some-Null : goal.returns-in-Some-Null
returns-in-Some-Null c =
    ok_map c.without.result _ _ (λ r h. unequal_one c.args.p.now c.args.q.now null null_valid (subst (λ x. IsOnly c.args.q.now (pointer_of x)) c.in-Some-Null.field-0-is c.in-Some-Null.ensures) r h) c.without.ensures

pub returns-in-Some-To : goal.returns-in-Some-To
returns-in-Some-To c =
    ok_map c.without-in-Some-To.result _ _ (λ r h. unequal_one c.args.p.now c.args.q.now (to c.in-Some-To.object c.in-Some-To.offset) (to_valid c.in-Some-To.object c.in-Some-To.offset)
    (subst (λ x. IsOnly c.args.q.now (pointer_of x)) c.in-Some-To.field-0-is c.in-Some-To.ensures) r h) c.without-in-Some-To.ensures
