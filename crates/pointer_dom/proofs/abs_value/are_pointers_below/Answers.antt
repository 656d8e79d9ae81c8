use Rattle.std.proofs.Common.{refl, sym, ap, subst}
use Rattle.std.specs.Option.{option_copied}
use Rattle.pointer_dom.specs.PointerSets.{IsPointersBelow, no_pointer}
use Rattle.pointer_dom.specs.Forms.{pointers_or_none}
use Rattle.pointer_dom.proofs.ValueFacts.{none_below, below_none}
use Rattle.pointer_dom.proofs.abs_value.are_pointers_below.Goals as goal

pub returns-in-None : goal.returns-in-None
returns-in-None c =
    let q = pointers_or_none (option_copied c.args.other) in
    (λ _. subst (λ p. IsPointersBelow p q) (sym (ap (λ x. pointers_or_none (option_copied x)) c.in-None.is)) (none_below q), λ _. refl)

pub returns-in-None-other : goal.returns-in-None-other
returns-in-None-other c =
    let one = ap (λ x. pointers_or_none (option_copied x)) c.in-Some.is in
    let other = ap (λ x. pointers_or_none (option_copied x)) c.in-None-other.is in
    rw (one, other) (
      λ e. subst (λ p. IsPointersBelow p no_pointer) (sym (c.is_nothing.ensures.nothing.0 e)) (none_below no_pointer),
      λ h. c.is_nothing.ensures.nothing.1 (below_none c.in-Some.pointers.now c.is_nothing.ensures.value h),
    )
