use Rattle.std.proofs.Common.{subst, sym}
use Rattle.text_choices.specs.Texts.{IsReservedName}
use Rattle.text_choices.proofs.reserved.is_told.Goals as goal

pub returns-then-is_first : goal.returns-then-is_first
returns-then-is_first c =
    let first = c.is_first.ensures.0 c.if-is_first.true in (
      (λ h. (first, subst IsReservedName c.text_of.ensures (c.is_reserved_name.ensures.0 h))),
      (λ p. c.is_reserved_name.ensures.1 (subst IsReservedName (sym c.text_of.ensures) p.1)),
    )

pub returns-else-is_first : goal.returns-else-is_first
returns-else-is_first c = ((λ h. cc), (λ p. let t = c.is_first.ensures.1 p.0 in cc))
