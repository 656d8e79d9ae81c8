use Rattle.std.proofs.Common.{sym, ◌∙◌}
use Rattle.std.proofs.lemmas.Int.{to_z-of_z}
use Rattle.strided_dom.proofs.Kept.{fits_from_reach, empty_from_kept, span_from_kept}
use Rattle.strided_dom.proofs.sets.Strided.ends.Goals as goal

pub returns-then-self : goal.returns-then-self
returns-then-self c =
    let low = to_z-of_z _ _ (fits_from_reach _ c.self.invariant.low) in
    let high = to_z-of_z _ _ (fits_from_reach _ c.self.invariant.high) in
    sym c.self.view_is ∙ empty_from_kept c.self.inside (rw (low, high) at c.if-self.true)

pub returns : goal.returns
returns c =
    let low = to_z-of_z _ _ (fits_from_reach _ c.self.invariant.low) in
    let high = to_z-of_z _ _ (fits_from_reach _ c.self.invariant.high) in
    rw (low, high, ← c.self.view_is) (span_from_kept c.self.inside c.self.invariant (rw (low, high) at c.if-self.false))
