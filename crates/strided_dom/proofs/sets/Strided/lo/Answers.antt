use Rattle.std.proofs.lemmas.Int.{to_z-of_z}
use Rattle.strided_dom.proofs.Kept.{fits_from_reach, span_of_some, least_from_span}
use Rattle.strided_dom.proofs.sets.Strided.lo.Goals as goal

pub returns-clause-least : goal.returns-clause-least
returns-clause-least c =
    let low = to_z-of_z _ _ (fits_from_reach _ c.self.invariant.low) in
    rw low (least_from_span (span_of_some c.self.inside c.args.self.now c.self.invariant c.self.view_is c.requires))

pub returns-clause-value : goal.returns-clause-value
returns-clause-value c =
    let low = to_z-of_z _ _ (fits_from_reach _ c.self.invariant.low) in
    rw low (span_of_some c.self.inside c.args.self.now c.self.invariant c.self.view_is c.requires).first
