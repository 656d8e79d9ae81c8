use Rattle.std.proofs.lemmas.Int.{to_z-of_z}
use Rattle.strided_dom.proofs.Kept.{fits_from_reach, span_of_some, greatest_from_span}
use Rattle.strided_dom.proofs.sets.Strided.hi.Goals as goal

pub returns-clause-greatest : goal.returns-clause-greatest
returns-clause-greatest c =
    let high = to_z-of_z _ _ (fits_from_reach _ c.self.invariant.high) in
    rw high (greatest_from_span (span_of_some c.self.inside c.args.self.now c.self.invariant c.self.view_is c.requires))

pub returns-clause-value : goal.returns-clause-value
returns-clause-value c =
    let high = to_z-of_z _ _ (fits_from_reach _ c.self.invariant.high) in
    rw high (span_of_some c.self.inside c.args.self.now c.self.invariant c.self.view_is c.requires).last
