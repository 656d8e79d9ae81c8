use Rattle.std.proofs.lemmas.Int.{to_z-of_z}
use Rattle.strided_dom.proofs.Kept.{fits_from_reach, empty_iff}
use Rattle.strided_dom.proofs.sets.Strided.is_empty.Goals as goal

pub returns : goal.returns
returns c =
    let low = to_z-of_z _ _ (fits_from_reach _ c.self.invariant.low) in
    let high = to_z-of_z _ _ (fits_from_reach _ c.self.invariant.high) in
    rw (low, high) (empty_iff c.self.inside c.args.self.now c.self.invariant c.self.view_is)
