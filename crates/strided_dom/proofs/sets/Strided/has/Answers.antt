use Rattle.std.proofs.lemmas.Int.{to_z-of_z}
use Rattle.strided_dom.proofs.Decisions.{has_iff, has_none}
use Rattle.strided_dom.proofs.sets.Strided.has.Goals as goal

pub returns-in-None : goal.returns-in-None
returns-in-None c = has_none c.args.self.now c.args.v c.in-None.ensures

pub returns-in-Some : goal.returns-in-Some
returns-in-Some c =
    let e = to_z-of_z _ _ c.ranges.v in
    has_iff c.args.self.now _ _ _ c.args.v _ c.in-Some.ensures (rw e at c.is_among.ensures)
