use Rattle.std.proofs.Common.{◌∙◌, ◌<◌, ◌↔◌, length, get_or, sym, subst, IsTrue, arith}
use Rattle.access_races.specs.reading.Ways.{list_at}
use Rattle.access_partners.specs.reading.Accesses.{access_at}
use Rattle.access_partners.specs.reading.Points.{AreByCells, DoMeet}
use Rattle.access_partners.proofs.Lists.{list_of}
use Rattle.access_partners.proofs.Same.{known_pair}
use Rattle.access_partners.proofs.pairs.is_pair.Goals as goal

pub returns-then-first-other : goal.returns-then-first-other
returns-then-first-other c =
    known_pair c.args.accesses.now c.args.points.now c.args.at c.args.other (get_or c.args.firsts.now c.args.other 0) c.args.known.now c.requires.known
    (c.requires.firsts.each c.args.other c.requires.other) c.if-first-other.true

pub do_meet-requires-clause-one : goal.do_meet-requires-clause-one
do_meet-requires-clause-one c =
    let points = c.args.points.now in
    let within : c.args.at < length points = omega (arith, c.requires.count, c.requires.at) in
    subst AreByCells
    (sym (c.deref.ensures.value ∙ list_of points c.args.at within c.index-points-at.result c.index-points-at.is))
    (c.requires.by_cells.each c.args.at within)

pub do_meet-requires-clause-other : goal.do_meet-requires-clause-other
do_meet-requires-clause-other c =
    let points = c.args.points.now in
    let within : c.args.other < length points = omega (arith, c.requires.count, c.requires.other) in
    subst AreByCells
    (sym (c.deref-2.ensures.value ∙ list_of points c.args.other within c.index-points-other.result
    c.index-points-other.is)) (c.requires.by_cells.each c.args.other within)

pub returns : goal.returns
returns c =
    let accesses = c.args.accesses.now in
    let points = c.args.points.now in
    let at = c.args.at in
    let other = c.args.other in
    let in-at : at < length points = omega (arith, c.requires.count, c.requires.at) in
    let in-other : other < length points = omega (arith, c.requires.count, c.requires.other) in
    let one = c.deref.ensures.value ∙ list_of points at in-at c.index-points-at.result c.index-points-at.is in
    let two = c.deref-2.ensures.value
    ∙ list_of points other in-other c.index-points-other.result c.index-points-other.is in
    subst (λ xs. IsTrue c.do_meet.result
    ↔ DoMeet (access_at accesses at) xs (access_at accesses other) (list_at points other)) one
    (subst (λ xs. IsTrue c.do_meet.result
    ↔ DoMeet (access_at accesses at) c.deref.result.now (access_at accesses other) xs) two c.do_meet.ensures)
