use Rattle.std.proofs.Common.{◌∙◌, ◌<◌, length, subst, arith}
use Rattle.access_races.specs.reading.Ways.{list_at}
use Rattle.access_partners.specs.reading.Accesses.{access_at}
use Rattle.access_partners.specs.reading.Pairs.{IsSame}
use Rattle.access_partners.proofs.Lists.{list_of}
use Rattle.access_partners.proofs.Same.{same_self}
use Rattle.access_partners.proofs.pairs.first_same.Goals as goal

pub returns-then-is_same : goal.returns-then-is_same
returns-then-is_same c =
    let accesses = c.args.accesses.now in
    let points = c.args.points.now in
    let i = c.loop-earlier.earlier in
    let at = c.args.at in
    let in-at : at < length points = omega (arith, c.requires.count, c.requires.at) in
    let in-i : i < length points = omega (arith, in-at) in
    let one = c.deref.ensures.value
    ∙ list_of points i in-i c.index-points-earlier.result c.index-points-earlier.is in
    let other = c.deref-in-loop-earlier.ensures.value ∙ list_of points at in-at c.index-points-at.result c.index-points-at.is in
    let same = c.is_same.ensures c.if-is_same.true in
    record {
      no_later = omega arith;
      same = subst (λ xs. IsSame (access_at accesses i) xs (access_at accesses at) (list_at points at)) one
          (subst (λ xs. IsSame (access_at accesses i) c.deref.result.now (access_at accesses at) xs) other same);
    }

pub returns : goal.returns
returns c = record {
  no_later = omega arith;
  same = same_self (access_at c.args.accesses.now c.args.at) (list_at c.args.points.now c.args.at);
}
