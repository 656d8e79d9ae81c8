use Rattle.std.proofs.Common.{◌≡◌, sym, subst, ◌∷◌, take, length, ◌+◌, ◌<◌, ◌≤◌, arith}
use Rattle.std.proofs.lemmas.List.{take_all}
use Rattle.edge_contributions.specs.reading.Bounds.{IsLeastAbove}
use Rattle.edge_contributions.proofs.BoundsKept.{least_one, least_next, least_same}
use Rattle.edge_contributions.proofs.joins.joined_all.Goals as goal

pub loop-at-preserved : goal.loop-at-preserved
loop-at-preserved g c =
    let met = g.met.V.Lattice g.world.𝓛 g.world.𝓜 g.world.𝓡 ((λ s x. x), (λ x. x), (λ x. x), λ x. x) in
    let left = c.in_ok-left.left.items in
    let l : c.loop-at.at < length left = omega (arith, c.loop-at-test.true, c.loop-at.auto.at-end, c.len-at-end.ensures) in
    subst (IsLeastAbove g.V.Lattice.is_value g.V.Lattice.leq (c.args.more ∷ take (c.loop-at.at + 1) left))
    (sym c.in_ok-all.ensures) (least_next g.V.Lattice.is_value g.V.Lattice.leq g.V.Lattice.joined met.order met.join_laws
    c.args.more left c.loop-at.at c.index.result.now c.loop-at.all c.requires.more c.in_ok-left.ensures.values l
    c.index.ensures c.loop-at.invariant)

pub returns : goal.returns
returns g c =
    let met = g.met.V.Lattice g.world.𝓛 g.world.𝓜 g.world.𝓡 ((λ s x. x), (λ x. x), (λ x. x), λ x. x) in
    let left = c.in_ok-left.left.items in
    let l : length left ≤ c.loop-at.at =
    omega (arith, c.loop-at-test.false, c.loop-at.auto.at-end, c.len-at-end.ensures) in
    least_same g.V.Lattice.is_value g.V.Lattice.leq g.V.Lattice.joined met.order met.join_laws c.args.parts.items left
    c.args.more c.loop-at.all c.in_ok-left.ensures (subst (λ ys. IsLeastAbove g.V.Lattice.is_value g.V.Lattice.leq
    (c.args.more ∷ ys) c.loop-at.all) (take_all c.loop-at.at left l) c.loop-at.invariant)
