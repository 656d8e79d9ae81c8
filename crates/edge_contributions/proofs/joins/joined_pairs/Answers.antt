use Rattle.std.proofs.Common.{◌≡◌, sym, ap, subst, ◌∙◌, ◌∷◌, [], ◌++◌, ◌+◌, ◌*◌, ◌-◌, ◌<◌, ◌≤◌, take, length, get_or, arith}
use Rattle.edge_contributions.specs.reading.Bounds.{HaveSameBounds}
use Rattle.edge_contributions.proofs.BoundsKept.{pairs_more, pairs_last, pairs_all}
use Rattle.edge_contributions.proofs.joins.joined_pairs.Goals as goal
use Rattle.edge_contributions.proofs.joins.joined_pairs.Goals.{then-parts-eq1+in_ok-last+in_ok-push-2, else-parts-eq1}

pub loop-at-preserved : goal.loop-at-preserved
loop-at-preserved g c =
    let met = g.met.V.Lattice g.world.𝓛 g.world.𝓜 g.world.𝓡 ((λ s x. x), (λ x. x), (λ x. x), λ x. x) in
    let i = c.loop-at.at in
    let xs = c.args.parts.now in
    let l : 2 * i + 1 < length xs = omega (arith, c.loop-at-test.true, c.loop-at.auto.at-end) in
    let more = pairs_more g.V.Lattice.is_value g.V.Lattice.leq g.V.Lattice.joined met.order met.join_laws xs
    c.loop-at.pairs.items i c.index-parts-at.result c.index-parts-at-in-loop-at.result c.requires l c.index-parts-at.is
    c.index-parts-at-in-loop-at.is c.loop-at.invariant in
    subst (λ ps. HaveSameBounds g.V.Lattice.is_value g.V.Lattice.leq (take (2 * (i + 1)) xs) ps)
    (ap (λ p. c.loop-at.pairs.items ++ p ∷ []) (sym c.in_ok-pair.ensures) ∙ sym c.in_ok-push.ensures.items) more

pub returns : goal.returns
returns g c =
    let met = g.met.V.Lattice g.world.𝓛 g.world.𝓜 g.world.𝓡 ((λ s x. x), (λ x. x), (λ x. x), λ x. x) in
    let i = c.loop-at.at in
    let xs = c.args.parts.now in
    elim c.if-parts-eq1.branch [
      | then-parts-eq1+in_ok-last+in_ok-push-2 w ↦
          let n : 2 * i + 1 ≡ length xs =
          omega (arith, c.loop-at-test.false, c.loop-at.auto.at-end, w.if-parts-eq1.true) in
          let at : length xs - 1 ≡ 2 * i = omega (arith, n) in
          let is = subst (λ k. w.index-parts-parts.result ≡ get_or xs k w.index-parts-parts.result) at
          w.index-parts-parts.is in
          let all = pairs_last g.V.Lattice.is_value g.V.Lattice.leq g.V.Lattice.joined met.order met.join_laws xs
          c.loop-at.pairs.items i w.index-parts-parts.result c.requires n is c.loop-at.invariant in
          subst (HaveSameBounds g.V.Lattice.is_value g.V.Lattice.leq xs) (ap (λ p. c.loop-at.pairs.items ++ p ∷ []) (sym w.in_ok-last.ensures)
          ∙ sym w.in_ok-push-2.ensures.items ∙ sym (ap (λ v. v.items) w.pairs-is)) all
      | else-parts-eq1 w ↦
          let l : length xs ≤ 2 * i =
          omega (arith, c.loop-at-test.false, c.loop-at.auto.at-end, w.if-parts-eq1.false) in
          subst (HaveSameBounds g.V.Lattice.is_value g.V.Lattice.leq xs) (sym (ap (λ v. v.items) w.pairs-is)) (pairs_all g.V.Lattice.is_value g.V.Lattice.leq g.V.Lattice.joined met.order
          met.join_laws xs c.loop-at.pairs.items i l c.loop-at.invariant)
    ]
