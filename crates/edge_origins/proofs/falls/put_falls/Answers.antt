use Rattle.std.proofs.Common.{ℕ, ◌∷◌, [], ◌++◌, ap, ◌∙◌}
use Rattle.edge_origins.specs.declared.origins.Fall.{Fall}
use Rattle.edge_origins.specs.reading.Gathered.{fall_by}
use Rattle.edge_origins.proofs.Lists.{map_next}
use Rattle.edge_origins.proofs.falls.put_falls.Goals as goal

pub loop-fall-preserved : goal.loop-fall-preserved
loop-fall-preserved c =
    let old = c.loop-fall.to.items in
    let at_edge : ℕ → Fall = λ n. record { place = c.args.place; edge = n } in
    map_next (fall_by c.args.place c.args.at) c.args.falls.now c.loop-fall.fall-index 0 c.args.to.now.items old
    c.push.new.self.items c.loop-fall-test.true c.loop-fall.invariant
    (c.in_ok-push.ensures.items ∙ ap (λ n. old ++ at_edge n ∷ []) c.in_ok-more.ensures)
