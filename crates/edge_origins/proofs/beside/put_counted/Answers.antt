use Rattle.std.proofs.Common.{◌∷◌, [], ◌++◌, ap, ◌∙◌}
use Rattle.edge_origins.proofs.Lists.{map_next}
use Rattle.edge_origins.proofs.beside.put_counted.Goals as goal

pub loop-one-preserved : goal.loop-one-preserved
loop-one-preserved g c =
    let counted = g.K.Beside.counted c.args.at in
    let old = c.loop-one.to.items in
    map_next counted c.args.noted.now c.loop-one.one-index c.one-item.result c.args.to.now.items old
    c.push.new.self.items c.loop-one-test.true c.loop-one.invariant
    (c.in_ok-push.ensures.items ∙ ap (λ x. old ++ x ∷ []) (c.in_ok-counted_from.ensures ∙ ap counted c.one-item.is))
