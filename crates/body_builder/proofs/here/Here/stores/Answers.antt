use Rattle.body_builder.specs.Fragments.{tree_in, so_far}
use Rattle.body_builder.proofs.Joining.{stores_more}
use Rattle.body_builder.proofs.here.Here.stores.Goals as goal

pub loop-argument-preserved : goal.loop-argument-preserved
loop-argument-preserved c =
    stores_more (tree_in c.args.self.now.laid.now) c.args.path c.loop-argument.number c.in_ok-number.number
    c.loop-argument.argument-index c.in_ok-object.object c.args.arguments.now c.args.place
    (so_far (tree_in c.args.self.now.laid.now) c.loop-argument.to)
    (so_far (tree_in c.args.self.now.laid.now) c.store_argument.new.to) _ c.loop-argument-test.true
    c.in_ok-object.ensures c.in_ok-store_argument.ensures c.in_ok-number.ensures c.loop-argument.invariant
