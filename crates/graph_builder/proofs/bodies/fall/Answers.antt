use Rattle.std.proofs.lemmas.Result.{on_ok_weaker}
use Rattle.body_builder.specs.Fragments.{tree_in, so_far}
use Rattle.graph_builder.proofs.BodyPieces.{any_placed}
use Rattle.graph_builder.proofs.bodies.fall.Goals as goal

pub returns-in-Int : goal.returns-in-Int
returns-in-Int c = on_ok_weaker c.place_result.result
    (any_placed c.args.ctype c.in-Int.of c.args.known c.result_of-temp.result c.any_of-op.result
    (so_far (tree_in c.args.here.now.laid.now) c.args.to.now)
    (so_far (tree_in c.args.here.now.laid.now) c.place_result.new.to) c.in-Int.is c.result_of-temp.ensures
    c.any_of-op.ensures) c.place_result.ensures
