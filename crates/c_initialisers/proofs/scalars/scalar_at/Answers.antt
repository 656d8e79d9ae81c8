use Rattle.std.proofs.Common.{◌<◌, ◌≤◌, suc, length, ap, arith}
use Rattle.c_initialisers.specs.reading.Cells.{found_tree}
use Rattle.c_initialisers.proofs.Cells.{way_found, way_lost, way_step, way_ended}
use Rattle.c_initialisers.proofs.scalars.scalar_at.Goals as goal

pub returns-in-Scalar : goal.returns-in-Scalar
returns-in-Scalar c =
    let below : c.inside._depth < suc (suc (length c.args.scope.now.types)) = omega arith in
    way_found c.args.scope.now _ c.inside._depth (found_tree c.inside.found) c.in-Scalar.scalar _ below (ap found_tree c.in-Scalar.is) c.inside.invariant

pub returns-in-Nowhere : goal.returns-in-Nowhere
returns-in-Nowhere c =
    let below : c.inside._depth < suc (suc (length c.args.scope.now.types)) = omega arith in
    way_lost c.args.scope.now _ c.inside._depth (found_tree c.inside.found) _ below (ap found_tree c.in-Nowhere.is) c.inside.invariant

pub inside-preserved : goal.inside-preserved
inside-preserved c =
    let below : c.inside._depth < suc (suc (length c.args.scope.now.types)) = omega arith in
    way_step c.args.scope.now _ c.inside._depth c.in-Inside.of c.in-Inside.cell (found_tree c.inside.found) (found_tree c.look_in-found.result) _ below (ap found_tree c.in-Inside.is) c.look_in-found.ensures c.inside.invariant

pub returns : goal.returns
returns c =
    let over : suc (suc (length c.args.scope.now.types)) ≤ c.inside._depth = omega arith in
    way_ended c.args.scope.now _ c.inside._depth (found_tree c.inside.found) _ over c.inside.invariant
