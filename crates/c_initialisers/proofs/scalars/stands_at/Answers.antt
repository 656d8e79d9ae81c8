use Rattle.std.proofs.Common.{◌≡◌, ◌+◌, ◌<◌, true, false, sym, arith}
use Rattle.tm_typed.specs.Scopes.{cells_of}
use Rattle.tm_typed.specs.StaticValues.{is_same_scalar, scalar_at}
use Rattle.c_initialisers.proofs.Cells.{stand_none, stand_more, stand_less}
use Rattle.c_initialisers.proofs.scalars.stands_at.Goals as goal

pub cells-init : goal.cells-init
cells-init c = stand_none c.args.scope.now c.args.of c.args.cell c.args.target

pub cells-preserved : goal.cells-preserved
cells-preserved c =
    let same : is_same_scalar (scalar_at c.args.scope.now c.args.of (c.args.cell + c.cells.index)) (scalar_at c.args.scope.now c.args.target c.cells.index) ≡ true = cc in
    stand_more c.args.scope.now c.args.of c.args.cell c.args.target c.cells.index same c.cells.invariant

pub returns-then-not-is_same_scalar : goal.returns-then-not-is_same_scalar
returns-then-not-is_same_scalar c =
    let below : c.cells.index < cells_of c.args.scope.now c.args.target = omega arith in
    let other : is_same_scalar (scalar_at c.args.scope.now c.args.of (c.args.cell + c.cells.index)) (scalar_at c.args.scope.now c.args.target c.cells.index) ≡ false = cc in
    sym (stand_less c.args.scope.now c.args.of c.args.cell c.args.target (cells_of c.args.scope.now c.args.target) c.cells.index below other)
