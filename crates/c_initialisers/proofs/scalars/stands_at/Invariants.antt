use Rattle.std.proofs.Common.{◌≡◌, true}
use Rattle.tm_typed.specs.StaticValues.{stand_from}
use Rattle.c_initialisers.proofs.scalars.stands_at.Given as goal

-- the cells so far stand there
abbrev pub invariant-cells : goal.invariant-cells
invariant-cells l = stand_from l.scope l.of l.cell l.target l.index ≡ true
