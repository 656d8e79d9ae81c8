use Rattle.std.proofs.Common.{◌≡◌, drop}
use Rattle.tm_typed.specs.Scopes.{or_else}
use Rattle.tm_typed.specs.StaticValues.{part_at}
use Rattle.c_initialisers.proofs.scalars.part_at.Given as goal

-- what is found so far, or in what is left
abbrev pub invariant-members : goal.invariant-members
invariant-members l = or_else (part_at l.cell (drop l.member-index l.members)) l.last ≡ part_at l.cell l.members
