use Rattle.std.proofs.Common.{subst}
use Rattle.tm_lattice.specs.Tables.{IsTable}
use Rattle.shared_tables.proofs.Empties.{empty_is}
use Rattle.shared_tables.proofs.tables.SharedTableLattice.is_nothing.Goals as goal

pub returns-in-None-clause-value : goal.returns-in-None-clause-value
returns-in-None-clause-value g c =
    let none = rw c.in-None.is at c.self.view_is in
    subst (IsTable g.V.Lattice.is_value g.V.Lattice.nothing) none (empty_is g.V.Lattice.is_value g.V.Lattice.nothing)
