use Rattle.std.proofs.Common.{◌≡◌, take}
use Rattle.tm_lattice.specs.Tables.{rounded_entries}
use Rattle.tm_lattice.proofs.tables.KeyedLattice.round.Given as goal

abbrev pub invariant-loop-key : goal.invariant-loop-key
invariant-loop-key g l = l.entries.items ≡ rounded_entries (g.V.Lattice.rounded l.marks) (take l.key-index l.key-items)
