use Rattle.std.proofs.Common.{[], arith}
use Rattle.tm_lattice.proofs.Edits.{empty_of}
use Rattle.tm_lattice.proofs.tables.Keyed.new.Goals as goal

pub returns : goal.returns
returns g c = rw c.new.ensures.items (empty_of {V = g.row.V.Denot} [] tt (omega arith))
