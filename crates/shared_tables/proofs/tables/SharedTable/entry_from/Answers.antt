use Rattle.std.proofs.Common.{subst}
use Rattle.tm_lattice.specs.Tables.{IsPast}
use Rattle.shared_tables.proofs.Empties.{past_empty}
use Rattle.shared_tables.proofs.tables.SharedTable.entry_from.Goals as goal

pub returns-in-None : goal.returns-in-None
returns-in-None g c = let none = rw c.in-None.is at c.self.view_is in subst (λ t. IsPast t c.args.key) none (past_empty c.args.key)
