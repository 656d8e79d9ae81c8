use Rattle.std.proofs.Common.{◌∙◌, sym, ap}
use Rattle.std.specs.FinMap.{entries}
use Rattle.shared_tables.proofs.Empties.{entries_empty}
use Rattle.shared_tables.proofs.tables.SharedTable.entries.Goals as goal

pub returns-in-None : goal.returns-in-None
returns-in-None g c = let none = rw c.in-None.is at c.self.view_is in sym entries_empty ∙ ap entries none
