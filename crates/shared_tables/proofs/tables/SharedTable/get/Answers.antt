use Rattle.std.proofs.Common.{◌∙◌, sym, ap}
use Rattle.std.specs.Ordering.{nat_cmp}
use Rattle.std.specs.FinMap.{get, get-empty}
use Rattle.shared_tables.proofs.tables.SharedTable.get.Goals as goal

pub returns-in-None : goal.returns-in-None
returns-in-None g c = let none = rw c.in-None.is at c.self.view_is in sym (ap (λ t. get t c.args.key) (sym none) ∙ get-empty nat_cmp c.args.key)
