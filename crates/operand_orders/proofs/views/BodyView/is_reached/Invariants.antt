use Rattle.std.proofs.Common.{◌≡◌, ◌<◌, ℕ, false, get_or}
use Rattle.std.specs.Option.{is_some}
use Rattle.operand_orders.specs.reading.Views.{solved, state_at}
use Rattle.operand_orders.proofs.views.BodyView.is_reached.Given as goal

abbrev pub invariant-loop-copy : goal.invariant-loop-copy
invariant-loop-copy l = (k copy : ℕ) → k < l.copy-index → get_or l.copy-items k copy ≡ copy
    → is_some (state_at (solved l.self) copy) ≡ false
