use Rattle.std.proofs.Common.{◌≡◌, ◌<◌, ℕ, get_or}
use Rattle.path_origins.specs.declared.origins.Life.{Life as ALife}
use Rattle.operand_orders.specs.Reached.{IsWithin}
use Rattle.operand_orders.proofs.scopes.is_in_one.Given as goal

abbrev pub invariant-loop-life : goal.invariant-loop-life
invariant-loop-life l =
    (k : ℕ) (life : ALife) → k < l.life-index → get_or l.lives k life ≡ life → IsWithin l.edge life.scope → ⊥
