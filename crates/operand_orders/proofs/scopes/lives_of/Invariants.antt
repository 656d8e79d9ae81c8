use Rattle.std.proofs.Common.{◌≡◌, ◌↔◌, ℕ, take}
use Rattle.std.specs.Prelude.{Contains}
use Rattle.path_origins.specs.declared.origins.Life.{Life as ALife}
use Rattle.access_races.specs.reading.Ways.{list_at}
use Rattle.operand_orders.proofs.scopes.lives_of.Given as goal

abbrev pub invariant-loop-life : goal.invariant-loop-life
invariant-loop-life l = (o : ℕ) (life : ALife) → Contains (list_at l.by_object.items o) life
    ↔ (Contains (take l.life-index l.life-items) life × (life.object ≡ o))
