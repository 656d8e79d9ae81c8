-- The lives of objects.
use Rattle.std.specs.Prelude.{◌≡◌, ◌↔◌, ℕ, List, Contains}
use Rattle.path_origins.specs.declared.origins.Life.{Life}
use Rattle.operand_orders.specs.declared.scopes.ObjectLives.{ObjectLives}
use Rattle.access_races.specs.reading.Ways.{list_at}

-- for each object exactly its lives, of these
pub record AreLivesOf (given : List Life) (lives : ObjectLives) : Type 0 where
  pub each : (object : ℕ) (life : Life) → Contains (list_at lives.by_object.items object) life
      ↔ (Contains given life × (life.object ≡ object))
