-- Lists in lists.
use Rattle.std.specs.Prelude.{◌≡◌, ℕ, List, [], length}
use Rattle.std.specs.declared.vec.Vec.{Vec}
use Rattle.access_races.specs.reading.Ways.{list_at}

-- so many lists with nothing
pub record AreEmptyLists {X A : Type 0} (lists : List (Vec X A)) (n : ℕ) : Type 0 where
  pub count : length lists ≡ n
  pub none : (i : ℕ) → list_at lists i ≡ []
