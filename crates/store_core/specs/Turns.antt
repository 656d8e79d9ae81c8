-- Which of the free tasks is lent: the one that has waited since the oldest version.
use Rattle.std.specs.Prelude.{◌≡◌, ℕ, ◌+◌, ◌<◌, ◌≤◌, false, Option, Some, None}
use Rattle.store_core.specs.Histories.{Past, IsLent, is_settled}
use Rattle.store_core.specs.KeptValues.{last_read}

-- the first version that is new to a task whose last publication had read this one
abbrev pub unread_from : Option ℕ → ℕ
unread_from None = 0
unread_from (Some version) = version + 1

module _ {S : Type 0} where
  -- of the tasks that are neither lent nor settled, none has an older reading, and none of a lower number one as old
  pub record IsNextTask (tasks : ℕ) (past : Past S) (task : ℕ) : Type 0 where
    pub oldest : (other : ℕ) → other < tasks → (IsLent past other → ⊥) → is_settled past other ≡ false
        → unread_from (last_read past task) ≤ unread_from (last_read past other)
    pub lowest : (other : ℕ) → other < tasks → (IsLent past other → ⊥) → is_settled past other ≡ false
        → unread_from (last_read past other) ≡ unread_from (last_read past task) → task ≤ other
