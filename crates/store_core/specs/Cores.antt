-- What contracts see of snapshots, contributions and the store core.
use Rattle.std.specs.Prelude.{ℕ, List, Option}
use Rattle.store_core.specs.Histories.{Past}

-- a task that was lent: the program, the version and its store, and what an earlier pass of the task kept
pub record Lent (P S K : Type 0) : Type 0 where
  pub program : P
  pub task : ℕ
  pub version : ℕ
  pub store : S
  pub kept : Option K

-- what a task adds to the store of a version, and what its pass kept
pub record Brought (P S K : Type 0) : Type 0 where
  pub program : P
  pub task : ℕ
  pub version : ℕ
  pub store : S
  pub added : S
  pub kept : K

-- the store core: the program, the number of workers, what happened,
-- and what each task's last pass kept, where the task is not lent
pub record Core (P S K : Type 0) : Type 0 where
  pub program : P
  pub workers : ℕ
  pub past : Past S
  pub kept : List (Option K)
