-- What the core keeps of the last pass of each task.
use Rattle.std.specs.Prelude.{◌≡◌, ℕ, ◌==◌, if◌then◌else◌, [], ◌∷◌, Option, Some, None}
use Rattle.tm_lattice.specs.declared.lattices.Lattice as lattice
use Rattle.tm_lattice.specs.declared.passers.Passer as passer
use Rattle.store_core.specs.Histories.{Read, Publish, Past, IsLent, store_of, store_at}

module _ {S : Type 0} where
  -- the version that the last publication of a task had read
  abbrev pub last_read : Past S → ℕ → Option ℕ
  last_read [] which = None
  last_read (Read worker task version ∷ past) which = last_read past which
  last_read (Publish worker task version after added ∷ past) which =
      if task == which then Some version else last_read past which

-- `made program task kept`: a pass of the program for the task has kept it. `made_over kept`: the store of that pass
module _ {P S M K : Type 0} (store : lattice.Ghosts S M) (passer : passer.Ghosts P S M)
    (made : P → ℕ → K → Type 0) (made_over : K → S) where
  -- what was kept for a task after it had read a version: nothing before its first publication
  abbrev pub KeptAfter : P → Past S → ℕ → Option ℕ → Option K → Type 0
  KeptAfter program past task None kept = kept ≡ None
  KeptAfter program past task (Some version) None = ⊥
  KeptAfter program past task (Some version) (Some kept) =
      made program task kept × (made_over kept ≡ store_at store passer program past version)

  -- what the core keeps for a task: nothing where it is lent or was never published, else what its last publication
  -- kept, which was made over the store that this had read
  pub record IsKept (program : P) (past : Past S) (task : ℕ) (kept : Option K) : Type 0 where
    pub gone : IsLent past task → kept ≡ None
    pub here : (IsLent past task → ⊥) → KeptAfter program past task (last_read past task) kept

  -- something was kept, and it was made over the present store
  pub record IsKeptNow (program : P) (past : Past S) (task : ℕ) (kept : Option K) : Type 0 where
    pub what : K
    pub is : kept ≡ Some what
    pub made_is : made program task what
    pub over : made_over what ≡ store_of store passer program past
