-- How the fields of the core follow its history: what it keeps by worker and by task.
use Rattle.std.specs.Prelude.{◌≡◌, ℕ, ◌^◌, ◌<◌, true, false, List, length, get_or, Option, Some, None}
use Rattle.tm_lattice.specs.declared.lattices.Lattice as lattice
use Rattle.tm_lattice.specs.declared.passers.Passer as passer
use Rattle.store_core.specs.declared.slots.Slot.{Slot}
use Rattle.store_core.specs.Histories.{Past, version_of, lent_to, IsLent, store_of, store_at, IsLegal}
use Rattle.store_core.specs.Cores.{Lent}
use Rattle.store_core.specs.KeptValues.{last_read, KeptAfter}

module _ {P S M K : Type 0} (store : lattice.Ghosts S M) (passer : passer.Ghosts P S M)
    (made : P → ℕ → K → Type 0) (made_over : K → S) where
  -- a loan as it is lent again
  abbrev pub loan_at : P → Past S → Option (ℕ × ℕ) → Option (Lent P S K)
  loan_at program past None = None
  loan_at program past (Some (task, version)) = Some (record {
    program = program;
    task = task;
    version = version;
    store = store_at store passer program past version;
    kept = None;
  })

  -- what is kept for a task goes with the history
  pub record IsSlot (program : P) (past : Past S) (task : ℕ) (slot : Slot K) : Type 0 where
    pub lent : slot.lent ≡ true → IsLent past task
    pub free : slot.lent ≡ false → IsLent past task → ⊥
    pub seen : slot.seen ≡ last_read past task
    pub gone : slot.lent ≡ true → slot.kept ≡ None
    pub kept : slot.lent ≡ false → KeptAfter store passer made made_over program past task slot.seen slot.kept

  -- all fields go with a legal history
  pub record IsCore (program : P) (workers : ℕ) (past : Past S) (present : S) (version : ℕ)
      (loans : List (Option (Lent P S K))) (slots : List (Slot K)) : Type 0 where
    pub is_program : passer.is_program program
    pub tasks_fit : passer.task_count program < 2 ^ 32
    pub loan_count : length loans ≡ workers
    pub slot_count : length slots ≡ passer.task_count program
    pub legal : IsLegal store passer program workers past
    pub store_is : present ≡ store_of store passer program past
    pub version_is : version ≡ version_of past
    pub loans_are : (worker : ℕ) (d : Option (Lent P S K)) → worker < workers
        → get_or loans worker d ≡ loan_at program past (lent_to past worker)
    pub slots_are : (task : ℕ) (d : Slot K) → task < passer.task_count program
        → IsSlot program past task (get_or slots task d)
