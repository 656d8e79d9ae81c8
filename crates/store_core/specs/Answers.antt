-- The causes of the answers that the calls of the core give, and what each changes.
use Rattle.std.specs.Prelude.{◌≡◌, ℕ, ◌<◌, Bool, false, not, ◌==◌, ◌∷◌, set, slice_get, Some, None}
use Rattle.tm_lattice.specs.declared.lattices.Lattice as lattice
use Rattle.tm_lattice.specs.declared.passers.Passer as passer
use Rattle.store_core.specs.Histories.{Read, Publish, version_of, lent_to, IsLent, is_settled, IsQuiet, store_of}
use Rattle.store_core.specs.Histories.{store_at, MayRead, MayPublish}
use Rattle.store_core.specs.Cores.{Lent, Brought, Core}
use Rattle.store_core.specs.Turns.{IsNextTask}

module _ {P S M K : Type 0} (store : lattice.Ghosts S M) (passer : passer.Ghosts P S M) where
  -- the free task whose reading is the oldest is lent at the present version, with what was kept for it, and the
  -- reading stands in the past
  pub record LendsFreeTask (before after : Core P S K) (worker : ℕ) (lent : Lent P S K) : Type 0 where
    pub may : MayRead store passer before.program before.workers before.past worker lent.task lent.version
    pub next : IsNextTask (passer.task_count before.program) before.past lent.task
    pub program : lent.program ≡ before.program
    pub present : lent.store ≡ store_of store passer before.program before.past
    pub kept : slice_get before.kept lent.task ≡ Some lent.kept
    pub new : after ≡ record before {
      past = Read worker lent.task lent.version ∷ before.past;
      kept = set before.kept lent.task None;
    }

  -- the worker is lent the task already
  pub record IsHolding (before after : Core P S K) (worker task : ℕ) : Type 0 where
    pub version : ℕ
    pub lent : lent_to before.past worker ≡ Some (task, version)
    pub same : after ≡ before

  -- the worker is lent nothing, every task is settled, and none is lent
  pub record IsAllQuiet (before after : Core P S K) (worker : ℕ) : Type 0 where
    pub idle : lent_to before.past worker ≡ None
    pub quiet : IsQuiet (passer.task_count before.program) before.past
    pub same : after ≡ before

  -- the worker is lent nothing, not all is quiet, and each task that is not settled is lent
  pub record IsOthers (before after : Core P S K) (worker : ℕ) : Type 0 where
    pub idle : lent_to before.past worker ≡ None
    pub loud : IsQuiet (passer.task_count before.program) before.past → ⊥
    pub lent : (task : ℕ) → task < passer.task_count before.program
        → is_settled before.past task ≡ false → IsLent before.past task
    pub same : after ≡ before

  -- what was brought is what the worker was lent, with the pass over it, and the publication stands in the past
  pub record IsGrown (before after : Core P S K) (worker : ℕ) (brought : Brought P S K)
      (version : ℕ) (raised : Bool) : Type 0 where
    pub read : ℕ
    pub program : brought.program ≡ before.program
    pub over : brought.store ≡ store_at store passer before.program before.past read
    pub may : MayPublish store passer before.program before.workers before.past
        worker brought.task read version brought.added
    pub raised_is : raised ≡ not (version == version_of before.past)
    pub new : after ≡ record before {
      past = Publish worker brought.task read version brought.added ∷ before.past;
      kept = set before.kept brought.task (Some brought.kept);
    }

  -- the worker is lent nothing
  pub record IsNotLent (before after : Core P S K) (worker : ℕ) : Type 0 where
    pub idle : lent_to before.past worker ≡ None
    pub same : after ≡ before

  -- what is lent to the worker is another program, task or store than what it brought
  pub record IsStranger (before after : Core P S K) (worker : ℕ) (lent : Lent P S K) (brought : Brought P S K)
      : Type 0 where
    pub is_lent : lent_to before.past worker ≡ Some (lent.task, lent.version)
    pub program : lent.program ≡ before.program
    pub over : lent.store ≡ store_at store passer before.program before.past lent.version
    pub bare : lent.kept ≡ None
    pub differ : (lent.program ≡ brought.program) × (lent.task ≡ brought.task) × (lent.store ≡ brought.store) → ⊥
    pub same : after ≡ before
