-- Histories of a shared store: which worker read which version for which task, and what it published.
use Rattle.std.specs.Prelude.{◌≡◌, ◌≢◌, ◌⊎◌, ℕ, ◌+◌, ◌<◌, Bool, true, false, ◌&&◌, ◌||◌, ◌==◌, if◌then◌else◌, List, []}
use Rattle.std.specs.Prelude.{◌∷◌, ◌++◌, All, Option, Some, None}
use Rattle.tm_lattice.specs.declared.lattices.Lattice as lattice
use Rattle.tm_lattice.specs.declared.passers.Passer as passer

-- a worker was lent a task at a version of the store;
-- or it published what the task adds to that version, and `after` is the version since then
pub data Event (S : Type 0) : Type 0 where
  Read : (worker task version : ℕ) → Event S
  Publish : (worker task version after : ℕ) (added : S) → Event S

-- what happened so far, the newest event first
abbrev pub Past : Type 0 → Type 0
Past S = List (Event S)

module _ {S : Type 0} where
  -- the worker of an event
  abbrev pub worker_of : Event S → ℕ
  worker_of (Read worker task version) = worker
  worker_of (Publish worker task version after added) = worker

  -- the present version
  abbrev pub version_of : Past S → ℕ
  version_of [] = 0
  version_of (Read worker task version ∷ past) = version_of past
  version_of (Publish worker task version after added ∷ past) = after

  -- the task and the version that a worker is lent: its last event is the reading of these
  abbrev pub lent_to : Past S → ℕ → Option (ℕ × ℕ)
  lent_to [] who = None
  lent_to (Read worker task version ∷ past) who = if worker == who then Some (task, version) else lent_to past who
  lent_to (Publish worker task version after added ∷ past) who = if worker == who then None else lent_to past who

  -- some worker is lent the task
  pub record IsLent (past : Past S) (task : ℕ) : Type 0 where
    pub worker : ℕ
    pub version : ℕ
    pub by : lent_to past worker ≡ Some (task, version)

  -- whether a publication of the task over this version stands in the past
  abbrev pub has_published : Past S → ℕ → ℕ → Bool
  has_published [] which over = false
  has_published (Read worker task version ∷ past) which over = has_published past which over
  has_published (Publish worker task version after added ∷ past) which over =
      (task == which && version == over) || has_published past which over

  -- whether a publication of the task over the present version stands in the past
  abbrev pub is_settled : Past S → ℕ → Bool
  is_settled past task = has_published past task (version_of past)

  -- every task is settled, and none is lent
  pub record IsQuiet (tasks : ℕ) (past : Past S) : Type 0 where
    pub settled : (task : ℕ) → task < tasks → is_settled past task ≡ true
    pub none_lent : (task : ℕ) → task < tasks → IsLent past task → ⊥

module _ {P S M : Type 0} (store : lattice.Ghosts S M) (passer : passer.Ghosts P S M) (program : P) where
  -- a store after something was added to it: the rounded join
  abbrev pub with_added : S → S → S
  with_added now added = store.rounded (passer.marks_of program) (store.joined now added)

  -- the present store: the least one, with every publication added in its turn
  abbrev pub store_of : Past S → S
  store_of [] = passer.least program
  store_of (Read worker task version ∷ past) = store_of past
  store_of (Publish worker task version after added ∷ past) = with_added (store_of past) added

  -- the store of a version
  abbrev pub store_at : Past S → ℕ → S
  store_at [] which = passer.least program
  store_at (e ∷ past) which = if version_of (e ∷ past) == which then store_of (e ∷ past) else store_at past which

  -- the task is one of the program's and free: it is neither lent nor settled;
  -- the worker is lent nothing; the version is the present one
  pub record MayRead (workers : ℕ) (past : Past S) (worker task version : ℕ) : Type 0 where
    pub worker_exists : worker < workers
    pub task_exists : task < passer.task_count program
    pub idle : lent_to past worker ≡ None
    pub not_lent : IsLent past task → ⊥
    pub unsettled : is_settled past task ≡ false
    pub present : version ≡ version_of past

  -- the version rises by one exactly where the store changes
  pub record Rises (before after : ℕ) (old new : S) : Type 0 where
    pub cases : ((after ≡ before) × (new ≡ old)) ⊎ ((after ≡ before + 1) × (new ≢ old))

  -- the worker is lent exactly this task and version; what it adds is the pass over the store of that version
  pub record MayPublish (workers : ℕ) (past : Past S) (worker task version after : ℕ) (added : S) : Type 0 where
    pub lent : lent_to past worker ≡ Some (task, version)
    pub is_pass : added ≡ passer.passed program task (store_at past version)
    pub rises : Rises (version_of past) after (store_of past) (with_added (store_of past) added)

  -- the event may follow what happened so far
  abbrev pub May : ℕ → Past S → Event S → Type 0
  May workers past (Read worker task version) = MayRead workers past worker task version
  May workers past (Publish worker task version after added) = MayPublish workers past worker task version after added

  -- each event may follow those before it
  abbrev pub IsLegal : ℕ → Past S → Type 0
  IsLegal workers [] = Unit {0}
  IsLegal workers (e ∷ past) = May workers past e × IsLegal workers past

  -- where the worker read what it publishes now: a reading of this task and version, the last event of the worker,
  -- over whose store the pass was made
  pub record IsPassOverItsReading (past : Past S) (worker task version : ℕ) (added : S) : Type 0 where
    pub since : Past S
    pub before : Past S
    pub read : past ≡ since ++ Read worker task version ∷ before
    pub own : All (λ e. worker_of e ≢ worker) since
    pub is_pass : added ≡ passer.passed program task (store_of before)
