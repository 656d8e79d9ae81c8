-- Rings of tasks that wait for each other, and the places at which they do.
--
-- The task a locks m and then n, the task b locks n and then m. Where a holds m and is blocked at n, and b holds n and
-- is blocked at m, the ring is a, b: a waits for b, and b for a. Each is about to act at its second lock.
use Rattle.std.specs.Prelude.{◌≡◌, ℕ, List, [], ◌∷◌, Contains}
use Rattle.sound_tables.specs.tm_terms.declared.places.Place.{Place}
use Rattle.sound_tables.specs.tm_laid.Layouts.{LaidTree}
use Rattle.sound_tables.specs.concrete_values.declared.actions.Next.TheVariants as Acts
use Rattle.sound_tables.specs.concrete_steps.Worlds.{World, next_at}
use Rattle.sound_core.specs.Known.{WaitsFor}

module _ (laid : LaidTree) (w : World) where
  -- each task is blocked on a mutex that the next one holds, and the last on one that this task holds
  abbrev pub WaitAlong : ℕ → List ℕ → ℕ → Type 0
  WaitAlong i [] k = WaitsFor laid w i k
  WaitAlong i (j ∷ tasks) k = WaitsFor laid w i j × WaitAlong j tasks k

  abbrev pub IsRing : List ℕ → Type 0
  IsRing [] = ⊥
  IsRing (i ∷ tasks) = WaitAlong i tasks i

  -- the next action of the task is a lock at one of the places
  pub record LocksAt (places : List Place) (i : ℕ) : Type 0 where
    pub mutex : ℕ
    pub place : Place
    pub next : next_at laid w i ≡ Acts.Lock mutex place
    pub listed : Contains places place

  abbrev pub AllLockAt : List Place → List ℕ → Type 0
  AllLockAt places [] = Unit {0}
  AllLockAt places (i ∷ tasks) = LocksAt places i × AllLockAt places tasks

  abbrev pub IsLockOfRing : List ℕ → List Place → Type 0
  IsLockOfRing tasks places = AllLockAt places tasks
