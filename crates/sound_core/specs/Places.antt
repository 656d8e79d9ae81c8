-- Where runs read, write, lock and unlock.
use Rattle.std.specs.Prelude.{◌≡◌, ℕ, ◌<◌, length, Some, None}
use Rattle.sound_tables.specs.tm_terms.declared.places.Place.{Place}
use Rattle.sound_tables.specs.tm_laid.Layouts.{LaidTree}
use Rattle.sound_tables.specs.concrete_values.declared.actions.Next.{Next}
use Rattle.sound_tables.specs.concrete_values.declared.actions.Next.TheVariants as Acts
use Rattle.sound_tables.specs.concrete_steps.declared.worlds.Status.TheVariants.{Done}
use Rattle.sound_tables.specs.concrete_steps.Worlds.{World}
use Rattle.sound_tables.specs.concrete_steps.Moves.{status_of}

-- an action that reads, writes, locks or unlocks stands at the place
abbrev pub ActsAt : Next → Place → Type 0
ActsAt (Acts.Load object cell scalar volatile q) place = q ≡ place
ActsAt (Acts.Store object cell scalar value q) place = q ≡ place
ActsAt (Acts.Lock mutex q) place = q ≡ place
ActsAt (Acts.Unlock mutex q) place = q ≡ place
ActsAt action place = ⊥

-- the initial section acts until it is done, and then, or where there is none, the tasks do
pub data MayAct (laid : LaidTree) (w : World) : ℕ → Type 0 where
  section_acts : (main : ℕ) → laid.file.main ≡ Some main → (status_of w (length laid.file.tasks) ≡ Done → ⊥)
      → MayAct laid w (length laid.file.tasks)
  task_acts_after : (main : ℕ) → laid.file.main ≡ Some main → status_of w (length laid.file.tasks) ≡ Done → (task : ℕ)
      → task < length laid.file.tasks → MayAct laid w task
  task_acts : laid.file.main ≡ None → (task : ℕ) → task < length laid.file.tasks → MayAct laid w task
