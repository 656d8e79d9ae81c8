-- The rounds of a program's passes over its store, and the histories in which they come one by one.
use Rattle.std.specs.Prelude.{◌≡◌, ℕ, zero, suc, ◌<◌, List, [], ◌∷◌, Contains}
use Rattle.tm_lattice.specs.declared.lattices.Lattice as lattice
use Rattle.tm_lattice.specs.declared.passers.Passer as passer

module _ {P S M : Type 0} (store : lattice.Ghosts S M) (passer : passer.Ghosts P S M) (program : P) where
  -- a store joined with the passes of the tasks below a number over it
  abbrev pub with_passes : ℕ → S → S
  with_passes zero s = s
  with_passes (suc task) s = store.joined (with_passes task s) (passer.passed program task s)

  -- the rounds: from the bottom, each next one the rounded join of the one before with the passes of all tasks over it
  abbrev pub up : ℕ → S
  up zero = passer.least program
  up (suc k) = store.rounded (passer.marks_of program) (with_passes (passer.task_count program) (up k))

  -- a store after a publication: what stood before, joined with a task's pass over some store that was read, and
  -- rounded
  pub record IsPublished (before : S) (stores : List S) (after : S) : Type 0 where
    pub task : ℕ
    pub exists : task < passer.task_count program
    pub read : S
    pub stood : Contains stores read
    pub joins : after ≡ store.rounded (passer.marks_of program) (store.joined before (passer.passed program task read))

  -- a history, the newest store first: it begins with the bottom, and each later store is a publication over the one
  -- before, from any store so far
  abbrev pub IsHistory : List S → Type 0
  IsHistory [] = ⊥
  IsHistory (s ∷ []) = s ≡ passer.least program
  IsHistory (s ∷ now ∷ before) = IsPublished now (now ∷ before) s × IsHistory (now ∷ before)

  -- a store that fits, is its own rounding and is raised by no pass
  pub record IsClosed (s : S) : Type 0 where
    pub fits : passer.fits program s
    pub rounding : store.rounded (passer.marks_of program) s ≡ s
    pub passes : (task : ℕ) → task < passer.task_count program → store.leq (passer.passed program task s) s
