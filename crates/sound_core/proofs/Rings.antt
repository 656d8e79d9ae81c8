-- The locks of rings are listed.
use Rattle.std.proofs.Common.{refl, ℕ, ◌≤◌, ◌^◌, List, [], ◌∷◌, length, Option, arith}
use Rattle.std.specs.Prelude.{Contains}
use Rattle.sound_tables.specs.tm_terms.declared.places.Place.{Place}
use Rattle.sound_tables.specs.tm_laid.Layouts.{LaidTree}
use Rattle.sound_tables.specs.concrete_steps.Worlds.{World}
use Rattle.sound_tables.specs.concrete_steps.Occurring.{IsReached}
use Rattle.sound_tables.specs.interfere_set.Stores.{Interferences}
use Rattle.sound_tables.specs.transfer_rows.StateForms.{State}
use Rattle.sound_tables.specs.program_equations.Programs.{ProgramBodies, IsProgram}
use Rattle.sound_tables.specs.program_equations.Solutions.{tables_of as lists_of, IsPair}
use Rattle.sound_tables.specs.tm_soundness.Known.{Chain, one_step, more_steps}
use Rattle.sound_core.specs.Sound.{IsProgramFrom}
use Rattle.sound_core.specs.Known.{WaitsFor, HasCircular}
use Rattle.sound_core.proofs.Circles.{circles}
use Rattle.lock_waits.specs.Waits.{AreWaits}
use Rattle.sound_core.specs.Rings.{WaitAlong, IsRing, LocksAt, AllLockAt}

-- ## Chains

module _ (laid : LaidTree) (w : World) where
  abbrev Waits : ℕ → ℕ → Type 0
  Waits = Chain (WaitsFor laid w)

  joined : (i j k : ℕ) → Waits i j → Waits j k → Waits i k
  joined i j k (one_step h) rest = more_steps h rest
  joined i j k (more_steps {b = b} h more) rest = more_steps h (joined b j k more rest)

  chain : (i : ℕ) (tasks : List ℕ) (k : ℕ) → WaitAlong laid w i tasks k → Waits i k
  chain i [] k h = one_step h
  chain i (j ∷ tasks) k h = more_steps h.0 (chain j tasks k h.1)

module _ (laid : LaidTree) (p : ProgramBodies) (from : IsProgramFrom laid p) (is : IsProgram p)
    (few : length laid.objects ≤ 2 ^ 32) (tables : List (List (Option State))) (store : Interferences)
    (pair : IsPair p tables store) (places : List Place) (listed : AreWaits p (lists_of tables) places) (w : World)
    (reached : IsReached laid w) where
  -- a task that waits for itself, over others
  locks : (i : ℕ) → Chain (WaitsFor laid w) i i → LocksAt laid w places i
  locks i c =
      let h : HasCircular p tables laid w i = circles laid p from is few tables store pair w reached i c in
      let r = h.request in
      let q = h.requests in
      record {
        mutex = r.mutex;
        place = r.place;
        next = q.next;
        listed = (listed.exact r.place).1 (record { request = r; circular = h.circular; is = refl });
      }

  -- those behind the first one: each waits for the first, and the first for it
  all_lock : (first i : ℕ) (tasks : List ℕ) → Chain (WaitsFor laid w) first i → WaitAlong laid w i tasks first
      → AllLockAt laid w places tasks
  all_lock first i [] c h = tt
  all_lock first i (j ∷ tasks) c h =
      let to : Chain (WaitsFor laid w) first j = joined laid w first i j c (one_step h.0) in
      (locks j (joined laid w j first j (chain laid w j tasks first h.1) to), all_lock first j tasks to h.1)

  pub ring_listed : (tasks : List ℕ) → IsRing laid w tasks → AllLockAt laid w places tasks
  ring_listed [] h = absurd h
  ring_listed (i ∷ []) h = (locks i (one_step h), tt)
  ring_listed (i ∷ j ∷ tasks) h =
      let whole = chain laid w i (j ∷ tasks) i h in
      (locks i whole, all_lock i i (j ∷ tasks) whole h)

pub no_ring : (laid : LaidTree) (p : ProgramBodies) → IsProgramFrom laid p → (is : IsProgram p)
    → length laid.objects ≤ 2 ^ 32 → (tables : List (List (Option State))) (store : Interferences)
    → IsPair p tables store → AreWaits p (lists_of tables) [] → (w : World) → IsReached laid w → (tasks : List ℕ)
    → IsRing laid w tasks → ⊥
no_ring laid p from is few tables store pair none w reached [] h = h
no_ring laid p from is few tables store pair none w reached (i ∷ tasks) h =
    let l = ring_listed laid p from is few tables store pair [] none w reached (i ∷ tasks) h in
    nothing_in (l.0).place (l.0).listed
  where
    nothing_in : (q : Place) → Contains [] q → ⊥
    nothing_in q c = let a = c.1 in omega (arith, a)
