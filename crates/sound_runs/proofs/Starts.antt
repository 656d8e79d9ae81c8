-- How runs start, and what all their worlds keep.
use Rattle.std.proofs.Common.{◌≡◌, refl, sym, ap, ◌∙◌, ℕ, zero, suc, ◌+◌, ◌<◌, Bool, true, false, List}
use Rattle.std.proofs.Common.{[], ◌∷◌}
use Rattle.std.proofs.Common.{◌++◌, length, map, get_or, if◌then◌else◌, slice_get, Option, Some, None, arith}
use Rattle.std.proofs.Math.ListN.{get_or-map}
use Rattle.std.proofs.lemmas.List.{length-append, length-map}
use Rattle.layout_laws.specs.tm_typed.declared.files.TypedTask.{TypedTask}
use Rattle.layout_laws.specs.tm_typed.Files.{TypedFileTree}
use Rattle.layout_laws.specs.tm_laid.Layouts.{LaidTree, layout_of}
use Rattle.layout_laws.specs.tm_laid.Paths.{listed}
use Rattle.program_shape.specs.concrete_values.declared.values.Answer.{Answer}
use Rattle.program_shape.specs.concrete_steps.declared.worlds.Status.{Status}
use Rattle.program_shape.specs.concrete_steps.declared.worlds.Status.TheVariants.{Waiting, Ready, Blocked, Done}
use Rattle.program_shape.specs.concrete_steps.NextAction.{next}
use Rattle.program_shape.specs.concrete_steps.Worlds.{Standing, World, holds, is_ended, no_mutex, is_section, is_done}
use Rattle.program_shape.specs.concrete_steps.Worlds.{start}
use Rattle.program_shape.specs.concrete_steps.Worlds.{start_standing, start_tasks, start_section, start_standings}
use Rattle.program_shape.specs.concrete_steps.Worlds.{is_section_done}
use Rattle.program_shape.specs.concrete_steps.Worlds.{no_standing, standing, answers_of, tasks_may_run}
use Rattle.program_shape.specs.concrete_steps.Moves.{status_of, settled_status}
use Rattle.program_shape.specs.concrete_steps.Occurring.{IsReached}
use Rattle.program_shape.proofs.low.concrete_steps.Reached.{none_in}
use Rattle.program_shape.proofs.low.concrete_steps.Moving.{priorities_stay}
use Rattle.lowering_laws.specs.LaidFiles.{IsLaidFile}
use Rattle.program_equations.specs.Programs.{priorities_of}
use Rattle.sound_runs.proofs.Layouts.{of_layout}

-- ## Bodies

HasAllBodies : LaidTree → Type 0
HasAllBodies l = length l.bodies ≡ length l.file.tasks + length (listed l.file.main)

file_bodies : (file : TypedFileTree) → HasAllBodies (layout_of file)
unfolding layout_of HasAllBodies
file_bodies file =
    let functions : List ℕ = map (λ (t : TypedTask). t.function) file.tasks in
    let append = length-append functions (listed file.main) in
    let many = length-map file.tasks (λ (t : TypedTask). t.function) in
    omega (arith, append, many)

-- a body for each task, and one for the initial section where there is one
pub bodies_counted : (laid : LaidTree) → IsLaidFile laid
    → length laid.bodies ≡ length laid.file.tasks + length (listed laid.file.main)
unfolding HasAllBodies
bodies_counted laid is = of_layout laid is HasAllBodies (file_bodies is.file)

-- ## Standings at the start

module _ (laid : LaidTree) where
  abbrev tasks : List TypedTask
  tasks = laid.file.tasks

  settled_if : (s : Standing) (b c : Bool)
      → (if b then record s { status = Done; held = if c then no_mutex laid else s.held } else s).status
      ≡ settled_status b s.status
  settled_if s true c = refl
  settled_if s false c = refl

  settled_priority : (s : Standing) (b c : Bool)
      → (if b then record s { status = Done; held = if c then no_mutex laid else s.held } else s).priority ≡ s.priority
  settled_priority s true c = refl
  settled_priority s false c = refl

  settled_none : (s : Standing) (m : ℕ) (b c : Bool) → holds m s ≡ false
      → holds m (if b then record s { status = Done; held = if c then no_mutex laid else s.held } else s) ≡ false
  settled_none s m true true h = none_in laid.file.mutexes m
  settled_none s m true false h = h
  settled_none s m false c h = h

  abbrev new_standing : ℕ → Status → Standing
  new_standing priority status = record { priority = priority; status = status; held = no_mutex laid }

  task_at : (k : ℕ) (ts : List TypedTask) (rest : List Standing) (i : ℕ) → i < length ts
      → (let s = get_or (start_tasks laid k ts ++ rest) i no_standing in
      s.status ≡ settled_status (is_ended (next laid (k + i) [])) Waiting)
  task_at k [] rest i lt = absurd (omega (arith, lt))
  task_at k (t ∷ ts) rest zero lt =
      settled_if (new_standing t.priority Waiting) (is_ended (next laid k [])) (is_section laid k)
      ∙ ap (λ z. settled_status (is_ended (next laid z [])) Waiting) (let q : k ≡ k + 0 = omega arith in q)
  task_at k (t ∷ ts) rest (suc i) lt =
      task_at (suc k) ts rest i (omega (arith, lt))
      ∙ ap (λ z. settled_status (is_ended (next laid z [])) Waiting) (let q : suc k + i ≡ k + suc i = omega arith in q)

  section_at : (k : ℕ) (ts : List TypedTask) (s : Standing)
      → get_or (start_tasks laid k ts ++ s ∷ []) (length ts) no_standing ≡ s
  section_at k [] s = refl
  section_at k (t ∷ ts) s = section_at (suc k) ts s

  section_none : (main : Option ℕ) (j m : ℕ) → holds m (get_or (start_section laid main) j no_standing) ≡ false
  section_none None j m = refl
  section_none (Some f) zero m =
      settled_none (new_standing 0 Ready) m (is_ended (next laid (length tasks) [])) (is_section laid (length tasks))
      (none_in laid.file.mutexes m)
  section_none (Some f) (suc j) m = refl

  tasks_none : (k : ℕ) (ts : List TypedTask) (rest : List Standing) (i m : ℕ)
      → ((j : ℕ) → holds m (get_or rest j no_standing) ≡ false)
      → holds m (get_or (start_tasks laid k ts ++ rest) i no_standing) ≡ false
  tasks_none k [] rest i m h = h i
  tasks_none k (t ∷ ts) rest zero m h =
      settled_none (new_standing t.priority Waiting) m (is_ended (next laid k [])) (is_section laid k)
      (none_in laid.file.mutexes m)
  tasks_none k (t ∷ ts) rest (suc i) m h = tasks_none (suc k) ts rest i m h

  tasks_length : (k : ℕ) (ts : List TypedTask) (rest : List Standing)
      → length (start_tasks laid k ts ++ rest) ≡ length ts + length rest
  tasks_length k [] rest = omega arith
  tasks_length k (t ∷ ts) rest = let h = tasks_length (suc k) ts rest in omega (arith, h)

  abbrev priority : Standing → ℕ
  priority s = s.priority

  section_priority : (main : Option ℕ) (i : ℕ)
      → get_or (map priority (start_section laid main)) i 0 ≡ get_or (0 ∷ []) i 0
  section_priority None zero = refl
  section_priority None (suc i) = refl
  section_priority (Some f) zero =
      settled_priority (new_standing 0 Ready) (is_ended (next laid (length tasks) [])) (is_section laid (length tasks))
  section_priority (Some f) (suc i) = refl

  tasks_priority : (k : ℕ) (ts : List TypedTask) (main : Option ℕ) (i : ℕ)
      → get_or (map priority (start_tasks laid k ts ++ start_section laid main)) i 0
      ≡ get_or (map (λ (t : TypedTask). t.priority) ts ++ 0 ∷ []) i 0
  tasks_priority k [] main i = section_priority main i
  tasks_priority k (t ∷ ts) main zero =
      settled_priority (new_standing t.priority Waiting) (is_ended (next laid k [])) (is_section laid k)
  tasks_priority k (t ∷ ts) main (suc i) = tasks_priority (suc k) ts main i

  none_answered : (ss : List Standing) (i : ℕ) → get_or (map (λ (s : Standing). (let a : List Answer = [] in a)) ss) i [] ≡ []
  none_answered [] i = refl
  none_answered (s ∷ ss) zero = refl
  none_answered (s ∷ ss) (suc i) = none_answered ss i

  pub starts_are : (start laid).standings ≡ start_standings laid
  unfolding start
  starts_are = refl

  pub start_answers : (i : ℕ) → answers_of (start laid) i ≡ []
  unfolding start
  start_answers i = none_answered (start_standings laid) i

  pub start_task : (i : ℕ) → i < length tasks
      → status_of (start laid) i ≡ settled_status (is_ended (next laid i [])) Waiting
  start_task i lt =
      ap (λ ss. (let s = get_or ss i no_standing in s.status)) starts_are
      ∙ (task_at 0 tasks (start_section laid laid.file.main) i lt
      ∙ ap (λ z. settled_status (is_ended (next laid z [])) Waiting) (let q : 0 + i ≡ i = omega arith in q))

  pub start_main : (f : ℕ) → laid.file.main ≡ Some f
      → status_of (start laid) (length tasks) ≡ settled_status (is_ended (next laid (length tasks) [])) Ready
  start_main f is =
      ap (λ ss. (let s = get_or ss (length tasks) no_standing in s.status)) starts_are
      ∙ (ap (λ o. (let s = get_or (start_tasks laid 0 tasks ++ start_section laid o) (length tasks) no_standing in s.status)) is
      ∙ (ap (λ (s : Standing). s.status) (section_at 0 tasks (start_standing laid (length tasks) 0 Ready))
      ∙ settled_if (new_standing 0 Ready) (is_ended (next laid (length tasks) [])) (is_section laid (length tasks))))

  pub start_held : (i m : ℕ) → holds m (standing (start laid) i) ≡ false
  start_held i m =
      ap (λ ss. holds m (get_or ss i no_standing)) starts_are
      ∙ tasks_none 0 tasks (start_section laid laid.file.main) i m (λ j. section_none laid.file.main j m)

  -- ## What worlds keep

  section_length : (main : Option ℕ) → length (start_section laid main) ≡ length (listed main)
  section_length None = refl
  section_length (Some f) = refl

  pub standings_counted : (w : World) → IsReached laid w
      → length w.standings ≡ length tasks + length (listed laid.file.main)
  standings_counted w r =
      let now = length-map w.standings priority in
      let then_ = length-map (start laid).standings priority in
      let same : length (map priority w.standings) ≡ length (map priority (start laid).standings) =
      ap length (priorities_stay laid w r) in
      let first : length (start laid).standings ≡ length (start_standings laid) = ap length starts_are in
      let all = tasks_length 0 tasks (start_section laid laid.file.main) in
      let more = section_length laid.file.main in
      omega (arith, now, then_, same, first, all, more)

  pub priority_kept : (w : World) → IsReached laid w → (i : ℕ)
      → (standing w i).priority ≡ get_or (priorities_of tasks) i 0
  priority_kept w r i =
      sym (get_or-map priority w.standings i no_standing)
      ∙ (ap (λ l. get_or l i 0) (priorities_stay laid w r ∙ ap (map priority) starts_are)
      ∙ tasks_priority 0 tasks laid.file.main i)

-- ## Where tasks stand

ready_in : (ss : List Standing) (i : ℕ) → (let s = get_or ss i no_standing in s.status ≡ Ready) → i < length ss
ready_in [] i e = absurd (cc)
ready_in (s ∷ ss) zero e = omega arith
ready_in (s ∷ ss) (suc i) e = let h = ready_in ss i e in omega (arith, h)

-- what is ready is a task that there is
pub ready_within : (w : World) (i : ℕ) → status_of w i ≡ Ready → i < length w.standings
ready_within w i e = ready_in w.standings i e

done_is : (x : Status) → is_done x ≡ true → x ≡ Done
done_is Done e = refl
done_is Waiting e = absurd (cc)
done_is Ready e = absurd (cc)
done_is (Blocked m) e = absurd (cc)

done_in : (ss : List Standing) (i : ℕ) → i < length ss → is_section_done (slice_get ss i) ≡ true
    → (let s = get_or ss i no_standing in s.status ≡ Done)
done_in [] i lt e = absurd (omega (arith, lt))
done_in (s ∷ ss) zero lt e = done_is s.status e
done_in (s ∷ ss) (suc i) lt e = done_in ss i (omega (arith, lt)) e

-- where tasks may run, the initial section is done
pub section_done : (laid : LaidTree) (w : World) → length laid.file.tasks < length w.standings
    → tasks_may_run laid w ≡ true → status_of w (length laid.file.tasks) ≡ Done
section_done laid w lt e = done_in w.standings (length laid.file.tasks) lt e
