-- What each step keeps: the number of cells, and that each task has a place for each mutex.
use Rattle.std.proofs.Common.{◌≡◌, refl, ap, subst, ◌∙◌, ℕ, zero, suc, ◌<◌, ◌≤◌, Bool, true, false, List}
use Rattle.std.proofs.Common.{[], ◌∷◌, ◌++◌}
use Rattle.std.proofs.Common.{◌&&◌, length, map, get_or, drop, if◌then◌else◌, slice_get, slice_set, Option, Some}
use Rattle.std.proofs.Common.{None, arith, ℤ}
use Rattle.std.proofs.lemmas.List.{length-drop, length-append, length-map}
use Rattle.layout_laws.specs.tm_cint.declared.Class.TheVariants as Classes
use Rattle.layout_laws.specs.tm_cint.Conversions.{is_zero}
use Rattle.layout_laws.specs.tm_terms.declared.places.Place.{Place}
use Rattle.layout_laws.specs.tm_typed.declared.types.Scalar.{Scalar}
use Rattle.layout_laws.specs.tm_typed.declared.files.TypedTask.{TypedTask}
use Rattle.layout_laws.specs.tm_laid.Layouts.{LaidTree, cell_of, cell_at}
use Rattle.layout_laws.specs.tm_laid.declared.cells.LaidCell.{LaidCell}
use Rattle.program_shape.specs.concrete_values.declared.values.Value.{Value}
use Rattle.program_shape.specs.concrete_values.declared.values.Value.TheVariants.{Number}
use Rattle.program_shape.specs.concrete_values.declared.values.Answer.{Answer}
use Rattle.program_shape.specs.concrete_values.declared.values.Answer.TheVariants as Answers
use Rattle.program_shape.specs.concrete_values.declared.actions.Next.{Next}
use Rattle.program_shape.specs.concrete_values.declared.actions.Next.TheVariants as Acts
use Rattle.program_shape.specs.concrete_values.Values.{truth_value}
use Rattle.program_shape.specs.concrete_values.Actions.{is_of, is_between}
use Rattle.program_shape.specs.concrete_steps.declared.worlds.Content.{Content}
use Rattle.program_shape.specs.concrete_steps.declared.worlds.Content.TheVariants.{Open, Is}
use Rattle.program_shape.specs.concrete_steps.declared.worlds.Status.TheVariants.{Waiting, Ready, Blocked, Done}
use Rattle.program_shape.specs.concrete_steps.declared.worlds.Choice.{Choice}
use Rattle.program_shape.specs.concrete_steps.declared.worlds.Choice.TheVariants.{Wake, Run}
use Rattle.program_shape.specs.concrete_steps.NextAction.{next}
use Rattle.program_shape.specs.concrete_steps.Worlds.{Standing, World, Outcome, next_at, holds, is_ready, is_waiting}
use Rattle.program_shape.specs.concrete_steps.Worlds.{is_ended}
use Rattle.program_shape.specs.concrete_steps.Worlds.{no_mutex}
use Rattle.program_shape.specs.concrete_steps.Worlds.{is_section, with_status, with_mutex, settled, refused, did}
use Rattle.program_shape.specs.concrete_steps.Worlds.{halted, stand, told}
use Rattle.program_shape.specs.concrete_steps.Worlds.{answered, each_from, is_part, cleared_content, cleared, woken}
use Rattle.program_shape.specs.concrete_steps.Worlds.{freed}
use Rattle.program_shape.specs.concrete_steps.Worlds.{none_above}
use Rattle.program_shape.specs.concrete_steps.Worlds.{is_taken, load_step, store_step, lock_step, unlock_step}
use Rattle.program_shape.specs.concrete_steps.Worlds.{yielded}
use Rattle.program_shape.specs.concrete_steps.Worlds.{act_step, run_step, tasks_may_run, wake_step, chosen_step, step}
use Rattle.program_shape.specs.concrete_steps.Worlds.{start}
use Rattle.program_shape.specs.concrete_steps.Worlds.{start_tasks, start_section}
use Rattle.program_shape.specs.concrete_steps.Worlds.{is_blocked_on, no_standing, initial_content}
use Rattle.program_shape.specs.concrete_steps.Occurring.{IsReached, at_start, by_step}

-- each of the tasks has places for so many mutexes
abbrev pub HavePlaces : ℕ → List Standing → Type 0
HavePlaces n [] = Unit {0}
HavePlaces n (s ∷ ss) = (length s.held ≡ n) × HavePlaces n ss

pub places_of : (n : ℕ) (ss : List Standing) (i : ℕ) → HavePlaces n ss → i < length ss
    → (let s = get_or ss i no_standing in length s.held ≡ n)
places_of n [] i h lt = absurd (omega (arith, lt))
places_of n (s ∷ ss) zero h lt = h.0
places_of n (s ∷ ss) (suc i) h lt = places_of n ss i h.1 (omega (arith, lt))

some_places : (n : ℕ) (ss : List Standing) (i : ℕ) (s : Standing) → HavePlaces n ss → slice_get ss i ≡ Some s
    → length s.held ≡ n
some_places n [] zero s h e = absurd (cc)
some_places n [] (suc i) s h e = absurd (cc)
some_places n (x ∷ ss) zero s h e = let q : x ≡ s = cc in subst (λ (z : Standing). length z.held ≡ n) q h.0
some_places n (x ∷ ss) (suc i) s h e = some_places n ss i s h.1 e

set_places : (n : ℕ) (ss : List Standing) (i : ℕ) (s : Standing) → HavePlaces n ss → length s.held ≡ n
    → HavePlaces n (slice_set ss i s)
set_places n [] i s h e = tt
set_places n (x ∷ ss) zero s h e = (e, h.1)
set_places n (x ∷ ss) (suc i) s h e = (h.0, set_places n ss i s h.1 e)

woken_held : (b : Bool) (s : Standing) → (if b then with_status Ready s else s).held ≡ s.held
woken_held true s = refl
woken_held false s = refl

woken_places : (n m : ℕ) (ss : List Standing) → HavePlaces n ss → HavePlaces n (map (woken m) ss)
woken_places n m [] h = tt
woken_places n m (s ∷ ss) h = (ap length (woken_held (is_blocked_on m s.status) s) ∙ h.0, woken_places n m ss h.1)

both_places : (n : ℕ) (xs ys : List Standing) → HavePlaces n xs → HavePlaces n ys → HavePlaces n (xs ++ ys)
both_places n [] ys h k = k
both_places n (x ∷ xs) ys h k = (h.0, both_places n xs ys h.1 k)

length_set : {A : Type 0} (xs : List A) (i : ℕ) (y : A) → length (slice_set xs i y) ≡ length xs
length_set [] i y = refl
length_set (x ∷ xs) zero y = refl
length_set (x ∷ xs) (suc i) y = ap suc (length_set xs i y)

length_each : (f : ℕ → Content → Content) (k : ℕ) (xs : List Content) → length (each_from f k xs) ≡ length xs
length_each f k [] = refl
length_each f k (x ∷ xs) = ap suc (length_each f (suc k) xs)

-- there is a content for each cell, and a place for each mutex of each task
pub record AreSizes (laid : LaidTree) (w : World) : Type 0 where
  pub contents : length laid.cells ≤ length w.contents
  pub places : HavePlaces (length laid.file.mutexes) w.standings

module _ (laid : LaidTree) where
  abbrev n : ℕ
  n = length laid.file.mutexes

  none_places : length (no_mutex laid) ≡ n
  none_places = length-map laid.file.mutexes (λ m. false)

  settled_places : (s : Standing) (b c : Bool) → length s.held ≡ n
      → length (if b then record s { status = Done; held = if c then no_mutex laid else s.held } else s).held ≡ n
  settled_places s true true h = none_places
  settled_places s true false h = h
  settled_places s false c h = h

  -- ## The start

  task_places : (i : ℕ) (ts : List TypedTask) → HavePlaces n (start_tasks laid i ts)
  task_places i [] = tt
  task_places i (t ∷ ts) = (
    settled_places (record { priority = t.priority; status = Waiting; held = no_mutex laid })
        (is_ended (next laid i [])) (is_section laid i) none_places,
    task_places (suc i) ts,
  )

  section_places : (main : Option ℕ) → HavePlaces n (start_section laid main)
  section_places None = tt
  section_places (Some f) = (
    settled_places (record { priority = 0; status = Ready; held = no_mutex laid })
        (is_ended (next laid (length laid.file.tasks) [])) (is_section laid (length laid.file.tasks)) none_places,
    tt,
  )

  start_sizes : AreSizes laid (start laid)
  unfolding start
  start_sizes =
      let a = length-append (map initial_content laid.initial)
      (map (λ (c : LaidCell). cleared_content c.scalar) (drop (length laid.initial) laid.cells)) in
      let b = length-map laid.initial initial_content in
      let c = length-map (drop (length laid.initial) laid.cells) (λ (c : LaidCell). cleared_content c.scalar) in
      let d = length-drop (length laid.initial) laid.cells in
      record {
        contents = omega (arith, a, b, c, d);
        places = both_places n (start_tasks laid 0 laid.file.tasks) (start_section laid laid.file.main)
            (task_places 0 laid.file.tasks) (section_places laid.file.main);
      }

  -- ## Steps

  answered_sizes : (w : World) → AreSizes laid w → (i : ℕ) (s : Standing) (a : Answer) → length s.held ≡ n
      → AreSizes laid (answered laid i s a w).world
  answered_sizes w ok i s a h = record {
    contents = ok.contents;
    places = set_places n w.standings i (settled laid i (next_at laid (told i a w) i) s) ok.places
        (settled_places s (is_ended (next_at laid (told i a w) i)) (is_section laid i) h);
  }

  module _ (w : World) (ok : AreSizes laid w) where
    abbrev Ok : Outcome → Type 0
    Ok o = AreSizes laid o.world

    if_sizes : (b : Bool) (o : Outcome) → Ok o → Ok (if b then o else refused w)
    if_sizes true o h = h
    if_sizes false o h = ok

    module _ (i : ℕ) (s : Standing) (h : length s.held ≡ n) (v : ℤ) where
      load_sizes : (sc : Scalar) (volatile : Bool) (c : Option Content) → Ok (load_step laid i s v sc volatile c w)
      load_sizes sc volatile None = ok
      load_sizes sc true (Some c) = if_sizes (is_of laid sc (Number v)) (answered laid i s (Answers.Given (Number v)) w)
          (answered_sizes w ok i s (Answers.Given (Number v)) h)
      load_sizes sc false (Some Open) = if_sizes (is_of laid sc (Number v)) (answered laid i s (Answers.Given (Number v)) w)
          (answered_sizes w ok i s (Answers.Given (Number v)) h)
      load_sizes sc false (Some (Is x)) = if_sizes (is_zero v) (answered laid i s (Answers.Given x) w)
          (answered_sizes w ok i s (Answers.Given x) h)

      store_sizes : (c : ℕ) (x : Value) (old : Option Content) → Ok (store_step laid i s v c x old w)
      store_sizes c x None = ok
      store_sizes c x (Some old) =
          let w1 : World = record w { contents = slice_set w.contents c (Is x) } in
          let same = length_set w.contents c (Is x) in
          let few = ok.contents in
          if_sizes (is_zero v) (answered laid i s Answers.Done w1)
          (answered_sizes w1 (record { contents = omega (arith, same, few); places = ok.places }) i s Answers.Done h)

      lock_sizes : (m : ℕ) (p : Place) (b c : Bool)
          → Ok (if b then halted Classes.Lock p w
          else if c then did (stand i (with_status (Blocked m) s) w) else answered laid i (with_mutex m true s) Answers.Done w)
      lock_sizes m p true c = record { contents = ok.contents; places = ok.places }
      lock_sizes m p false true =
          record { contents = ok.contents; places = set_places n w.standings i (with_status (Blocked m) s) ok.places h }
      lock_sizes m p false false =
          answered_sizes w ok i (with_mutex m true s) Answers.Done (length_set s.held m true ∙ h)

      unlock_sizes : (m : ℕ) (p : Place) (b : Bool)
          → Ok (if b then answered laid i (with_mutex m false s) Answers.Done (freed m w) else halted Classes.Lock p w)
      unlock_sizes m p true =
          answered_sizes (freed m w)
          (record { contents = ok.contents; places = woken_places n m w.standings ok.places }) i (with_mutex m false s)
          Answers.Done (length_set s.held m false ∙ h)
      unlock_sizes m p false = record { contents = ok.contents; places = ok.places }

      act_sizes : (action : Next) → Ok (act_step laid i s v action w)
      unfolding act_step
      act_sizes (Acts.Load o k sc volatile p) = load_sizes sc volatile (slice_get w.contents (cell_of laid o k))
      act_sizes (Acts.Store o k sc x p) = store_sizes (cell_of laid o k) x (slice_get w.contents (cell_of laid o k))
      act_sizes (Acts.Chosen low high) =
          if_sizes (is_between low high (Number v)) (answered laid i s (Answers.Given (Number v)) w)
          (answered_sizes w ok i s (Answers.Given (Number v)) h)
      act_sizes (Acts.Clear o) =
          let same = length_each (λ c x. if is_part laid o c then cleared_content (cell_at laid c).scalar else x) 0 w.contents in
          let few = ok.contents in
          if_sizes (is_zero v) (answered laid i s Answers.Done (cleared laid o w))
          (answered_sizes (cleared laid o w) (record { contents = omega (arith, same, few); places = ok.places }) i s
          Answers.Done h)
      act_sizes (Acts.Lock m p) =
          if_sizes (is_zero v) (lock_step laid i s m p w) (lock_sizes m p (holds m s) (is_taken m w.standings))
      act_sizes (Acts.Unlock m p) = if_sizes (is_zero v) (unlock_step laid i s m p w) (unlock_sizes m p (holds m s))
      act_sizes Acts.Yield =
          if_sizes (is_zero v) (answered laid i (yielded laid i s) Answers.Done w)
          (answered_sizes w ok i (yielded laid i s) Answers.Done h)
      act_sizes (Acts.Probe m p) =
          if_sizes (is_zero v) (answered laid i s (Answers.Given (truth_value (is_taken m w.standings))) w)
          (answered_sizes w ok i s (Answers.Given (truth_value (is_taken m w.standings))) h)
      act_sizes (Acts.Fault class p) =
          if_sizes (is_zero v) (halted class p w) (record { contents = ok.contents; places = ok.places })
      act_sizes Acts.Spins = if_sizes (is_zero v) (did w) ok
      act_sizes Acts.Ended = ok
      act_sizes Acts.Misfit = ok

    run_sizes : (i : ℕ) (v : ℤ) (s : Option Standing) → slice_get w.standings i ≡ s → Ok (run_step laid i v s w)
    run_sizes i v None e = ok
    run_sizes i v (Some s) e =
        if_sizes (is_ready s.status && none_above s.priority w.standings) (act_step laid i s v (next_at laid w i) w)
        (act_sizes i s (some_places n w.standings i s ok.places e) v (next_at laid w i))

    wake_sizes : (i : ℕ) (s : Option Standing) → slice_get w.standings i ≡ s → Ok (wake_step laid i s w)
    wake_sizes i None e = ok
    wake_sizes i (Some s) e =
        if_sizes (tasks_may_run laid w && is_waiting s.status) (did (stand i (with_status Ready s) w)) (record {
          contents = ok.contents;
          places = set_places n w.standings i (with_status Ready s) ok.places
              (some_places n w.standings i s ok.places e);
        })

    chosen_sizes : (c : Choice) → Ok (chosen_step laid w c)
    chosen_sizes (Wake i) = wake_sizes i (slice_get w.standings i) refl
    chosen_sizes (Run i v) = run_sizes i v (slice_get w.standings i) refl

    stopped_sizes : (b : Bool) (c : Choice) → Ok (if b then refused w else chosen_step laid w c)
    stopped_sizes true c = ok
    stopped_sizes false c = chosen_sizes c

    step_sizes : (c : Choice) → Ok (step laid w c)
    unfolding step
    step_sizes c = stopped_sizes w.stopped c

  pub reached_sizes : (w : World) → IsReached laid w → AreSizes laid w
  reached_sizes w at_start = start_sizes
  reached_sizes w (by_step {w = v} r c done) = step_sizes v (reached_sizes v r) c
