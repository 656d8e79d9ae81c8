-- What occurs in a run is listed by every pair of tables and a store that covers each edge.
use Rattle.std.proofs.Common.{◌≡◌, ◌⊎◌, inl, inr, refl, sym, ap, subst, ◌∙◌, ℕ, zero, suc, ◌<◌, ◌≤◌, ◌^◌}
use Rattle.std.proofs.Common.{Bool, true, false}
use Rattle.std.proofs.Common.{List, [], ◌∷◌, length, Some, arith}
use Rattle.std.specs.Prelude.{IsTrue}
use native.Mathlib.Decide.{ℕ_discrete}
use Rattle.layout_laws.specs.tm_cint.declared.Class.{Class}
use Rattle.layout_laws.specs.tm_cint.declared.Class.TheVariants as Classes
use Rattle.layout_laws.specs.tm_terms.declared.places.Place.{Place}
use Rattle.layout_laws.specs.tm_typed.declared.types.Scalar.{Scalar}
use Rattle.layout_laws.specs.tm_laid.Layouts.{LaidTree, cell_of}
use Rattle.program_shape.specs.concrete_values.declared.actions.Next.{Next}
use Rattle.program_shape.specs.concrete_values.declared.actions.Next.TheVariants as Acts
use Rattle.program_shape.specs.concrete_steps.declared.worlds.Status.{Status}
use Rattle.program_shape.specs.concrete_steps.declared.worlds.Status.TheVariants.{Ready, Done}
use Rattle.program_shape.specs.concrete_steps.NextAction.{next}
use Rattle.program_shape.specs.concrete_steps.Worlds.{World, standing, answers_of, next_at, holds}
use Rattle.program_shape.specs.concrete_steps.Moves.{status_of}
use Rattle.program_shape.specs.concrete_steps.Occurring.{IsAccess, a_load_there, a_store_there, IsRace}
use Rattle.program_shape.specs.concrete_steps.Occurring.{Occurs}
use Rattle.program_shape.specs.flow_graph.Graphs.{Edges}
use Rattle.lowering_laws.specs.LaidFiles.{IsLaidFile}
use Rattle.next_action_laws.specs.Actions.{IsProper}
use Rattle.program_shape.specs.tm_soundness.Shape.{Shape}
use Rattle.program_shape.specs.tm_soundness.Tables.{Tables}
use Rattle.program_shape.specs.tm_soundness.GraphWorlds.{done}
use Rattle.program_shape.specs.tm_soundness.Section.{Section, alone}
use Rattle.program_shape.specs.tm_soundness.Listing.{AreAnalysed, ListsAll}
use Rattle.program_shape.specs.tm_soundness.Worlds.{Source, IsFault, next_fails}
use Rattle.program_shape.specs.tm_soundness.Worlds.{next_relocks, next_unlocks_foreign, NextAccesses, next_loads}
use Rattle.program_shape.specs.tm_soundness.Worlds.{next_loads_any}
use Rattle.program_shape.specs.tm_soundness.Worlds.{next_stores, NextStores, IsIn}
use Rattle.program_shape.specs.tm_soundness.WholeWorlds.{main_of, tasks_of}
use Rattle.program_shape.specs.tm_soundness.Numbered.{TaskOf}
use Rattle.program_shape.proofs.low.tm_soundness.WithSection.{lists_all}
use Rattle.program_shape.specs.Shape.{Parts, shape_of, number_of}
use Rattle.program_shape.proofs.TaskNumbers.{number_below, IsNumbered, task_with}
use Rattle.sound_runs.specs.Sources.{action_of, place_of_next}
use Rattle.sound_runs.specs.Images.{task_parts, main_parts, the_shape, the_section, the_source, section_source}
use Rattle.sound_runs.specs.Images.{status_as}
use Rattle.sound_runs.specs.Images.{whole_of, memory_of, IsListedAt, in_section, in_tasks, in_race}
use Rattle.sound_runs.proofs.MutexSets.{set_is}
use Rattle.sound_runs.proofs.Moved.{next_is}
use Rattle.sound_runs.proofs.Halted.{HaltsBy, by_fault, by_lock, by_unlock, IsHalted, step_halts}
use Rattle.sound_runs.proofs.Starts.{ready_within, section_done}
use Rattle.sound_runs.proofs.Imaged.{Facts, facts, IsImaged, imaged, few_ones, counted, main_over}

-- ## All tasks

abbrev Among : {A : Type 0} → A → List A → Type 0
Among a [] = ⊥
Among a (b ∷ l) = (a ≡ b) ⊎ Among a l

abbrev pub shifted : (n : ℕ) → List (TaskOf (suc n)) → List (TaskOf (suc (suc n)))
shifted n [] = []
shifted n (i ∷ l) = inr i ∷ shifted n l

abbrev pub tasks_of_count : (n : ℕ) → List (TaskOf n)
tasks_of_count zero = []
tasks_of_count (suc zero) = tt ∷ []
tasks_of_count (suc (suc n)) = inl tt ∷ shifted n (tasks_of_count (suc n))

among_shifted : (n : ℕ) (i : TaskOf (suc n)) (l : List (TaskOf (suc n))) → Among i l
    → Among {A = TaskOf (suc (suc n))} (inr i) (shifted n l)
among_shifted n i [] h = h
among_shifted n i (k ∷ l) (inl e) = inl (λ j. inr (e j))
among_shifted n i (k ∷ l) (inr h) = inr (among_shifted n i l h)

every : (n : ℕ) (i : TaskOf n) → Among i (tasks_of_count n)
every zero i = absurd i
every (suc zero) i = inl refl
every (suc (suc n)) (inl u) = inl refl
every (suc (suc n)) (inr i) = inr (among_shifted n i (tasks_of_count (suc n)) (every (suc n) i))

module _ (x : Parts) (N : Source (shape_of x)) where
  among_in : (i : TaskOf x.tasks) (l : List (TaskOf x.tasks)) → Among i l → IsIn (shape_of x) N i l
  among_in i [] h = h
  among_in i (k ∷ l) (inl e) = inl e
  among_in i (k ∷ l) (inr h) = inr (among_in i l h)

  pub each_task : (i : TaskOf x.tasks) → IsIn (shape_of x) N i (tasks_of_count x.tasks)
  each_task i = among_in i (tasks_of_count x.tasks) (every x.tasks i)

-- ## Accesses

module _ (laid : LaidTree) (graph : ℕ → Edges) (is : IsLaidFile laid) (few : length laid.objects ≤ 2 ^ 32) (f : ℕ)
    (main_is : laid.file.main ≡ Some f) where
  abbrev T : ℕ
  T = length laid.file.tasks

  abbrev number : TaskOf T → ℕ
  number i = number_of T i

  abbrev P : Shape
  P = the_shape laid graph

  abbrev N : Source P
  N = the_source laid graph

  abbrev X : Section P
  X = the_section laid graph

  abbrev O : Source (alone P X)
  O = section_source laid graph

  abbrev Imaged : World → Type 0
  Imaged w = IsImaged laid graph is few f main_is w

  abbrev Known : World → Type 0
  Known w = Facts laid graph is few w

  mutex_small : (m : ℕ) → m < length laid.file.mutexes → m < 16
  mutex_small m lt = let c = few_ones laid graph is few in omega (arith, lt, c)

  done_ready : (x : Status) → x ≡ Done → x ≡ Ready → ⊥
  done_ready x e h = cc

  -- what a task does next
  acts_as : (w : World) (i : ℕ) (n : Next) → next_at laid w i ≡ n → next laid i (answers_of w i) ≡ n
  acts_as w i n e = sym (next_is laid w i) ∙ e

  module _ (tables : Tables P) (section_tables : Tables (alone P X)) where
    abbrev Listed : Class → Place → Type 0
    Listed class p = IsListedAt P tables X section_tables (Some p) class Classes.Race

    abbrev Lists : (w : World) → ℕ → Type 0
    Lists w held = ListsAll P tables N X section_tables O (whole_of laid graph w held)

    -- ## Errors of one task

    module _ (w : World) (im : Imaged w) (known : Known w) (lists : Lists w im.held) where
      task_lists : (t : TaskOf T) → status_of w T ≡ Done → (class : Class) (p : Place)
          → place_of_next (next laid (number t) (answers_of w (number t))) ≡ Some p
          → IsFault P N (tasks_of P N X O (whole_of laid graph w im.held)) t class → Listed class p
      task_lists t over class p placed fault =
          let r = lists.faults (ap status_as over) t class fault in in_tasks r.0 (r.2 ∙ placed) r.3

      main_lists : status_of w T ≡ Ready → (class : Class) (p : Place)
          → place_of_next (next laid T (answers_of w T)) ≡ Some p
          → IsFault (alone P X) O (main_of P N X O (whole_of laid graph w im.held)) tt class → Listed class p
      main_lists runs class p placed fault =
          let r = lists.main_faults (λ e. not_over (status_of w T) runs e) class fault in in_section r.0 (r.1 ∙ placed) r.2
        where
          not_over : (x : Status) → x ≡ Ready → status_as x ≡ done → ⊥
          not_over x e h = let g : status_as Ready ≡ done = ap status_as (sym e) ∙ h in cc

      task_halts : (t : TaskOf T) → status_of w T ≡ Done → (class : Class) (p : Place)
          → IsProper laid (number t) (next_at laid w (number t))
          → HaltsBy (next_at laid w (number t)) (standing w (number t)) class p → Listed class p
      task_halts t over class p proper (by_fault e) =
          let a = acts_as w (number t) (Acts.Fault class p) e in
          task_lists t over class p (ap place_of_next a) (next_fails class (ap (action_of (task_parts laid graph)) a))
      task_halts t over class p proper (by_lock m e c h) =
          let a = acts_as w (number t) (Acts.Lock m p) e in
          let small : m < 16 = mutex_small m (subst (λ z. IsProper laid (number t) z) e proper) in
          task_lists t over class p (ap place_of_next a)
          (subst (λ z. IsFault P N (tasks_of P N X O (whole_of laid graph w im.held)) t z) (sym c)
          (next_relocks m (ap (action_of (task_parts laid graph)) a)
          (record { small = small; is = set_is (λ l. holds l (standing w (number t))) m small ∙ h })))
      task_halts t over class p proper (by_unlock m e c h) =
          let a = acts_as w (number t) (Acts.Unlock m p) e in
          task_lists t over class p (ap place_of_next a)
          (subst (λ z. IsFault P N (tasks_of P N X O (whole_of laid graph w im.held)) t z) (sym c)
          (next_unlocks_foreign m (ap (action_of (task_parts laid graph)) a)
          (λ k. let clash : true ≡ false =
          sym k.is ∙ (set_is (λ l. holds l (standing w (number t))) m k.small ∙ h) in cc)))

      main_halts : status_of w T ≡ Ready → (class : Class) (p : Place) → IsProper laid T (next_at laid w T)
          → HaltsBy (next_at laid w T) (standing w T) class p → Listed class p
      main_halts runs class p proper (by_fault e) =
          let a = acts_as w T (Acts.Fault class p) e in
          main_lists runs class p (ap place_of_next a) (next_fails class (ap (action_of (main_parts laid graph)) a))
      main_halts runs class p proper (by_lock m e c h) =
          let a = acts_as w T (Acts.Lock m p) e in
          let small : m < 16 = mutex_small m (subst (λ z. IsProper laid T z) e proper) in
          main_lists runs class p (ap place_of_next a)
          (subst (λ z. IsFault (alone P X) O (main_of P N X O (whole_of laid graph w im.held)) tt z) (sym c)
          (next_relocks m (ap (action_of (main_parts laid graph)) a)
          (record { small = small; is = im.same (λ d. done_ready (status_of w T) d runs) m small ∙ h })))
      main_halts runs class p proper (by_unlock m e c h) =
          let a = acts_as w T (Acts.Unlock m p) e in
          main_lists runs class p (ap place_of_next a)
          (subst (λ z. IsFault (alone P X) O (main_of P N X O (whole_of laid graph w im.held)) tt z) (sym c)
          (next_unlocks_foreign m (ap (action_of (main_parts laid graph)) a)
          (λ k. let clash : true ≡ false =
          sym k.is ∙ (im.same (λ d. done_ready (status_of w T) d runs) m k.small ∙ h) in cc)))

      -- behind the section where a task is ready
      halted_lists : (class : Class) (p : Place) (h : IsHalted laid w class p) → Dec (h.task ≡ T)
          → ((t : TaskOf T) → status_of w (number t) ≡ Ready → status_of w T ≡ Done) → Listed class p
      halted_lists class p h (yes e) over =
          let b = counted laid graph is few f main_is in
          main_halts (ap (status_of w) (sym e) ∙ h.ready) class p (known.proper T (omega (arith, b)))
          (subst (λ z. HaltsBy (next_at laid w z) (standing w z) class p) e h.halts)
      halted_lists class p h (no d) over =
          let lt = ready_within w h.task h.ready in let a = known.count in
          let b = counted laid graph is few f main_is in
          let t : IsNumbered T h.task = task_with T h.task (omega (arith, lt, a, b, d)) in
          let below = number_below T t.task in
          task_halts t.task (over t.task (ap (status_of w) t.is ∙ h.ready)) class p
          (known.proper (number t.task) (omega (arith, below, b)))
          (subst (λ z. HaltsBy (next_at laid w z) (standing w z) class p) (sym t.is) h.halts)

      -- ## Races

      -- an access as the theorem has it
      record AsAccess (t : TaskOf T) (c : ℕ) (stores : Bool) (p : Place) : Type 0 where
        accesses : NextAccesses P N (tasks_of P N X O (whole_of laid graph w im.held)) t c
        placed : N.place t (answers_of w (number t)) ≡ Some p
        if_store : IsTrue stores → NextStores P N (tasks_of P N X O (whole_of laid graph w im.held)) t c

      load_access : (t : TaskOf T) (o k : ℕ) (s : Scalar) (b : Bool) (p : Place)
          → next laid (number t) (answers_of w (number t)) ≡ Acts.Load o k s b p
          → AsAccess t (cell_of laid o k) false p
      load_access t o k s true p e = record {
        accesses = next_loads_any (ap (action_of (task_parts laid graph)) e);
        placed = ap place_of_next e;
        if_store = λ h. absurd (cc);
      }
      load_access t o k s false p e = record {
        accesses = next_loads (ap (action_of (task_parts laid graph)) e);
        placed = ap place_of_next e;
        if_store = λ h. absurd (cc);
      }

      access_as : (t : TaskOf T) (o k : ℕ) (n : Next) (b : Bool) (p : Place)
          → next laid (number t) (answers_of w (number t)) ≡ n → IsAccess o k n b p → AsAccess t (cell_of laid o k) b p
      access_as t o k n b p e (a_load_there {scalar = s} {volatile = v}) = load_access t o k s v p e
      access_as t o k n b p e (a_store_there {scalar = s} {x = v}) = record {
        accesses = next_stores v (ap (action_of (task_parts laid graph)) e);
        placed = ap place_of_next e;
        if_store = λ h. (v, ap (action_of (task_parts laid graph)) e);
      }

      race_lists : (i j : ℕ) (p : Place) → IsRace laid w i j p → status_of w T ≡ Done → Listed Classes.Race p
      race_lists i j p r over =
          let one : IsNumbered T i = task_with T i r.tasks.0 in
          let two : IsNumbered T j = task_with T j r.tasks.1 in
          let c : ℕ = cell_of laid r.object r.offset in
          let a : AsAccess one.task c r.stores p =
          access_as one.task r.object r.offset (next_at laid w (number one.task)) r.stores p
          (sym (next_is laid w (number one.task)))
          (subst (λ z. IsAccess r.object r.offset (next_at laid w z) r.stores p) (sym one.is) r.access) in
          let b : AsAccess two.task c r.other_stores r.other_place =
          access_as two.task r.object r.offset (next_at laid w (number two.task)) r.other_stores r.other_place
          (sym (next_is laid w (number two.task)))
          (subst (λ z. IsAccess r.object r.offset (next_at laid w z) r.other_stores r.other_place) (sym two.is) r.other) in
          let differ : one.task ≡ two.task → ⊥ =
          λ e. r.tasks.2 (sym one.is ∙ (ap number e ∙ two.is)) in
          let x = lists.races (ap status_as over) one.task two.task differ c a.accesses b.accesses
          (elim r.store [ inl h ↦ inl (a.if_store h) | inr h ↦ inr (b.if_store h) ]) in
          in_race refl x.0 x.1 (x.4 ∙ a.placed) x.6

    -- ## All errors

    module _ (main_temps : P.Valuation) (temps : P.Task → P.Valuation)
        (analysed : AreAnalysed P tables N X section_tables O (memory_of laid graph) main_temps temps) where
      lists : (w : World) (im : Imaged w) → Lists w im.held
      lists w im =
          lists_all P X tables section_tables analysed.shape analysed.solution analysed.main.shape analysed.main.solution
          analysed.apart (memory_of laid graph) main_temps temps analysed.main.entered analysed.handover O
          analysed.main.lowered N analysed.lowered (tasks_of_count T) (each_task (task_parts laid graph) N)
          (whole_of laid graph w im.held) im.reached

      pub occurs_is_listed : (class : Class) (p : Place) → Occurs laid class p → Listed class p
      occurs_is_listed class p (inl s) =
          let im = imaged laid graph is few f main_is s.world s.reached in
          let known = facts laid graph is few s.world s.reached in
          let h : IsHalted laid s.world class p = step_halts laid s.world class p s.choice s.stops in
          halted_lists s.world im known (lists s.world im) class p h (ℕ_discrete h.task T)
          (λ t e. main_over laid graph is few f main_is s.world im t e)
      occurs_is_listed class p (inr r) =
          let w : World = r.1.world in
          let im = imaged laid graph is few f main_is w r.1.reached in
          let known = facts laid graph is few w r.1.reached in
          let a = known.count in let b = counted laid graph is few f main_is in
          let over : status_of w T ≡ Done = section_done laid w (omega (arith, a, b)) r.1.begun in
          subst (λ z. Listed z p) (sym r.0)
          (race_lists w im known (lists w im) r.1.one r.1.other p r.1.races over)
