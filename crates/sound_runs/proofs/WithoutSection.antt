-- Runs of a program without an initial section: every world that is reached is one of the theorem's, and what occurs is
-- listed.
use Rattle.std.proofs.Common.{◌≡◌, ◌⊎◌, inl, inr, refl, sym, ap, subst, ◌∙◌, ℕ, ◌<◌, ◌≤◌, ◌^◌}
use Rattle.std.proofs.Common.{Bool, true, false}
use Rattle.std.proofs.Common.{[], length, get_or, Some, None, arith}
use Rattle.std.specs.Prelude.{IsTrue}
use Rattle.layout_laws.specs.tm_cint.declared.Class.{Class}
use Rattle.layout_laws.specs.tm_cint.declared.Class.TheVariants as Classes
use Rattle.layout_laws.specs.tm_terms.declared.places.Place.{Place}
use Rattle.layout_laws.specs.tm_typed.declared.types.Scalar.{Scalar}
use Rattle.layout_laws.specs.tm_laid.Layouts.{LaidTree, cell_of}
use Rattle.layout_laws.specs.tm_laid.Paths.{listed}
use Rattle.program_shape.specs.concrete_values.declared.actions.Next.{Next}
use Rattle.program_shape.specs.concrete_values.declared.actions.Next.TheVariants as Acts
use Rattle.program_shape.specs.concrete_steps.declared.worlds.Status.TheVariants.{Waiting}
use Rattle.program_shape.specs.concrete_steps.declared.worlds.Choice.{Choice}
use Rattle.program_shape.specs.concrete_steps.declared.worlds.Choice.TheVariants.{Wake, Run}
use Rattle.program_shape.specs.concrete_steps.NextAction.{next}
use Rattle.program_shape.specs.concrete_steps.Worlds.{World, standing, answers_of, next_at, holds, is_taken, start}
use Rattle.program_shape.specs.concrete_steps.Worlds.{step}
use Rattle.program_shape.specs.concrete_steps.Occurring.{IsReached, at_start, by_step, IsAccess, a_load_there}
use Rattle.program_shape.specs.concrete_steps.Occurring.{a_store_there}
use Rattle.program_shape.specs.concrete_steps.Occurring.{IsRace, Occurs}
use Rattle.program_shape.proofs.low.concrete_steps.Moving.{steps_are_moves}
use Rattle.program_shape.specs.flow_graph.Graphs.{Edges}
use Rattle.lowering_laws.specs.LaidFiles.{IsLaidFile}
use Rattle.next_action_laws.specs.Actions.{IsProper}
use Rattle.program_shape.specs.tm_soundness.Shape.{Shape, Content as AContent}
use Rattle.program_shape.specs.tm_soundness.Tables.{Tables}
use Rattle.program_shape.specs.tm_soundness.Listing.{IsAnalysed}
use Rattle.program_shape.specs.tm_soundness.Worlds.{Source, Step, IsReached as IsAReached, starts, goes_on, IsFault}
use Rattle.program_shape.specs.tm_soundness.Worlds.{next_fails, next_relocks, next_unlocks_foreign, NextAccesses}
use Rattle.program_shape.specs.tm_soundness.Worlds.{next_loads}
use Rattle.program_shape.specs.tm_soundness.Worlds.{next_loads_any, next_stores, NextStores}
use Rattle.program_shape.specs.tm_soundness.Numbered.{TaskOf}
use Rattle.program_shape.proofs.low.tm_soundness.Judged.{IsJudged, judged, next_fault_listed, next_race_listed}
use Rattle.program_equations.specs.Programs.{priorities_of}
use Rattle.program_shape.specs.Shape.{number_of, Has}
use Rattle.program_shape.proofs.TaskNumbers.{number_below, one_number, IsNumbered, task_with}
use Rattle.sound_runs.specs.Sources.{action_of, place_of_next}
use Rattle.sound_runs.specs.Images.{task_parts, the_shape, the_source, status_as, held_as, tasks_world, memory_of}
use Rattle.sound_runs.specs.Images.{IsListedBy, by_task, by_race}
use Rattle.sound_runs.proofs.Layouts.{lays_cells}
use Rattle.sound_runs.proofs.MutexSets.{set_is}
use Rattle.sound_runs.proofs.Moved.{next_is, settled_is}
use Rattle.sound_runs.proofs.Acted.{Does, IsWoken, MovesAs, moves_as, was_ready, not_taken, IsHolder, some_taken}
use Rattle.sound_runs.proofs.Halted.{HaltsBy, by_fault, by_lock, by_unlock, IsHalted, step_halts}
use Rattle.sound_runs.proofs.Starts.{bodies_counted, start_answers, start_task, start_held, ready_within}
use Rattle.sound_runs.proofs.Imaged.{Facts, facts, few_ones, task_steps, wake_steps}
use Rattle.sound_runs.proofs.Listed.{tasks_of_count, each_task}

module _ (laid : LaidTree) (graph : ℕ → Edges) (is : IsLaidFile laid) (few : length laid.objects ≤ 2 ^ 32)
    (main_is : laid.file.main ≡ None) where
  abbrev T : ℕ
  T = length laid.file.tasks

  abbrev number : TaskOf T → ℕ
  number i = number_of T i

  abbrev P : Shape
  P = the_shape laid graph

  abbrev N : Source P
  N = the_source laid graph

  abbrev memory : ℕ → AContent P.Value
  memory = memory_of laid graph

  abbrev Known : World → Type 0
  Known w = Facts laid graph is few w

  known_of : (w : World) → IsReached laid w → Known w
  known_of w r = facts laid graph is few w r

  counted : length laid.bodies ≡ T
  counted =
      let a = bodies_counted laid is in
      let b : length (listed laid.file.main) ≡ 0 = ap (λ o. length (listed o)) main_is in
      omega (arith, a, b)

  -- a world of the theorem's stands for it
  abbrev pub IsPlainImage : World → Type 0
  IsPlainImage w = IsAReached P N memory (tasks_world laid graph w)

  no_held : (i n : ℕ) → Has (held_as (start laid) i) n → ⊥
  no_held i n h =
      let clash : true ≡ false =
      sym h.is ∙ (set_is (λ l. holds l (standing (start laid) i)) n h.small ∙ start_held laid i n) in cc

  start_image : IsPlainImage (start laid)
  start_image = starts (record {
    content = λ c. refl;
    answers = λ j. start_answers laid (number j);
    held = λ j n h. no_held (number j) n h;
    status = λ j. ap status_as (start_task laid (number j) (number_below T j))
        ∙ settled_is laid graph T number (λ t. get_or (priorities_of laid.file.tasks) t 0) (one_number T)
        (lays_cells laid is) (next laid (number j) []) Waiting;
  })

  task_free : (w : World) (m : ℕ) → is_taken m w.standings ≡ false → (j : TaskOf T) → Has (held_as w (number j)) m → ⊥
  task_free w m none j h =
      let clash : true ≡ false = sym h.is ∙ (set_is (λ l. holds l (standing w (number j))) m h.small
      ∙ not_taken m w.standings (number j) none) in cc

  task_taken : (w : World) → Known w → (m : ℕ) → m < 16 → is_taken m w.standings ≡ true
      → ((j : TaskOf T) → Has (held_as w (number j)) m → ⊥) → ⊥
  task_taken w known m small some all =
      let h : IsHolder m w.standings = some_taken m w.standings some in
      let lt = h.within in let a = known.count in let b = counted in
      let t : IsNumbered T h.holder = task_with T h.holder (omega (arith, lt, a, b)) in
      all t.task (record {
        small = small;
        is = set_is (λ l. holds l (standing w (number t.task))) m small
            ∙ (ap (λ z. holds m (standing w z)) t.is ∙ h.holds_it);
      })

  task_image : (w w' : World) → Known w → IsPlainImage w → (t : TaskOf T) → Does laid w w' (number t)
      → IsPlainImage w'
  task_image w w' known im t d = by_step' (task_steps laid graph is few w w' known t (task_free w) (task_taken w known) d)
    where
      by_step' : (w' ≡ w) ⊎ Step P N (tasks_world laid graph w) (tasks_world laid graph w') → IsPlainImage w'
      by_step' (inl same) = subst IsPlainImage (sym same) im
      by_step' (inr moves) = goes_on im moves

  moved_image : (w w' : World) → Known w → Known w' → IsPlainImage w → (c : Choice) → MovesAs laid w w' c
      → IsPlainImage w'
  moved_image w w' known known' im (Wake i) h =
      let lt = ready_within w' i h.after in let a = known'.count in let b = counted in
      let t : IsNumbered T i = task_with T i (omega (arith, lt, a, b)) in
      goes_on im (wake_steps laid graph is few w w' t.task (subst (λ z. IsWoken laid w w' z) (sym t.is) h))
  moved_image w w' known known' im (Run i n) d =
      let lt = ready_within w i (was_ready laid w w' i d) in let a = known.count in let b = counted in
      let t : IsNumbered T i = task_with T i (omega (arith, lt, a, b)) in
      task_image w w' known im t.task (subst (λ z. Does laid w w' z) (sym t.is) d)

  pub plainly_imaged : (w : World) → IsReached laid w → IsPlainImage w
  plainly_imaged w at_start = start_image
  plainly_imaged w (by_step {w = v} r c went) =
      moved_image v (step laid v c).world (known_of v r) (known_of (step laid v c).world (by_step r c went))
      (plainly_imaged v r) c (moves_as laid v (step laid v c).world c (steps_are_moves laid v r c went))

  -- ## What occurs

  module _ (tables : Tables P) (temps : P.Task → P.Valuation) (analysed : IsAnalysed P tables N memory temps) where
    abbrev Listed : Class → Place → Type 0
    Listed class p = IsListedBy P tables (Some p) class Classes.Race

    judge : (w : World) → IsReached laid w
        → IsJudged P tables N analysed.shape analysed.solution memory temps analysed.entered analysed.lowered
        (tasks_world laid graph w)
    judge w r =
        judged P tables N analysed.shape analysed.solution memory temps analysed.entered analysed.lowered
        (tasks_of_count T) (each_task (task_parts laid graph) N) (tasks_world laid graph w) (plainly_imaged w r)

    acts_as : (w : World) (i : ℕ) (n : Next) → next_at laid w i ≡ n → next laid i (answers_of w i) ≡ n
    acts_as w i n e = sym (next_is laid w i) ∙ e

    mutex_small : (m : ℕ) → m < length laid.file.mutexes → m < 16
    mutex_small m lt = let c = few_ones laid graph is few in omega (arith, lt, c)

    module _ (w : World) (r : IsReached laid w) where
      fault_lists : (t : TaskOf T) (class : Class) (p : Place)
          → place_of_next (next laid (number t) (answers_of w (number t))) ≡ Some p
          → IsFault P N (tasks_world laid graph w) t class → Listed class p
      fault_lists t class p placed fault =
          let x = next_fault_listed P tables N analysed.shape analysed.solution memory temps analysed.entered
          analysed.lowered (tasks_world laid graph w) (judge w r) t class fault in
          by_task x.0 (x.2 ∙ placed) x.3

      task_halts : (t : TaskOf T) (class : Class) (p : Place) → IsProper laid (number t) (next_at laid w (number t))
          → HaltsBy (next_at laid w (number t)) (standing w (number t)) class p → Listed class p
      task_halts t class p proper (by_fault e) =
          let a = acts_as w (number t) (Acts.Fault class p) e in
          fault_lists t class p (ap place_of_next a) (next_fails class (ap (action_of (task_parts laid graph)) a))
      task_halts t class p proper (by_lock m e c h) =
          let a = acts_as w (number t) (Acts.Lock m p) e in
          let small : m < 16 = mutex_small m (subst (λ z. IsProper laid (number t) z) e proper) in
          fault_lists t class p (ap place_of_next a)
          (subst (λ z. IsFault P N (tasks_world laid graph w) t z) (sym c)
          (next_relocks m (ap (action_of (task_parts laid graph)) a)
          (record { small = small; is = set_is (λ l. holds l (standing w (number t))) m small ∙ h })))
      task_halts t class p proper (by_unlock m e c h) =
          let a = acts_as w (number t) (Acts.Unlock m p) e in
          fault_lists t class p (ap place_of_next a)
          (subst (λ z. IsFault P N (tasks_world laid graph w) t z) (sym c)
          (next_unlocks_foreign m (ap (action_of (task_parts laid graph)) a)
          (λ k. let clash : true ≡ false =
          sym k.is ∙ (set_is (λ l. holds l (standing w (number t))) m k.small ∙ h) in cc)))

      record AsAccess (t : TaskOf T) (c : ℕ) (stores : Bool) (p : Place) : Type 0 where
        accesses : NextAccesses P N (tasks_world laid graph w) t c
        placed : N.place t (answers_of w (number t)) ≡ Some p
        if_store : IsTrue stores → NextStores P N (tasks_world laid graph w) t c

      load_access : (t : TaskOf T) (o k : ℕ) (s : Scalar) (b : Bool) (p : Place)
          → next laid (number t) (answers_of w (number t)) ≡ Acts.Load o k s b p → AsAccess t (cell_of laid o k) false p
      load_access t o k s true p e = record {
        accesses = next_loads_any (ap (action_of (task_parts laid graph)) e);
        placed = ap place_of_next e;
        if_store = λ h. absurd (cc);
      }
      load_access t o k s false p e = record {
        accesses = next_loads (ap (action_of (task_parts laid graph)) e);
        placed = ap place_of_next e;
        if_store = λ h. absurd (cc);
      }

      access_as : (t : TaskOf T) (o k : ℕ) (n : Next) (b : Bool) (p : Place)
          → next laid (number t) (answers_of w (number t)) ≡ n → IsAccess o k n b p → AsAccess t (cell_of laid o k) b p
      access_as t o k n b p e (a_load_there {scalar = s} {volatile = v}) = load_access t o k s v p e
      access_as t o k n b p e (a_store_there {scalar = s} {x = v}) = record {
        accesses = next_stores v (ap (action_of (task_parts laid graph)) e);
        placed = ap place_of_next e;
        if_store = λ h. (v, ap (action_of (task_parts laid graph)) e);
      }

      race_lists : (i j : ℕ) (p : Place) → IsRace laid w i j p → Listed Classes.Race p
      race_lists i j p race =
          let one : IsNumbered T i = task_with T i race.tasks.0 in
          let two : IsNumbered T j = task_with T j race.tasks.1 in
          let c : ℕ = cell_of laid race.object race.offset in
          let a : AsAccess one.task c race.stores p =
          access_as one.task race.object race.offset (next_at laid w (number one.task)) race.stores p
          (sym (next_is laid w (number one.task)))
          (subst (λ z. IsAccess race.object race.offset (next_at laid w z) race.stores p) (sym one.is) race.access) in
          let b : AsAccess two.task c race.other_stores race.other_place =
          access_as two.task race.object race.offset (next_at laid w (number two.task)) race.other_stores
          race.other_place (sym (next_is laid w (number two.task)))
          (subst (λ z. IsAccess race.object race.offset (next_at laid w z) race.other_stores race.other_place)
          (sym two.is) race.other) in
          let differ : one.task ≡ two.task → ⊥ = λ e. race.tasks.2 (sym one.is ∙ (ap number e ∙ two.is)) in
          let x = next_race_listed P tables N analysed.shape analysed.solution memory temps analysed.entered
          analysed.lowered (tasks_world laid graph w) (judge w r) one.task two.task differ c a.accesses b.accesses
          (elim race.store [ inl h ↦ inl (a.if_store h) | inr h ↦ inr (b.if_store h) ]) in
          by_race refl x.0 x.1 (x.4 ∙ a.placed) x.6

    pub plainly_listed : (class : Class) (p : Place) → Occurs laid class p → Listed class p
    plainly_listed class p (inl s) =
        let known = known_of s.world s.reached in
        let h : IsHalted laid s.world class p = step_halts laid s.world class p s.choice s.stops in
        let lt = ready_within s.world h.task h.ready in let a = known.count in let b = counted in
        let t : IsNumbered T h.task = task_with T h.task (omega (arith, lt, a, b)) in
        let below = number_below T t.task in
        task_halts s.world s.reached t.task class p (known.proper (number t.task) (omega (arith, below, b)))
        (subst (λ z. HaltsBy (next_at laid s.world z) (standing s.world z) class p) (sym t.is) h.halts)
    plainly_listed class p (inr race) =
        subst (λ z. Listed z p) (sym race.0)
        (race_lists race.1.world race.1.reached race.1.one race.1.other p race.1.races)
