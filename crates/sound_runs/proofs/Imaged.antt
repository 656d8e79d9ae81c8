-- Every world that a run reaches is one of the soundness theorem's.
use Rattle.std.proofs.Common.{◌≡◌, ◌≢◌, ◌⊎◌, inl, inr, refl, sym, ap, subst, ◌∙◌, ℕ, suc, ◌<◌, ◌≤◌, ◌^◌}
use Rattle.std.proofs.Common.{Bool, true, false}
use Rattle.std.proofs.Common.{[], ◌∷◌, ◌++◌, ◌&&◌, length, get_or, if◌then◌else◌, Some, arith}
use Rattle.std.proofs.lemmas.Bool.{eq-eqb, ne_eqb}
use native.Mathlib.Decide.{ℕ_discrete}
use Rattle.layout_laws.specs.tm_terms.declared.places.Place.{Place}
use Rattle.layout_laws.specs.tm_laid.Layouts.{LaidTree}
use Rattle.layout_laws.specs.tm_laid.Paths.{listed}
use Rattle.program_shape.specs.concrete_values.declared.values.Value.{Value}
use Rattle.program_shape.specs.concrete_values.declared.values.Answer.TheVariants as Answers
use Rattle.program_shape.specs.concrete_values.declared.actions.Next.TheVariants as Acts
use Rattle.program_shape.specs.concrete_steps.declared.worlds.Status.{Status}
use Rattle.program_shape.specs.concrete_steps.declared.worlds.Status.TheVariants.{Waiting, Ready, Blocked, Done}
use Rattle.program_shape.specs.concrete_steps.declared.worlds.Choice.{Choice}
use Rattle.program_shape.specs.concrete_steps.declared.worlds.Choice.TheVariants.{Wake, Run}
use Rattle.program_shape.specs.concrete_steps.NextAction.{next}
use Rattle.program_shape.specs.concrete_steps.Worlds.{World, standing, answers_of, next_at, is_section, holds, is_ended}
use Rattle.program_shape.specs.concrete_steps.Worlds.{is_taken}
use Rattle.program_shape.specs.concrete_steps.Worlds.{start}
use Rattle.program_shape.specs.concrete_steps.Worlds.{step}
use Rattle.program_shape.specs.concrete_steps.Moves.{status_of, settled_status, Turn, NowHolds, OthersStand}
use Rattle.program_shape.specs.concrete_steps.Moves.{SameContents}
use Rattle.program_shape.specs.concrete_steps.Occurring.{IsReached, at_start, by_step}
use Rattle.program_shape.proofs.low.concrete_steps.Moving.{steps_are_moves}
use Rattle.program_shape.specs.flow_graph.Graphs.{Edges}
use Rattle.program_shape.specs.mutex_configs.Sets.{has}
use Rattle.lowering_laws.specs.LaidFiles.{IsLaidFile}
use Rattle.lowering_laws.proofs.TableGraphs.{few_mutexes}
use Rattle.next_action_laws.specs.Actions.{IsProper}
use Rattle.next_action_laws.specs.Worlds.{HoldsTypes, IsProperWorld}
use Rattle.next_action_laws.proofs.ProperWorlds.{worlds_are_proper}
use Rattle.program_shape.specs.tm_soundness.Shape.{Shape, Content as AContent}
use Rattle.program_shape.specs.tm_soundness.GraphWorlds.{Status as AStatus, waiting, ready, blocked, done}
use Rattle.program_shape.specs.tm_soundness.Section.{Section, alone}
use Rattle.program_shape.specs.tm_soundness.Worlds.{Action, a_ended, Source, World as AWorld, settled, Step, step_wakes}
use Rattle.program_shape.specs.tm_soundness.Worlds.{step_blocks, step_yields}
use Rattle.program_shape.specs.tm_soundness.WholeWorlds.{WholeWorld, main_of, TasksStay, WholeStep, main_acts}
use Rattle.program_shape.specs.tm_soundness.WholeWorlds.{main_yields, task_acts}
use Rattle.program_shape.specs.tm_soundness.WholeWorlds.{whole_begins, whole_goes}
use Rattle.program_shape.specs.tm_soundness.WholeWorlds.{IsFirstPhase, IsSecondPhase}
use Rattle.program_shape.specs.tm_soundness.Numbered.{TaskOf}
use Rattle.program_shape.proofs.low.tm_soundness.TwoRuns.{two_phases}
use Rattle.program_equations.specs.Programs.{priorities_of}
use Rattle.program_shape.specs.Shape.{number_of, Has}
use Rattle.program_shape.proofs.TaskNumbers.{number_below, one_number, IsNumbered, task_with}
use Rattle.sound_runs.specs.Sources.{action_of}
use Rattle.sound_runs.specs.Images.{IsImage, main_parts, the_shape, the_section, the_source, section_source}
use Rattle.sound_runs.specs.Images.{status_as, set_of, contents_as, held_as, tasks_world, whole_of, memory_of}
use Rattle.sound_runs.proofs.Layouts.{lays_cells, has_layout}
use Rattle.sound_runs.proofs.MutexSets.{set_is}
use Rattle.sound_runs.proofs.Moved.{ready_as, content_same, next_is, settled_is, acts}
use Rattle.sound_runs.proofs.Moved.{yield_moves}
use Rattle.sound_runs.proofs.Sizes.{AreSizes, reached_sizes}
use Rattle.sound_runs.proofs.Acted.{Does, does_load, does_store, does_choose, does_clear, does_lock, does_wait}
use Rattle.sound_runs.proofs.Acted.{does_unlock}
use Rattle.sound_runs.proofs.Acted.{does_yield, does_probe, does_nothing, IsWoken, MovesAs, moves_as, was_ready}
use Rattle.sound_runs.proofs.Acted.{held_by}
use Rattle.sound_runs.proofs.Acted.{IsPlainly, IsTurn, turn_of, others_calm, not_taken, IsHolder, some_taken}
use Rattle.sound_runs.proofs.Acted.{acted}
use Rattle.sound_runs.proofs.Starts.{bodies_counted, start_answers, start_task, start_main, start_held}
use Rattle.sound_runs.proofs.Starts.{standings_counted}
use Rattle.sound_runs.proofs.Starts.{priority_kept, ready_within, section_done}

unsettled : (b c h : Bool) → c ≡ false → (if b && c then false else h) ≡ h
unsettled true true h e = absurd (cc)
unsettled true false h e = refl
unsettled false c h e = refl

done_waits : (x : Status) → x ≡ Done → x ≡ Waiting → ⊥
done_waits x e f = cc

done_ready : (x : Status) → x ≡ Done → x ≡ Ready → ⊥
done_ready x e f = cc

ready_done : (x : Status) → x ≡ Ready → status_as x ≡ done → ⊥
ready_done x e f = let g : status_as Ready ≡ done = ap status_as (sym e) ∙ f in cc

-- what is settled over a ready status is ready or done
settled_ready : (b : Bool) (x : Status) → x ≡ settled_status b Ready → status_as x ≡ waiting → ⊥
settled_ready true x e f = let g : status_as Done ≡ waiting = ap status_as (sym e) ∙ f in cc
settled_ready false x e f = let g : status_as Ready ≡ waiting = ap status_as (sym e) ∙ f in cc

not_done : (b : Bool) (x : Status) → x ≡ settled_status b Ready → (x ≡ Done → ⊥) → b ≡ false
not_done true x e d = absurd (d e)
not_done false x e d = refl

is_done : (b : Bool) (x : Status) → x ≡ settled_status b Ready → x ≡ Done → b ≡ true
is_done true x e d = refl
is_done false x e d = absurd (let g : Ready ≡ Done = sym e ∙ d in cc)

module _ (P : Shape) (N : Source P) where
  settled_calm : (a : Action P N.Object) (m : P.Mutex) → settled P N a waiting ≡ blocked m → ⊥
  settled_calm a_ended m e = cc
  settled_calm a m e = cc

  settled_runs : (a : Action P N.Object) → settled P N a waiting ≡ ready → ⊥
  settled_runs a_ended e = cc
  settled_runs a e = cc

module _ (laid : LaidTree) (graph : ℕ → Edges) (is : IsLaidFile laid) (few : length laid.objects ≤ 2 ^ 32) where
  abbrev T : ℕ
  T = length laid.file.tasks

  abbrev number : TaskOf T → ℕ
  number i = number_of T i

  abbrev rank : ℕ → ℕ
  rank t = get_or (priorities_of laid.file.tasks) t 0

  abbrev P : Shape
  P = the_shape laid graph

  abbrev N : Source P
  N = the_source laid graph

  -- ## What is known of reached worlds

  pub record Facts (w : World) : Type 0 where
    pub types : HoldsTypes laid w
    pub proper : (i : ℕ) → i < length laid.bodies → IsProper laid i (next_at laid w i)
    pub sizes : AreSizes laid w
    pub count : length w.standings ≡ length laid.bodies
    pub priorities : (i : ℕ) → (standing w i).priority ≡ rank i

  pub facts : (w : World) → IsReached laid w → Facts w
  facts w r =
      let h = has_layout laid is few in
      let p : IsProperWorld laid w = worlds_are_proper is.main is.items is.file is.typed h.0 laid h.1 w r in
      record {
        types = p.contents;
        proper = p.actions;
        sizes = reached_sizes laid w r;
        count = standings_counted laid w r ∙ sym (bodies_counted laid is);
        priorities = priority_kept laid w r;
      }

  pub few_ones : length laid.file.mutexes ≤ 16
  few_ones = few_mutexes laid is

  pub ranks_of : (w : World) → Facts w → (i j : ℕ) → rank i < rank j → (standing w i).priority < (standing w j).priority
  ranks_of w f i j lt = let a = f.priorities i in let b = f.priorities j in omega (arith, a, b, lt)

  not_main : (t : TaskOf T) → number t ≡ T → ⊥
  not_main t e = let h = number_below T t in omega (arith, h, e)

  not_section : (t : TaskOf T) → is_section laid (number t) ≡ false
  not_section t = ne_eqb (number t) T (not_main t)

  apart : (j t : TaskOf T) → (j ≡ t → ⊥) → number j ≡ number t → ⊥
  apart j t not e = not (one_number T j t e)

  -- ## A task acts

  module _ (w w' : World) (f : Facts w) (t : TaskOf T)
      (free : (m : ℕ) → is_taken m w.standings ≡ false → (j : TaskOf T) → Has (held_as w (number j)) m → ⊥)
      (taken : (m : ℕ) → m < 16 → is_taken m w.standings ≡ true
      → ((j : TaskOf T) → Has (held_as w (number j)) m → ⊥) → ⊥) where
    abbrev i : ℕ
    i = number t

    abbrev H : TaskOf T → ℕ
    H j = held_as w (number j)

    abbrev H' : TaskOf T → ℕ
    H' j = held_as w' (number j)

    abbrev TaskStep : Type 0
    TaskStep = Step P N (tasks_world laid graph w) (tasks_world laid graph w')

    ranks : (j : TaskOf T) → rank i < rank (number j) → (standing w i).priority < (standing w (number j)).priority
    ranks j lt = ranks_of w f i (number j) lt

    holding : (m : ℕ) → m < 16 → has (H t) m ≡ holds m (standing w i)
    holding m small = set_is (λ l. holds l (standing w i)) m small

    others_hold : (j : TaskOf T) → ((m : ℕ) → holds m (standing w' (number j)) ≡ holds m (standing w (number j)))
        → H' j ≡ H j
    others_hold j h = λ k. set_of (λ m. h m k)

    holds_now : (held : ℕ → Bool) → NowHolds laid w' i held → (m : ℕ) → m < 16 → has (H' t) m ≡ held m
    holds_now held now m small =
        set_is (λ l. holds l (standing w' i)) m small
        ∙ (now.now m ∙ unsettled (is_ended (next_at laid w' i)) (is_section laid i) (held m) (not_section t))

    there : status_of w i ≡ Ready → i < length w.standings
    there e = ready_within w i e

    proper_here : status_of w i ≡ Ready → IsProper laid i (next_at laid w i)
    proper_here e = let lt = there e in let c = f.count in f.proper i (omega (arith, lt, c))

    plain_step : (d : Does laid w w' i) → IsPlainly laid w w' i d → TaskStep
    plain_step d h =
        let u : IsTurn laid w w' i (held_by laid w w' i d) = turn_of laid w w' i d h in
        let runs : status_of w i ≡ Ready = was_ready laid w w' i d in
        acted laid graph T number rank (one_number T) (lays_cells laid is) few_ones w w' t H H' ranks
        (λ j not. others_hold j (λ m. u.turn.other_held (number j) m (apart j t not))) holding f.types
        (proper_here runs) f.sizes (there runs) free taken d h (holds_now (held_by laid w w' i d) u.now)

    IsStep : Does laid w w' i → Type 0
    IsStep (does_nothing runs same) = ⊥
    IsStep d = Unit {0}

    pub task_steps : (d : Does laid w w' i) → (w' ≡ w) ⊎ TaskStep
    task_steps (does_nothing runs same) = inl same
    task_steps (does_wait m p at not held runs first now others answers same contents) =
        inr (step_blocks t m (acts laid graph T number rank (one_number T) (lays_cells laid is) w w' t H H' ranks
        (λ j _. others_hold j (λ l. same.same (number j) l)) holding (Acts.Lock m p) at)
        (λ h. let clash : true ≡ false = sym h.is ∙ (holding m h.small ∙ not) in cc)
        (taken m (mutex_small m p at runs) held) (ap status_as runs)
        (λ j above e. first (number j) (ranks j above) (ready_as (status_of w (number j)) e)) (ap status_as now)
        (λ j other. ap status_as (others.same (number j) (apart j t other))) (λ j. answers.same (number j))
        (λ j. others_hold j (λ l. same.same (number j) l)) (λ c. content_same laid w w' c (contents.same c)))
      where
        mutex_small : (m : ℕ) (p : Place) → next_at laid w i ≡ Acts.Lock m p → status_of w i ≡ Ready → m < 16
        mutex_small m p at runs =
            let lt : m < length laid.file.mutexes =
            subst (λ z. IsProper laid i z) at (proper_here runs) in
            let c = few_ones in omega (arith, lt, c)
    task_steps (does_yield at u others now same) =
        inr (yield_moves laid graph T number rank (one_number T) (lays_cells laid is) w w' t H H' ranks
        (λ j not. others_hold j (λ m. u.other_held (number j) m (apart j t not))) holding at
        (subst (λ b. Turn laid w w' i Answers.Done (if b then Ready else Waiting)) (not_section t) u) others
        (holds_now (λ m. holds m (standing w i)) now) same)
    task_steps (does_load o k s b p v at r u others now same) = inr (plain_step (does_load o k s b p v at r u others now same) tt)
    task_steps (does_store o k s p v at u others now new rest) = inr (plain_step (does_store o k s p v at u others now new rest) tt)
    task_steps (does_choose low high n at may u others now same) = inr (plain_step (does_choose low high n at may u others now same) tt)
    task_steps (does_clear o at u others now new) = inr (plain_step (does_clear o at u others now new) tt)
    task_steps (does_lock m p at none u others now same) = inr (plain_step (does_lock m p at none u others now same) tt)
    task_steps (does_unlock m p at mine u others now same) = inr (plain_step (does_unlock m p at mine u others now same) tt)
    task_steps (does_probe m p at u others now same) = inr (plain_step (does_probe m p at u others now same) tt)

  -- a task is woken
  pub wake_steps : (w w' : World) (t : TaskOf T) → IsWoken laid w w' (number t)
      → Step P N (tasks_world laid graph w) (tasks_world laid graph w')
  wake_steps w w' t h =
      step_wakes t (ap status_as h.before) (ap status_as h.after)
      (λ j not. ap status_as (h.others.same (number j) (apart j t not))) (λ j. h.answers.same (number j))
      (λ j. λ k. set_of (λ m. h.held.same (number j) m k)) (λ c. content_same laid w w' c (h.contents.same c))

  -- ## With an initial section

  module _ (f : ℕ) (main_is : laid.file.main ≡ Some f) where
    abbrev X : Section P
    X = the_section laid graph

    abbrev O : Source (alone P X)
    O = section_source laid graph

    abbrev memory : ℕ → AContent Value
    memory = memory_of laid graph

    abbrev whole : World → ℕ → WholeWorld P N X O
    whole w held = whole_of laid graph w held

    pub counted : length laid.bodies ≡ suc T
    counted =
        let a = bodies_counted laid is in
        let b : length (listed laid.file.main) ≡ 1 = ap (λ o. length (listed o)) main_is in
        omega (arith, a, b)

    abbrev pub IsImaged : World → Type 0
    IsImaged w = IsImage laid graph w

    section_here : is_section laid T ≡ true
    section_here = eq-eqb T T refl

    -- ### The start

    start_image : IsImaged (start laid)
    start_image = record {
      held = held_as (start laid) T;
      reached = whole_begins (record {
        content = λ c. refl;
        answers = start_answers laid T;
        held = λ n h. no_held T n h;
        status = ap status_as (start_main laid f main_is)
            ∙ settled_is laid graph 1 (λ _. T) (λ _. 0) (λ i j e. refl) (lays_cells laid is) (next laid T []) Ready;
        tasks = record {
          answers = λ j. start_answers laid (number j);
          held = λ j n h. no_held (number j) n h;
          status = λ j. ap status_as (start_task laid (number j) (number_below T j))
              ∙ settled_is laid graph T number rank (one_number T) (lays_cells laid is) (next laid (number j) []) Waiting;
        };
      });
      same = λ not m small. set_is (λ l. holds l (standing (start laid) T)) m small;
      free = λ d m. start_held laid T m;
    }
      where
        no_held : (i n : ℕ) → Has (held_as (start laid) i) n → ⊥
        no_held i n h =
            let clash : true ≡ false = sym h.is ∙ (set_is (λ l. holds l (standing (start laid) i)) n h.small ∙ start_held laid i n) in cc

    -- ### Steps

    phases : (w : World) (im : IsImaged w) → IsFirstPhase P N X O memory (whole w im.held)
        ⊎ IsSecondPhase P N X O memory (whole w im.held)
    phases w im = two_phases P N X O memory (whole w im.held) im.reached

    pub done_as : (x : Status) → status_as x ≡ done → x ≡ Done
    done_as Done e = refl
    done_as Waiting e = absurd (cc)
    done_as Ready e = absurd (cc)
    done_as (Blocked m) e = absurd (cc)

    -- a task runs only behind the section
    pub main_over : (w : World) (im : IsImaged w) (t : TaskOf T) → status_of w (number t) ≡ Ready → status_of w T ≡ Done
    main_over w im t e = by_phase (phases w im)
      where
        by_phase : IsFirstPhase P N X O memory (whole w im.held) ⊎ IsSecondPhase P N X O memory (whole w im.held)
            → status_of w T ≡ Done
        by_phase (inl one) =
            absurd (settled_runs P N (N.next t N.none) (sym (one.tasks.status t) ∙ ap status_as e))
        by_phase (inr two) = done_as (status_of w T) two.is_done

    pub task_free : (w : World) (m : ℕ) → is_taken m w.standings ≡ false → (j : TaskOf T) → Has (held_as w (number j)) m
        → ⊥
    task_free w m none j h =
        let clash : true ≡ false = sym h.is ∙ (set_is (λ l. holds l (standing w (number j))) m h.small
        ∙ not_taken m w.standings (number j) none) in cc

    task_taken : (w : World) → Facts w → ((m : ℕ) → holds m (standing w T) ≡ false) → (m : ℕ) → m < 16
        → is_taken m w.standings ≡ true → ((j : TaskOf T) → Has (held_as w (number j)) m → ⊥) → ⊥
    task_taken w fact none m small some all = by_holder (some_taken m w.standings some)
      where
        by_number : (h : IsHolder m w.standings) → Dec (h.holder ≡ T) → ⊥
        by_number h (yes e) =
            let clash : true ≡ false = sym h.holds_it ∙ (ap (λ z. holds m (standing w z)) e ∙ none m) in cc
        by_number h (no d) =
            let lt = h.within in let a = fact.count in let b = counted in
            let t : IsNumbered T h.holder = task_with T h.holder (omega (arith, lt, a, b, d)) in
            all t.task (record {
              small = small;
              is = set_is (λ l. holds l (standing w (number t.task))) m small
                  ∙ (ap (λ z. holds m (standing w z)) t.is ∙ h.holds_it);
            })

        by_holder : IsHolder m w.standings → ⊥
        by_holder h = by_number h (ℕ_discrete h.holder T)

    is_calm : (x : Status) → x ≡ Done → (m : ℕ) → x ≡ Blocked m → ⊥
    is_calm x e m g = cc

    -- the section stands as it did where a task acts
    main_stays : (w w' : World) (t : TaskOf T) → Does laid w w' (number t) → status_of w T ≡ Done
        → status_of w' T ≡ status_of w T
    main_stays w w' t d over =
        others_calm laid w w' (number t) d T (λ e. not_main t (sym e)) (λ m g. is_calm (status_of w T) over m g)

    main_holds : (w w' : World) (t : TaskOf T) (d : Does laid w w' (number t)) (m : ℕ)
        → holds m (standing w' T) ≡ holds m (standing w T)
    main_holds w w' t (does_wait n p at not held runs first now others answers same contents) m = same.same T m
    main_holds w w' t (does_nothing runs same) m = ap (λ z. holds m (standing z T)) same
    main_holds w w' t (does_yield at u others now same) m = u.other_held T m (λ e. not_main t (sym e))
    main_holds w w' t (does_load o k s b p v at r u others now same) m = u.other_held T m (λ e. not_main t (sym e))
    main_holds w w' t (does_store o k s p v at u others now new rest) m = u.other_held T m (λ e. not_main t (sym e))
    main_holds w w' t (does_choose low high n at may u others now same) m = u.other_held T m (λ e. not_main t (sym e))
    main_holds w w' t (does_clear o at u others now new) m = u.other_held T m (λ e. not_main t (sym e))
    main_holds w w' t (does_lock n p at none u others now same) m = u.other_held T m (λ e. not_main t (sym e))
    main_holds w w' t (does_unlock n p at mine u others now same) m = u.other_held T m (λ e. not_main t (sym e))
    main_holds w w' t (does_probe n p at u others now same) m = u.other_held T m (λ e. not_main t (sym e))

    task_image : (w w' : World) → Facts w → IsImaged w → (t : TaskOf T) → Does laid w w' (number t) → IsImaged w'
    task_image w w' fact im t d =
        by_step' (task_steps w w' fact t (task_free w) (task_taken w fact (im.free over)) d)
      where
        over : status_of w T ≡ Done
        over = main_over w im t (was_ready laid w w' (number t) d)

        still_over : status_of w' T ≡ Done
        still_over = main_stays w w' t d over ∙ over

        by_step' : (w' ≡ w) ⊎ Step P N (tasks_world laid graph w) (tasks_world laid graph w') → IsImaged w'
        by_step' (inl same) = subst IsImaged (sym same) im
        by_step' (inr moves) = record {
          held = im.held;
          reached = whole_goes im.reached (task_acts (ap status_as over) moves (ap status_as (main_stays w w' t d over)));
          same = λ not. absurd (not still_over);
          free = λ e m. main_holds w w' t d m ∙ im.free over m;
        }

    wake_image : (w w' : World) → Facts w → Facts w' → IsImaged w → (i : ℕ) → IsWoken laid w w' i → IsImaged w'
    wake_image w w' fact fact' im i h = record {
      held = im.held;
      reached = whole_goes im.reached (task_acts (ap status_as over)
          (wake_steps w w' t.task (subst (λ z. IsWoken laid w w' z) (sym t.is) h)) (ap status_as stays));
      same = λ not. absurd (not (stays ∙ over));
      free = λ e m. h.held.same T m ∙ im.free over m;
    }
      where
        over : status_of w T ≡ Done
        over = let a = fact.count in let b = counted in section_done laid w (omega (arith, a, b)) h.may

        other : i ≡ T → ⊥
        other e = done_waits (status_of w T) over (ap (status_of w) (sym e) ∙ h.before)

        t : IsNumbered T i
        t = let lt = ready_within w' i h.after in let a = fact'.count in let b = counted in
            task_with T i (omega (arith, lt, a, b, other))

        stays : status_of w' T ≡ status_of w T
        stays = h.others.same T (λ e. other (sym e))

    -- ### The section acts

    module _ (w w' : World) (fact : Facts w) (im : IsImaged w) where
      abbrev W : WholeWorld P N X O
      W = whole w im.held

      running : status_of w T ≡ Ready → IsFirstPhase P N X O memory W
      running e = by_phase (phases w im)
        where
          by_phase : IsFirstPhase P N X O memory W ⊎ IsSecondPhase P N X O memory W → IsFirstPhase P N X O memory W
          by_phase (inl one) = one
          by_phase (inr two) = absurd (done_ready (status_of w T) (done_as (status_of w T) two.is_done) e)

      goes_on_still : status_of w T ≡ Ready → status_of w T ≡ Done → ⊥
      goes_on_still e d = done_ready (status_of w T) d e

      main_free : status_of w T ≡ Ready → (m : ℕ) → is_taken m w.standings ≡ false → (j : Unit {0}) → Has im.held m → ⊥
      main_free e m none j h =
          let clash : true ≡ false = sym h.is ∙ (im.same (goes_on_still e) m h.small ∙ not_taken m w.standings T none) in cc

      -- a mutex that somebody holds is the section's
      main_taken : status_of w T ≡ Ready → (m : ℕ) → m < 16 → is_taken m w.standings ≡ true
          → (holds m (standing w T) ≡ false) → ⊥
      main_taken e m small some none = by_holder (some_taken m w.standings some)
        where
          by_number : (h : IsHolder m w.standings) → Dec (h.holder ≡ T) → ⊥
          by_number h (yes q) =
              let clash : true ≡ false = sym h.holds_it ∙ (ap (λ z. holds m (standing w z)) q ∙ none) in cc
          by_number h (no d) =
              let lt = h.within in let a = fact.count in let b = counted in
              let t : IsNumbered T h.holder = task_with T h.holder (omega (arith, lt, a, b, d)) in
              (running e).tasks.held t.task m (record {
                small = small;
                is = set_is (λ l. holds l (standing w (number t.task))) m small
                    ∙ (ap (λ z. holds m (standing w z)) t.is ∙ h.holds_it);
              })

          by_holder : IsHolder m w.standings → ⊥
          by_holder h = by_number h (ℕ_discrete h.holder T)

      taken_by_main : status_of w T ≡ Ready → (m : ℕ) → m < 16 → is_taken m w.standings ≡ true
          → ((j : Unit {0}) → Has im.held m → ⊥) → ⊥
      taken_by_main e m small some none = main_taken e m small some (by_bit (holds m (standing w T)) refl)
        where
          by_bit : (b : Bool) → holds m (standing w T) ≡ b → holds m (standing w T) ≡ false
          by_bit false q = q
          by_bit true q = absurd (none tt (record { small = small; is = im.same (goes_on_still e) m small ∙ q }))

      tasks_stay : (d : Does laid w w' T) → status_of w T ≡ Ready → (held' : ℕ)
          → ((j : ℕ) → j ≢ T → answers_of w' j ≡ answers_of w j)
          → ((j m : ℕ) → j ≢ T → holds m (standing w' j) ≡ holds m (standing w j))
          → TasksStay P N X O W (whole w' held')
      tasks_stay d e held' answers held = record {
        answers = λ j. answers (number j) (not_main j);
        held = λ j. λ k. set_of (λ m. held (number j) m (not_main j) k);
        status = λ j. ap status_as (others_calm laid w w' T d (number j) (not_main j) (calm j));
      }
        where
          calm : (j : TaskOf T) (m : ℕ) → status_of w (number j) ≡ Blocked m → ⊥
          calm j m g =
              settled_calm P N (N.next j N.none) m (sym ((running e).tasks.status j) ∙ ap status_as g)

      proper_main : IsProper laid T (next_at laid w T)
      proper_main = let b = counted in fact.proper T (omega (arith, b))

      no_rank : (j : Unit {0}) → 0 < 0 → (standing w T).priority < (standing w T).priority
      no_rank j lt = absurd (omega (arith, lt))

      -- what it holds then
      same_then : (d : Does laid w w' T) (held : ℕ → Bool) → NowHolds laid w' T held
          → status_of w' T ≡ settled_status (is_ended (next_at laid w' T)) Ready
          → (status_of w' T ≡ Done → ⊥) → (m : ℕ) → m < 16 → has (set_of held) m ≡ holds m (standing w' T)
      same_then d held now status not m small =
          set_is held m small ∙ sym (now.now m
          ∙ ap (λ b. if b && is_section laid T then false else held m)
          (not_done (is_ended (next_at laid w' T)) (status_of w' T) status not))

      free_then : (held : ℕ → Bool) → NowHolds laid w' T held
          → status_of w' T ≡ settled_status (is_ended (next_at laid w' T)) Ready → status_of w' T ≡ Done → (m : ℕ)
          → holds m (standing w' T) ≡ false
      free_then held now status over m =
          now.now m ∙ λ k. (if is_done (is_ended (next_at laid w' T)) (status_of w' T) status over k && section_here k
          then false else held m)

      plain_main : (d : Does laid w w' T) → IsPlainly laid w w' T d → IsImaged w'
      plain_main d h = record {
        held = set_of (held_by laid w w' T d);
        reached = whole_goes im.reached (main_acts (λ e. ready_done (status_of w T) runs e)
            (acted laid graph 1 (λ _. T) (λ _. 0) (λ i j e. refl) (lays_cells laid is) few_ones w w' tt (λ _. im.held)
            (λ _. set_of (held_by laid w w' T d)) no_rank (λ j not. absurd (not refl))
            (im.same (goes_on_still runs)) fact.types proper_main fact.sizes (ready_within w T runs) (main_free runs)
            (taken_by_main runs) d h (λ m small. set_is (held_by laid w w' T d) m small))
            (settled_ready (is_ended (next_at laid w' T)) (status_of w' T) u.turn.status)
            (tasks_stay d runs (set_of (held_by laid w w' T d)) u.turn.other_answers u.turn.other_held));
        same = same_then d (held_by laid w w' T d) u.now u.turn.status;
        free = free_then (held_by laid w w' T d) u.now u.turn.status;
      }
        where
          u : IsTurn laid w w' T (held_by laid w w' T d)
          u = turn_of laid w w' T d h

          runs : status_of w T ≡ Ready
          runs = was_ready laid w w' T d

      -- the section yields, and is ready again at once
      yield_main : next_at laid w T ≡ Acts.Yield → Turn laid w w' T Answers.Done Ready → OthersStand w w' T
          → NowHolds laid w' T (λ m. holds m (standing w T)) → SameContents w w' → (d : Does laid w w' T) → IsImaged w'
      yield_main at u others now same d = record {
        held = held';
        reached = whole_goes im.reached (by_end (is_ended (next_at laid w' T)) refl);
        same = same_then d (λ m. holds m (standing w T)) now u.status;
        free = free_then (λ m. holds m (standing w T)) now u.status;
      }
        where
          held' : ℕ
          held' = set_of (λ m. holds m (standing w T))

          -- where it waits
          between : AWorld (alone P X) O
          between = record {
            content = contents_as laid w';
            answers = λ _. answers_of w' T;
            held = λ _. held';
            status = λ _. settled (alone P X) O (O.next tt (answers_of w T ++ Answers.Done ∷ [])) waiting;
          }

          action_is : O.next tt (answers_of w T ++ Answers.Done ∷ []) ≡ action_of (main_parts laid graph) (next_at laid w' T)
          action_is =
              ap (λ a. action_of (main_parts laid graph) (next laid T a)) (sym u.answers)
              ∙ sym (ap (action_of (main_parts laid graph)) (next_is laid w' T))

          status_is : settled (alone P X) O (O.next tt (answers_of w T ++ Answers.Done ∷ [])) waiting
              ≡ status_as (settled_status (is_ended (next_at laid w' T)) Waiting)
          status_is =
              ap (λ a. settled (alone P X) O a waiting) action_is
              ∙ sym (settled_is laid graph 1 (λ _. T) (λ _. 0) (λ i j e. refl) (lays_cells laid is) (next_at laid w' T) Waiting)

          holding : (n : ℕ) → n < 16 → has held' n ≡ has im.held n
          holding n small =
              set_is (λ m. holds m (standing w T)) n small ∙ sym (im.same (goes_on_still u.ready) n small)

          first : Step (alone P X) O (main_of P N X O W) between
          first =
              step_yields tt (ap (action_of (main_parts laid graph)) (sym (next_is laid w T) ∙ at))
              (record {
                runs = ap status_as u.ready;
                top = λ j lt. absurd (omega (arith, lt));
                answers = u.answers;
                status = refl;
                others_answers = λ j not. absurd (not refl);
                others_held = λ j not. absurd (not refl);
              })
              (λ j not. absurd (not refl))
              (λ n. (
                λ h. record { small = h.small; is = sym (holding n h.small) ∙ h.is },
                λ h. record { small = h.small; is = holding n h.small ∙ h.is },
              ))
              (λ c. content_same laid w w' c (same.same c))

          stays : TasksStay P N X O W (whole w' held')
          stays = tasks_stay d u.ready held' u.other_answers u.other_held

          by_end : (b : Bool) → is_ended (next_at laid w' T) ≡ b → WholeStep P N X O W (whole w' held')
          by_end true e =
              let now_done : status_of w' T ≡ Done = u.status ∙ ap (λ b. settled_status b Ready) e in
              let here : settled (alone P X) O (O.next tt (answers_of w T ++ Answers.Done ∷ [])) waiting
              ≡ status_as (status_of w' T) =
              status_is ∙ (ap (λ b. status_as (settled_status b Waiting)) e ∙ sym (ap status_as now_done)) in
              main_acts (λ q. ready_done (status_of w T) u.ready q)
              (subst (λ (z : AStatus ℕ). Step (alone P X) O (main_of P N X O W)
              (record { content = contents_as laid w'; answers = λ _. answers_of w' T; held = λ _. held'; status = λ _. z }))
              here first)
              (λ q. let clash : done ≡ waiting = sym (ap status_as now_done) ∙ q in cc) stays
          by_end false e =
              let now_ready : status_of w' T ≡ Ready = u.status ∙ ap (λ b. settled_status b Ready) e in
              main_yields (λ q. ready_done (status_of w T) u.ready q) between first
              (step_wakes tt (status_is ∙ ap (λ b. status_as (settled_status b Waiting)) e) (ap status_as now_ready)
              (λ j not. absurd (not refl)) (λ j. refl) (λ j. refl) (λ c. refl))
              stays

      main_image : (d : Does laid w w' T) → IsImaged w'
      main_image (does_nothing runs same) = subst IsImaged (sym same) im
      main_image (does_wait m p at not held runs first now others answers same contents) =
          absurd (main_taken runs m (let lt : m < length laid.file.mutexes =
          subst (λ z. IsProper laid T z) at proper_main in let c = few_ones in omega (arith, lt, c)) held not)
      main_image (does_yield at u others now same) =
          yield_main at (subst (λ b. Turn laid w w' T Answers.Done (if b then Ready else Waiting)) section_here u) others now
          same (does_yield at u others now same)
      main_image (does_load o k s b p v at r u others now same) = plain_main (does_load o k s b p v at r u others now same) tt
      main_image (does_store o k s p v at u others now new rest) = plain_main (does_store o k s p v at u others now new rest) tt
      main_image (does_choose low high n at may u others now same) = plain_main (does_choose low high n at may u others now same) tt
      main_image (does_clear o at u others now new) = plain_main (does_clear o at u others now new) tt
      main_image (does_lock m p at none u others now same) = plain_main (does_lock m p at none u others now same) tt
      main_image (does_unlock m p at mine u others now same) = plain_main (does_unlock m p at mine u others now same) tt
      main_image (does_probe m p at u others now same) = plain_main (does_probe m p at u others now same) tt

    -- ### All worlds

    does_image : (w w' : World) → Facts w → IsImaged w → (i : ℕ) → Does laid w w' i → Dec (i ≡ T) → IsImaged w'
    does_image w w' fact im i d (yes e) = main_image w w' fact im (subst (λ z. Does laid w w' z) e d)
    does_image w w' fact im i d (no other) =
        let lt = ready_within w i (was_ready laid w w' i d) in let a = fact.count in let b = counted in
        let t : IsNumbered T i = task_with T i (omega (arith, lt, a, b, other)) in
        task_image w w' fact im t.task (subst (λ z. Does laid w w' z) (sym t.is) d)

    moved_image : (w w' : World) → Facts w → Facts w' → IsImaged w → (c : Choice) → MovesAs laid w w' c → IsImaged w'
    moved_image w w' fact fact' im (Wake i) h = wake_image w w' fact fact' im i h
    moved_image w w' fact fact' im (Run i n) d = does_image w w' fact im i d (ℕ_discrete i T)

    pub imaged : (w : World) → IsReached laid w → IsImaged w
    imaged w at_start = start_image
    imaged w (by_step {w = v} r c went) =
        moved_image v (step laid v c).world (facts v r) (facts (step laid v c).world (by_step r c went)) (imaged v r) c
        (moves_as laid v (step laid v c).world c (steps_are_moves laid v r c went))
