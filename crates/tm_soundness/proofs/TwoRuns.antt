-- A run with an initial section is a run of the section, and then one of the tasks over what it has left.
use Rattle.std.proofs.Common.{◌≡◌, ◌⊎◌, inl, inr, refl, sym, ap, subst, ◌∙◌}
use Rattle.tm_soundness.specs.Shape.{Shape, Content}
use Rattle.tm_soundness.specs.GraphWorlds.{Status, waiting, ready, blocked, done}
use Rattle.tm_soundness.specs.Section.{Section, alone, only}
use Rattle.tm_soundness.specs.Worlds.{Action, a_ended, Source, World, settled, step_wakes, IsReached, starts, goes_on}
use Rattle.tm_soundness.specs.WholeWorlds.{WholeWorld, main_of, TasksStay, WholeStep, main_acts, main_yields, task_acts, IsTasksStart, IsWholeStart, IsWholeReached, whole_begins, whole_goes, IsFirstPhase, IsSecondPhase}

module _ (P : Shape) (N : Source P) (X : Section P) (O : Source (alone P X)) (memory : P.Cell → Content P.Value) where
  is_done : (st : Status P.Mutex) → (st ≡ done) ⊎ (st ≡ done → ⊥)
  is_done waiting = inr (λ e. cc)
  is_done ready = inr (λ e. cc)
  is_done (blocked m) = inr (λ e. cc)
  is_done done = inl refl

  phase : (w : WholeWorld P N X O) → IsReached (alone P X) O memory (main_of P N X O w) → IsTasksStart P N X O memory w → IsFirstPhase P N X O memory w ⊎ IsSecondPhase P N X O memory w
  phase w reached tasks = by_status (is_done w.main_status)
    where
      by_status : (w.main_status ≡ done) ⊎ (w.main_status ≡ done → ⊥) → IsFirstPhase P N X O memory w ⊎ IsSecondPhase P N X O memory w
      by_status (inr not) = inl (record { not_done = not; reached = reached; tasks = tasks })
      by_status (inl over) = inr (record {
        is_done = over;
        left = main_of P N X O w;
        left_reached = reached;
        left_done = over;
        reached = starts (record { content = λ c. refl; answers = tasks.answers; held = tasks.held; status = tasks.status });
      })

  -- the section begins ready: it waits, and is woken, unless it has ended at once
  begins : (w : WholeWorld P N X O) → IsWholeStart P N X O memory w → IsReached (alone P X) O memory (main_of P N X O w)
  begins w begun = by_action (O.next tt O.none) refl
    where
      before : World (alone P X) O
      before = record { content = w.content; answers = λ _. w.main_answers; held = λ _. w.main_held; status = λ _. waiting }

      woken : settled (alone P X) O (O.next tt O.none) waiting ≡ waiting → settled (alone P X) O (O.next tt O.none) ready ≡ ready → IsReached (alone P X) O memory (main_of P N X O w)
      woken waits runs =
          goes_on (starts {C = before} (record { content = begun.content; answers = λ _. begun.answers; held = λ _. begun.held; status = λ _. sym waits }))
          (step_wakes tt refl (begun.status ∙ runs) (λ i not. absurd (not (only i tt))) (λ i. refl) (λ i. refl) (λ c. refl))

      by_action : (a : Action (alone P X) O.Object) → O.next tt O.none ≡ a → IsReached (alone P X) O memory (main_of P N X O w)
      by_action a_ended e = starts (record {
        content = begun.content;
        answers = λ _. begun.answers;
        held = λ _. begun.held;
        status = λ _. begun.status ∙ ap (λ a. settled (alone P X) O a ready) e ∙ sym (ap (λ a. settled (alone P X) O a waiting) e);
      })
      by_action a e = woken (ap (λ b. settled (alone P X) O b waiting) e) (ap (λ b. settled (alone P X) O b ready) e)

  tasks_on : (w w' : WholeWorld P N X O) → TasksStay P N X O w w' → IsTasksStart P N X O memory w → IsTasksStart P N X O memory w'
  tasks_on w w' stay tasks = record {
    answers = λ i. stay.answers i ∙ tasks.answers i;
    held = λ i n h. tasks.held i n (subst (λ l. P.Has l n) (stay.held i) h);
    status = λ i. stay.status i ∙ tasks.status i;
  }

  goes : (w w' : WholeWorld P N X O) → IsFirstPhase P N X O memory w ⊎ IsSecondPhase P N X O memory w → WholeStep P N X O w w' → IsFirstPhase P N X O memory w' ⊎ IsSecondPhase P N X O memory w'
  goes w w' (inl one) (main_acts not step awake stay) = phase w' (goes_on one.reached step) (tasks_on w w' stay one.tasks)
  goes w w' (inl one) (main_yields not C step again stay) = phase w' (goes_on (goes_on one.reached step) again) (tasks_on w w' stay one.tasks)
  goes w w' (inl one) (task_acts over step same) = absurd (one.not_done over)
  goes w w' (inr two) (main_acts not step awake stay) = absurd (not two.is_done)
  goes w w' (inr two) (main_yields not C step again stay) = absurd (not two.is_done)
  goes w w' (inr two) (task_acts over step same) = inr (record { is_done = same ∙ over; left = two.left; left_reached = two.left_reached; left_done = two.left_done; reached = goes_on two.reached step })

  pub two_phases : (w : WholeWorld P N X O) → IsWholeReached P N X O memory w → IsFirstPhase P N X O memory w ⊎ IsSecondPhase P N X O memory w
  two_phases w (whole_begins begun) = phase w (begins w begun) begun.tasks
  two_phases w (whole_goes {w = v} reached step) = goes v w (two_phases v reached) step
