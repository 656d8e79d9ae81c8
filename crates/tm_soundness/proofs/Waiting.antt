-- Tasks that are blocked: the lock of the mutex is their next action still, and they do not hold it.
use Rattle.std.proofs.Common.{◌≡◌, true, false, sym, ap, subst, ◌∙◌}
use Rattle.tm_soundness.specs.Shape.{Shape, Content}
use Rattle.tm_soundness.specs.GraphWorlds.{Status, waiting, ready, blocked, done}
use Rattle.tm_soundness.specs.Rows.{pick}
use Rattle.tm_soundness.specs.Worlds.{Action, a_lock, a_ended, Source, World, settled, released, Turn, Step, step_wakes, step_loads, step_loads_any, step_chooses, step_stores, step_clears, step_locks, step_blocks, step_unlocks, step_yields, step_finds_held, step_finds_free, step_spins, IsReached, starts, goes_on}

module _ (P : Shape) (N : Source P) where
  -- a blocked task has that lock as its next action, and does not hold the mutex
  pub record IsWaitingFor (C : World P N) (i : P.Task) (m : P.Mutex) : Type 0 where
    pub next : N.next i (C.answers i) ≡ a_lock m
    pub not_held : P.Has (C.held i) m → ⊥

  pub settled_blocked : (act : Action P N.Object) (base : Status P.Mutex) (m : P.Mutex) → (base ≡ blocked m → ⊥) → settled P N act base ≡ blocked m → ⊥
  settled_blocked a_ended base m not e = cc
  settled_blocked act base m not e = not e

  ready_blocked : (m : P.Mutex) → (let st : Status P.Mutex = ready in st) ≡ blocked m → ⊥
  ready_blocked m e = cc

  pub waiting_blocked : (m : P.Mutex) → (let st : Status P.Mutex = waiting in st) ≡ blocked m → ⊥
  waiting_blocked m e = cc

  released_blocked : (n m : P.Mutex) (st : Status P.Mutex) → released P N n st ≡ blocked m → st ≡ blocked m
  released_blocked n m waiting e = e
  released_blocked n m ready e = e
  released_blocked n m done e = e
  released_blocked n m (blocked k) e = by_case (P.same_mutex k n) e
    where
      by_case : (d : Dec (k ≡ n)) → pick d ready (blocked k) ≡ blocked m → blocked k ≡ blocked m
      by_case (yes y) e = absurd (ready_blocked m e)
      by_case (no y) e = e

  still_waits : (C C' : World P N) (i : P.Task) (m : P.Mutex) → C'.answers i ≡ C.answers i → C'.held i ≡ C.held i → IsWaitingFor C i m → IsWaitingFor C' i m
  still_waits C C' i m answers held w = record { next = ap (N.next i) answers ∙ w.next; not_held = λ h. w.not_held (subst (λ l. P.Has l m) held h) }

  turned : (C C' : World P N) (s : P.Task) (a : N.Answers) (base : Status P.Mutex) → ((m : P.Mutex) → base ≡ blocked m → ⊥) → Turn P N C C' s a base → ((i : P.Task) (m : P.Mutex) → (i ≡ s → ⊥) → C'.status i ≡ blocked m → C.status i ≡ blocked m)
      → ((i : P.Task) (m : P.Mutex) → C.status i ≡ blocked m → IsWaitingFor C i m) → (i : P.Task) (m : P.Mutex) → C'.status i ≡ blocked m → IsWaitingFor C' i m
  turned C C' s a base not turn others old i m is = by_case (P.same_task i s)
    where
      by_case : Dec (i ≡ s) → IsWaitingFor C' i m
      by_case (yes e) = absurd (settled_blocked (N.next s a) base m (not m) (sym turn.status ∙ ap C'.status (sym e) ∙ is))
      by_case (no d) = still_waits C C' i m (turn.others_answers i d) (turn.others_held i d) (old i m (others i m d is))

  waits_step : (C C' : World P N) → Step P N C C' → ((i : P.Task) (m : P.Mutex) → C.status i ≡ blocked m → IsWaitingFor C i m) → (i : P.Task) (m : P.Mutex) → C'.status i ≡ blocked m → IsWaitingFor C' i m
  waits_step C C' (step_wakes s was runs others answers held same) old i m over = by_case (P.same_task i s)
    where
      by_case : Dec (i ≡ s) → IsWaitingFor C' i m
      by_case (yes e) = absurd (ready_blocked m (sym runs ∙ ap C'.status (sym e) ∙ over))
      by_case (no d) = still_waits C C' i m (answers i) (held i) (old i m (sym (others i d) ∙ over))
  waits_step C C' (step_blocks s n is not_mine busy runs top blocks_now others answers held same) old i m over = by_case (P.same_task i s)
    where
      same_mutex : (k l : P.Mutex) → (let st : Status P.Mutex = blocked k in st) ≡ blocked l → k ≡ l
      same_mutex k l e = cc

      by_case : Dec (i ≡ s) → IsWaitingFor C' i m
      by_case (yes e) =
          let here : n ≡ m = same_mutex n m (sym blocks_now ∙ ap C'.status (sym e) ∙ over) in
          subst (λ k. IsWaitingFor C' k m) (sym e) (subst (λ k. IsWaitingFor C' s k) here (record { next = ap (N.next s) (answers s) ∙ is; not_held = λ h. not_mine (subst (λ l. P.Has l n) (held s) h) }))
      by_case (no d) = still_waits C C' i m (answers i) (held i) (old i m (sym (others i d) ∙ over))
  waits_step C C' (step_spins s is runs top status answers held same) old i m over = still_waits C C' i m (answers i) (held i) (old i m (sym (status i) ∙ over))
  waits_step C C' (step_loads s c v is reads typed turn others held same) old i m over = turned C C' s (N.told (C.answers s) v) ready ready_blocked turn (λ i m d e. sym (others i d) ∙ e) old i m over
  waits_step C C' (step_loads_any s c v is may turn others held same) old i m over = turned C C' s (N.told (C.answers s) v) ready ready_blocked turn (λ i m d e. sym (others i d) ∙ e) old i m over
  waits_step C C' (step_chooses s v is may turn others held same) old i m over = turned C C' s (N.told (C.answers s) v) ready ready_blocked turn (λ i m d e. sym (others i d) ∙ e) old i m over
  waits_step C C' (step_stores s c v is turn others held written else) old i m over = turned C C' s (N.acked (C.answers s)) ready ready_blocked turn (λ i m d e. sym (others i d) ∙ e) old i m over
  waits_step C C' (step_clears s o is turn others held here there) old i m over = turned C C' s (N.acked (C.answers s)) ready ready_blocked turn (λ i m d e. sym (others i d) ∙ e) old i m over
  waits_step C C' (step_locks s n is free turn others held same) old i m over = turned C C' s (N.acked (C.answers s)) ready ready_blocked turn (λ i m d e. sym (others i d) ∙ e) old i m over
  waits_step C C' (step_unlocks s n is mine turn others held same) old i m over = turned C C' s (N.acked (C.answers s)) ready ready_blocked turn (λ i m d e. released_blocked n m (C.status i) (sym (others i d) ∙ e)) old i m over
  waits_step C C' (step_yields s is turn others held same) old i m over = turned C C' s (N.acked (C.answers s)) waiting waiting_blocked turn (λ i m d e. sym (others i d) ∙ e) old i m over
  waits_step C C' (step_finds_held s n is busy turn others held same) old i m over = turned C C' s (N.told (C.answers s) (P.bit true)) ready ready_blocked turn (λ i m d e. sym (others i d) ∙ e) old i m over
  waits_step C C' (step_finds_free s n is free turn others held same) old i m over = turned C C' s (N.told (C.answers s) (P.bit false)) ready ready_blocked turn (λ i m d e. sym (others i d) ∙ e) old i m over

  pub blocked_waits : (memory : P.Cell → Content P.Value) (C : World P N) → IsReached P N memory C → (i : P.Task) (m : P.Mutex) → C.status i ≡ blocked m → IsWaitingFor C i m
  blocked_waits memory C (starts begun) i m is = absurd (settled_blocked (N.next i N.none) waiting m (waiting_blocked m) (sym (begun.status i) ∙ is))
  blocked_waits memory C' (goes_on {C = C} reached step) i m is = waits_step C C' step (blocked_waits memory C reached) i m is
