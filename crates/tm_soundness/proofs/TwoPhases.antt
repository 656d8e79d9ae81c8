-- The initial section over answers: what it leaves behind is what the tasks enter with.
use Rattle.std.proofs.Common.{◌≡◌, inl, inr, true, false, refl, sym, ap, subst, ◌∙◌, [], ◌∷◌}
use Rattle.tm_soundness.specs.Tables.{Tables}
use Rattle.tm_soundness.specs.Shape.{Shape, Content, Usable}
use Rattle.tm_soundness.specs.GraphWorlds.{Status, waiting, ready, blocked, done, GraphWorld, IsGraphReached, start, after}
use Rattle.tm_soundness.specs.Shaped.{IsShaped}
use Rattle.tm_soundness.specs.Covers.{IsSolution, IsEntered}
use Rattle.tm_soundness.specs.Rows.{pick}
use Rattle.tm_soundness.specs.Section.{Section, alone, IsHandover}
use Rattle.tm_soundness.specs.Worlds.{Action, a_ended, Source, World, settled, released, Turn, Step, step_wakes, step_loads, step_loads_any, step_chooses, step_stores, step_clears, step_locks, step_blocks, step_unlocks, step_yields, step_finds_held, step_finds_free, step_spins, IsReached, starts, goes_on, IsLowered, IsIn}
use Rattle.tm_soundness.proofs.Frame.{untouched, handed_over}
use Rattle.tm_soundness.proofs.Judged.{IsJudged, judged}

module _ (P : Shape) (N : Source P) where
  settled_done : (act : Action P N.Object) (base : Status P.Mutex) → (base ≡ done → ⊥) → settled P N act base ≡ done → act ≡ a_ended
  settled_done a_ended base not e = refl
  settled_done act base not e = absurd (not e)

  turned : (C C' : World P N) (s : P.Task) (a : N.Answers) (base : Status P.Mutex) → (base ≡ done → ⊥) → Turn P N C C' s a base → ((i : P.Task) → (i ≡ s → ⊥) → C'.status i ≡ done → C.status i ≡ done)
      → ((i : P.Task) → C.status i ≡ done → N.next i (C.answers i) ≡ a_ended) → (i : P.Task) → C'.status i ≡ done → N.next i (C'.answers i) ≡ a_ended
  turned C C' s a base not turn others old i over = by_case (P.same_task i s)
    where
      by_case : Dec (i ≡ s) → N.next i (C'.answers i) ≡ a_ended
      by_case (yes e) = subst (λ k. N.next k (C'.answers k) ≡ a_ended) (sym e) (ap (N.next s) turn.answers ∙ settled_done (N.next s a) base not (sym turn.status ∙ ap C'.status (sym e) ∙ over))
      by_case (no d) = ap (N.next i) (turn.others_answers i d) ∙ old i (others i d over)

  ready_done : (let st : Status P.Mutex = ready in st) ≡ done → ⊥
  ready_done e = cc

  waiting_done : (let st : Status P.Mutex = waiting in st) ≡ done → ⊥
  waiting_done e = cc

  blocked_done : (m : P.Mutex) → blocked m ≡ done → ⊥
  blocked_done m e = cc

  released_done : (m : P.Mutex) (st : Status P.Mutex) → released P N m st ≡ done → st ≡ done
  released_done m waiting e = e
  released_done m ready e = e
  released_done m done e = e
  released_done m (blocked n) e = by_case (P.same_mutex n m) e
    where
      by_case : (d : Dec (n ≡ m)) → pick d ready (blocked n) ≡ done → blocked n ≡ done
      by_case (yes k) e = absurd (ready_done e)
      by_case (no k) e = e

  over_step : (C C' : World P N) → Step P N C C' → ((i : P.Task) → C.status i ≡ done → N.next i (C.answers i) ≡ a_ended) → (i : P.Task) → C'.status i ≡ done → N.next i (C'.answers i) ≡ a_ended
  over_step C C' (step_wakes s was runs others answers held same) old i over = by_case (P.same_task i s)
    where
      by_case : Dec (i ≡ s) → N.next i (C'.answers i) ≡ a_ended
      by_case (yes e) = absurd (ready_done (sym runs ∙ ap C'.status (sym e) ∙ over))
      by_case (no d) = ap (N.next i) (answers i) ∙ old i (sym (others i d) ∙ over)
  over_step C C' (step_blocks s m is not_mine busy runs top blocks_now others answers held same) old i over = by_case (P.same_task i s)
    where
      by_case : Dec (i ≡ s) → N.next i (C'.answers i) ≡ a_ended
      by_case (yes e) = absurd (blocked_done m (sym blocks_now ∙ ap C'.status (sym e) ∙ over))
      by_case (no d) = ap (N.next i) (answers i) ∙ old i (sym (others i d) ∙ over)
  over_step C C' (step_spins s is runs top status answers held same) old i over = ap (N.next i) (answers i) ∙ old i (sym (status i) ∙ over)
  over_step C C' (step_loads s c v is reads typed turn others held same) old i over = turned C C' s (N.told (C.answers s) v) ready ready_done turn (λ i d e. sym (others i d) ∙ e) old i over
  over_step C C' (step_loads_any s c v is may turn others held same) old i over = turned C C' s (N.told (C.answers s) v) ready ready_done turn (λ i d e. sym (others i d) ∙ e) old i over
  over_step C C' (step_chooses s v is may turn others held same) old i over = turned C C' s (N.told (C.answers s) v) ready ready_done turn (λ i d e. sym (others i d) ∙ e) old i over
  over_step C C' (step_stores s c v is turn others held written else) old i over = turned C C' s (N.acked (C.answers s)) ready ready_done turn (λ i d e. sym (others i d) ∙ e) old i over
  over_step C C' (step_clears s o is turn others held here there) old i over = turned C C' s (N.acked (C.answers s)) ready ready_done turn (λ i d e. sym (others i d) ∙ e) old i over
  over_step C C' (step_locks s m is free turn others held same) old i over = turned C C' s (N.acked (C.answers s)) ready ready_done turn (λ i d e. sym (others i d) ∙ e) old i over
  over_step C C' (step_unlocks s m is mine turn others held same) old i over = turned C C' s (N.acked (C.answers s)) ready ready_done turn (λ i d e. released_done m (C.status i) (sym (others i d) ∙ e)) old i over
  over_step C C' (step_yields s is turn others held same) old i over = turned C C' s (N.acked (C.answers s)) waiting waiting_done turn (λ i d e. sym (others i d) ∙ e) old i over
  over_step C C' (step_finds_held s m is busy turn others held same) old i over = turned C C' s (N.told (C.answers s) (P.bit true)) ready ready_done turn (λ i d e. sym (others i d) ∙ e) old i over
  over_step C C' (step_finds_free s m is free turn others held same) old i over = turned C C' s (N.told (C.answers s) (P.bit false)) ready ready_done turn (λ i d e. sym (others i d) ∙ e) old i over

  -- a task that is done has come to its end
  pub done_ended : (memory : P.Cell → Content P.Value) (C : World P N) → IsReached P N memory C → (i : P.Task) → C.status i ≡ done → N.next i (C.answers i) ≡ a_ended
  done_ended memory C (starts begun) i over = ap (N.next i) (begun.answers i) ∙ settled_done (N.next i N.none) waiting waiting_done (sym (begun.status i) ∙ over)
  done_ended memory C' (goes_on {C = C} reached step) i over = over_step C C' step (done_ended memory C reached) i over

-- cells that no task may use stay as they are
pub kept : (P : Shape) → IsShaped P → (memory : P.Cell → Content P.Value) (temps : P.Task → P.Valuation) (w : GraphWorld P) → IsGraphReached P memory temps w → (c : P.Cell) → ((i : P.Task) → Usable P i c → ⊥) → w.content c ≡ memory c
kept P shape memory temps w (start begun) c not = begun.content c
kept P shape memory temps w (after {w = v} reached step) c not = untouched P shape v w step c not ∙ kept P shape memory temps v reached c not

module _ (P : Shape) (X : Section P) (T : Tables P) (U : Tables (alone P X)) (shape : IsShaped P) (sol : IsSolution P T) (main_shape : IsShaped (alone P X)) (main_sol : IsSolution (alone P X) U) (apart : (x : P.AbstractCell) (i : P.Task) → X.owned x → P.owned x i → ⊥)
    (memory : P.Cell → Content P.Value) (main_temps : P.Valuation) (temps : P.Task → P.Valuation) (entered : IsEntered (alone P X) U memory (λ _. main_temps)) (hand : IsHandover P X T U memory main_temps temps)
    (N : Source (alone P X)) (lowered : IsLowered (alone P X) N (λ _. main_temps)) where
  every : (i : Unit {0}) → IsIn (alone P X) N i (tt ∷ [])
  every i = inl refl

  pub main_judged : (C : World (alone P X) N) → IsReached (alone P X) N memory C → IsJudged (alone P X) U N main_shape main_sol memory (λ _. main_temps) entered lowered C
  main_judged C reached = judged (alone P X) U N main_shape main_sol memory (λ _. main_temps) entered lowered (tt ∷ []) every C reached

  not_used : (c : P.Cell) (i : P.Task) → P.owned (P.abstract_cell c) i → (j : Unit {0}) → Usable (alone P X) j c → ⊥
  not_used c i mine j (inl shared) = shape.not_both (P.abstract_cell c) i shared mine
  not_used c i mine j (inr owned) = apart (P.abstract_cell c) i owned mine

  -- where the section is done, the entry states of the tasks hold what it leaves behind
  pub left_behind : (C : World (alone P X) N) → IsReached (alone P X) N memory C → C.status tt ≡ done → IsEntered P T C.content temps
  left_behind C reached over =
      let j : IsJudged (alone P X) U N main_shape main_sol memory (λ _. main_temps) entered lowered C = main_judged C reached in
      let ends : X.ends (j.world.situation tt).node = lowered.at_end tt (C.answers tt) (j.world.situation tt).node (j.world.situation tt).temps (j.stands tt) (done_ended (alone P X) N memory C reached tt over) in
      subst (λ κ. IsEntered P T κ temps) (λ k c. j.image.content c k)
      (handed_over P X T U shape sol main_shape main_sol apart memory main_temps temps entered hand j.world.content j.writers (j.world.situation tt).node (j.world.situation tt).temps (j.world.situation tt).status ends (j.invariant.good tt)
      (λ c i mine. kept (alone P X) main_shape memory (λ _. main_temps) j.world j.reached c (not_used c i mine)))
