-- Each world over answers that is reached stands for a world of the graphs that is reached.
use Rattle.std.proofs.Common.{◌≡◌, ◌⊎◌, inl, inr, true, false, refl, sym, ap, subst, ◌∙◌}
use Rattle.tm_soundness.specs.Shape.{Shape, Operation, calculation, load, load_any, store, clear, lock, unlock, yields, probe, Content, given, Reads}
use Rattle.tm_soundness.specs.GraphWorlds.{Status, waiting, ready, blocked, done, Situation, GraphWorld, at, IsFirst, IsFree, IsAwake, awake_waiting, awake_ready, IsAccess, IsSameMemory, IsReleased, Runs, Moves, GraphStep, wake, finish, calculate, loads, loads_any, stores, clearing, locks, blocks, unlocks, waits, finds_held, finds_free, IsGraphReached, start, after}
use Rattle.tm_soundness.specs.Shaped.{Passes, IsShaped}
use Rattle.tm_soundness.specs.Rows.{pick}
use Rattle.tm_soundness.specs.Worlds.{Action, a_lock, a_unlock, a_ended, Source, World, settled, released, IsTop, IsHeldFree, SameHeld, Turn, OthersStay, SameContent, Step, step_wakes, step_loads, step_loads_any, step_chooses, step_stores, step_clears, step_locks, step_blocks, step_unlocks, step_yields, step_finds_held, step_finds_free, step_spins, IsStart, IsReached, starts, goes_on, Silent, still, along, Arrives, Leaves, IsLowered, IsAt, IsImage}
use Rattle.tm_soundness.proofs.Others.{situation_path}
use Rattle.tm_soundness.proofs.FromRows.{pick_yes, pick_no}

module _ (P : Shape) (N : Source P) where
  same_sym : (l h : P.Held) → SameHeld P N l h → SameHeld P N h l
  same_sym l h s n = ((s n).1, (s n).0)

  pub same_trans : (l h k : P.Held) → SameHeld P N l h → SameHeld P N h k → SameHeld P N l k
  same_trans l h k s t n = (λ a. (t n).0 ((s n).0 a), λ a. (s n).1 ((t n).1 a))

  same_path : (l h : P.Held) → l ≡ h → SameHeld P N l h
  same_path l h e n = (λ a. subst (λ k. P.Has k n) e a, λ a. subst (λ k. P.Has k n) (sym e) a)

  passes_same : (q q' : P.Node) → Passes P q q' → SameHeld P N (P.held q') (P.held q)
  passes_same q q' passes n = (passes.held_down n, passes.held_up n)

  -- a world with situation z at task i, and f at the others
  abbrev place : (P.Cell → Content P.Value) → (P.Task → Situation P) → P.Task → Situation P → GraphWorld P
  place κ f i z = record { content = κ; situation = λ j. pick (P.same_task j i) z (f j) }

  place_here : (κ : P.Cell → Content P.Value) (f : P.Task → Situation P) (i : P.Task) (z : Situation P) (j : P.Task) → j ≡ i → (place κ f i z).situation j ≡ z
  place_here κ f i z j e = pick_yes (P.same_task j i) z (f j) e

  place_there : (κ : P.Cell → Content P.Value) (f : P.Task → Situation P) (i : P.Task) (z : Situation P) (j : P.Task) → (j ≡ i → ⊥) → (place κ f i z).situation j ≡ f j
  place_there κ f i z j e = pick_no (P.same_task j i) z (f j) e

  moves_place : (w : GraphWorld P) (κ : P.Cell → Content P.Value) (i : P.Task) (z : Situation P) (s : P.Task) → s ≡ i → Moves P w (place κ w.situation i z) s z
  moves_place w κ i z s e = record { mine = place_here κ w.situation i z s e; others = λ j not. place_there κ w.situation i z j (λ k. not (k ∙ sym e)) }

  module _ (shape : IsShaped P) (memory : P.Cell → Content P.Value) (temps : P.Task → P.Valuation) (lowered : IsLowered P N temps) where
    pub silent_held : (i : P.Task) (q : P.Node) (ρ : P.Valuation) (q' : P.Node) (ρ' : P.Valuation) → Silent P N i q ρ q' ρ' → SameHeld P N (P.held q') (P.held q)
    silent_held i q ρ q' ρ' still = λ n. (λ a. a, λ a. a)
    silent_held i q ρ q' ρ' (along {ρ' = σ} e actor is does rest) = same_trans (P.held q') (P.held (P.to e)) (P.held (P.from e)) (silent_held i (P.to e) σ q' ρ' rest) (passes_same (P.from e) (P.to e) (shape.calc_passes e is))

    -- a task takes its silent edges
    pub run_silent : (i : P.Task) (w : GraphWorld P) → IsGraphReached P memory temps w → (q : P.Node) (ρ : P.Valuation) (q' : P.Node) (ρ' : P.Valuation) (st : Status P.Mutex) → w.situation i ≡ at P q ρ st → IsAwake P st → Silent P N i q ρ q' ρ'
        → (w' : GraphWorld P) × IsGraphReached P memory temps w' × IsSameMemory P w w' × Moves P w w' i (at P q' ρ' st)
    run_silent i w reached q ρ q' ρ' st here awake still = (w, reached, λ c. refl, record { mine = here; others = λ j not. refl })
    run_silent i w reached q ρ q' ρ' st here awake (along {ρ' = σ} e actor is does rest) =
        let w1 : GraphWorld P = place w.content w.situation i (at P (P.to e) σ st) in
        let step : GraphStep P w w1 = calculate e ρ σ st is (ap w.situation actor ∙ here) awake does (moves_place w w.content i (at P (P.to e) σ st) (P.actor e) actor) (λ c. refl) in
        let more : (w' : GraphWorld P) × IsGraphReached P memory temps w' × IsSameMemory P w1 w' × Moves P w1 w' i (at P q' ρ' st) =
        run_silent i w1 (after reached step) (P.to e) σ q' ρ' st (place_here w.content w.situation i (at P (P.to e) σ st) i refl) awake rest in
        (more.0, more.1, more.2, record { mine = more.3.mine; others = λ j not. more.3.others j not ∙ place_there w.content w.situation i (at P (P.to e) σ st) j not })

    -- and is done where it has come to its end
    arrive : (w : GraphWorld P) → IsGraphReached P memory temps w → (i : P.Task) (q : P.Node) (ρ : P.Valuation) (a : N.Answers) (base : Status P.Mutex) → w.situation i ≡ at P q ρ base → IsAwake P base → (arrives : Arrives P N i q ρ a)
        → (w' : GraphWorld P) × IsGraphReached P memory temps w' × IsSameMemory P w w' × Moves P w w' i (at P arrives.node arrives.temps (settled P N (N.next i a) base))
    arrive w reached i q ρ a base here awake arrives = end (N.next i a) refl
      where
        ran : (w' : GraphWorld P) × IsGraphReached P memory temps w' × IsSameMemory P w w' × Moves P w w' i (at P arrives.node arrives.temps base)
        ran = run_silent i w reached q ρ arrives.node arrives.temps base here awake arrives.way

        end : (act : Action P N.Object) → N.next i a ≡ act → (w' : GraphWorld P) × IsGraphReached P memory temps w' × IsSameMemory P w w' × Moves P w w' i (at P arrives.node arrives.temps (settled P N act base))
        end a_ended e =
            let z : Situation P = at P arrives.node arrives.temps done in
            let v : GraphWorld P = ran.0 in
            let v1 : GraphWorld P = place v.content v.situation i z in
            let step : GraphStep P v v1 = finish i arrives.node arrives.temps base ran.3.mine awake (lowered.at_end i a arrives.node arrives.temps arrives.stands e) (moves_place v v.content i z i refl) (λ c. refl) in
            (v1, after ran.1 step, ran.2, record { mine = place_here v.content v.situation i z i refl; others = λ j not. place_there v.content v.situation i z j not ∙ ran.3.others j not })
        end act e = ran

    -- C' as C for task i
    at_same : (C C' : World P N) (i : P.Task) (z : Situation P) → C'.answers i ≡ C.answers i → C'.status i ≡ C.status i → C'.held i ≡ C.held i → IsAt P N C i z → IsAt P N C' i z
    at_same C C' i z answers status held here = record {
      arrives = subst (λ a. Arrives P N i z.node z.temps a) (sym answers) here.arrives;
      status = elim here.status [ inl e ↦ inl (e ∙ sym status) | inr e ↦ inr (e.0, status ∙ e.1) ];
      held = subst (λ h. SameHeld P N (P.held z.node) h) (sym held) here.held;
    }

    module _ (C : World P N) where
      -- task s runs: it has taken its silent edges
      record IsPrepared (s : P.Task) : Type 0 where
        world : GraphWorld P
        reached : IsGraphReached P memory temps world
        image : IsImage P N C world
        node : P.Node
        values : P.Valuation
        here : world.situation s ≡ at P node values ready
        stands : N.stands s (C.answers s) node values

      not_done : (st : Status P.Mutex) → st ≡ ready → st ≡ done → ⊥
      not_done st a b = cc

      not_waiting : (st : Status P.Mutex) → st ≡ ready → st ≡ waiting → ⊥
      not_waiting st a b = cc

      is_ready : (s : P.Task) (z : Situation P) → C.status s ≡ ready → (z.status ≡ C.status s) ⊎ ((z.status ≡ waiting) × (C.status s ≡ done)) → z.status ≡ ready
      is_ready s z runs (inl e) = e ∙ runs
      is_ready s z runs (inr e) = absurd (not_done (C.status s) runs e.1)

      prepare : (w : GraphWorld P) → IsGraphReached P memory temps w → IsImage P N C w → (s : P.Task) → C.status s ≡ ready → IsPrepared s
      prepare w reached image s runs = record {
        world = ran.0;
        reached = ran.1;
        image = record { content = λ c. ran.2 c ∙ image.content c; sits = λ i. sits i (P.same_task i s) };
        node = old.arrives.node;
        values = old.arrives.temps;
        here = ran.3.mine;
        stands = old.arrives.stands;
      }
        where
          old : IsAt P N C s (w.situation s)
          old = image.sits s

          z : Situation P
          z = w.situation s

          ran : (w' : GraphWorld P) × IsGraphReached P memory temps w' × IsSameMemory P w w' × Moves P w w' s (at P old.arrives.node old.arrives.temps ready)
          ran = run_silent s w reached z.node z.temps old.arrives.node old.arrives.temps ready (situation_path P z z.node z.temps ready refl refl (is_ready s z runs old.status)) awake_ready old.arrives.way

          mine : IsAt P N C s (at P old.arrives.node old.arrives.temps ready)
          mine = record {
            arrives = record { node = old.arrives.node; temps = old.arrives.temps; way = still; stands = old.arrives.stands };
            status = inl (sym runs);
            held = same_trans (P.held old.arrives.node) (P.held z.node) (C.held s) (silent_held s z.node z.temps old.arrives.node old.arrives.temps old.arrives.way) old.held;
          }

          sits : (i : P.Task) → Dec (i ≡ s) → IsAt P N C i (ran.0.situation i)
          sits i (yes e) = subst (λ j. IsAt P N C j (ran.0.situation j)) (sym e) (subst (λ y. IsAt P N C s y) (sym ran.3.mine) mine)
          sits i (no not) = subst (λ y. IsAt P N C i y) (sym (ran.3.others i not)) (image.sits i)

      first_of_all : (w : GraphWorld P) → IsImage P N C w → (s : P.Task) → IsTop P N C s → IsFirst P w s
      first_of_all w image s top i less up = elim (image.sits i).status [
        | inl e ↦ top i less (sym e ∙ up)
        | inr e ↦ not_waiting (w.situation i).status up e.0
      ]

      free_there : (w : GraphWorld P) → IsImage P N C w → (m : P.Mutex) → IsHeldFree P N C m → IsFree P w m
      free_there w image m free i a = free i (((image.sits i).held m).0 a)

      busy_there : (w : GraphWorld P) → IsImage P N C w → (m : P.Mutex) → (IsHeldFree P N C m → ⊥) → IsFree P w m → ⊥
      busy_there w image m busy free = busy (λ i a. free i (((image.sits i).held m).1 a))

      held_there : (w : GraphWorld P) → IsImage P N C w → (s : P.Task) (q : P.Node) (ρ : P.Valuation) → w.situation s ≡ at P q ρ ready → SameHeld P N (P.held q) (C.held s)
      held_there w image s q ρ here = subst (λ (y : Situation P). SameHeld P N (P.held y.node) (C.held s)) here (image.sits s).held

      runs_there : (s : P.Task) (ready_s : IsPrepared s) (o : Operation P.Temporary P.Mutex) (l : Leaves P N s ready_s.node o) → IsTop P N C s → Runs P ready_s.world l.edge ready_s.values
      runs_there s p o l top = record {
        here = ap p.world.situation l.actor ∙ p.here ∙ ap (λ r. at P r p.values ready) (sym l.from);
        first = subst (λ t. IsFirst P p.world t) (sym l.actor) (first_of_all p.world p.image s top);
      }

      module _ (C' : World P N) where
        abbrev Next : Type 0
        Next = (w' : GraphWorld P) × IsGraphReached P memory temps w' × IsImage P N C' w'

        -- after the action's edge: the silent edges behind it, and the end
        conclude : (s : P.Task) (a : N.Answers) (base : Status P.Mutex) (w1 : GraphWorld P) (q1 : P.Node) (ρ1 : P.Valuation) → C'.answers s ≡ a → C'.status s ≡ settled P N (N.next s a) base → IsAwake P base → IsGraphReached P memory temps w1 → w1.situation s ≡ at P q1 ρ1 base
            → Arrives P N s q1 ρ1 a → SameHeld P N (P.held q1) (C'.held s) → ((c : P.Cell) → w1.content c ≡ C'.content c) → ((i : P.Task) → (i ≡ s → ⊥) → IsAt P N C' i (w1.situation i)) → Next
        conclude s a base w1 q1 ρ1 answers status awake reached here arrives held content others =
            (ran.0, ran.1, record { content = λ c. ran.2 c ∙ content c; sits = λ i. sits i (P.same_task i s) })
          where
            ran : (w' : GraphWorld P) × IsGraphReached P memory temps w' × IsSameMemory P w1 w' × Moves P w1 w' s (at P arrives.node arrives.temps (settled P N (N.next s a) base))
            ran = arrive w1 reached s q1 ρ1 a base here awake arrives

            mine : IsAt P N C' s (at P arrives.node arrives.temps (settled P N (N.next s a) base))
            mine = record {
              arrives = record { node = arrives.node; temps = arrives.temps; way = still; stands = subst (λ b. N.stands s b arrives.node arrives.temps) (sym answers) arrives.stands };
              status = inl (sym status);
              held = same_trans (P.held arrives.node) (P.held q1) (C'.held s) (silent_held s q1 ρ1 arrives.node arrives.temps arrives.way) held;
            }

            sits : (i : P.Task) → Dec (i ≡ s) → IsAt P N C' i (ran.0.situation i)
            sits i (yes e) = subst (λ j. IsAt P N C' j (ran.0.situation j)) (sym e) (subst (λ y. IsAt P N C' s y) (sym ran.3.mine) mine)
            sits i (no not) = subst (λ y. IsAt P N C' i y) (sym (ran.3.others i not)) (others i not)

        -- the others stay
        stay : (s : P.Task) (w : GraphWorld P) (κ : P.Cell → Content P.Value) (z : Situation P) → IsImage P N C w → ((i : P.Task) → (i ≡ s → ⊥) → C'.answers i ≡ C.answers i) → ((i : P.Task) → (i ≡ s → ⊥) → C'.held i ≡ C.held i) → OthersStay P N C C' s
            → (i : P.Task) → (i ≡ s → ⊥) → IsAt P N C' i ((place κ w.situation s z).situation i)
        stay s w κ z image answers held status i not = subst (λ y. IsAt P N C' i y) (sym (place_there κ w.situation s z i not)) (at_same C C' i (w.situation i) (answers i not) (status i not) (held i not) (image.sits i))

        -- an edge that takes and gives back no mutex, and changes no memory
        quiet_turn : (s : P.Task) (a : N.Answers) (base : Status P.Mutex) → (p : IsPrepared s) → Turn P N C C' s a base → OthersStay P N C C' s → SameHeld P N (C'.held s) (C.held s) → IsAwake P base → (e : P.Edge) (ρ' : P.Valuation)
            → SameHeld P N (P.held (P.to e)) (P.held p.node) → GraphStep P p.world (place C'.content p.world.situation s (at P (P.to e) ρ' base)) → Arrives P N s (P.to e) ρ' a → Next
        quiet_turn s a base p turn others held awake e ρ' kept step arrives =
            let z : Situation P = at P (P.to e) ρ' base in
            conclude s a base (place C'.content p.world.situation s z) (P.to e) ρ' turn.answers turn.status awake (after p.reached step) (place_here C'.content p.world.situation s z s refl) arrives
            (same_trans (P.held (P.to e)) (P.held p.node) (C'.held s) kept (same_trans (P.held p.node) (C.held s) (C'.held s) (held_there p.world p.image s p.node p.values p.here) (same_sym (C'.held s) (C.held s) held))) (λ c. refl)
            (stay s p.world C'.content z p.image turn.others_answers turn.others_held others)

        moves_there : (s : P.Task) (w : GraphWorld P) (z : Situation P) (e : P.Edge) → P.actor e ≡ s → Moves P w (place C'.content w.situation s z) (P.actor e) z
        moves_there s w z e is = moves_place w C'.content s z (P.actor e) is

        same_memory : (w : GraphWorld P) → IsImage P N C w → SameContent P N C C' → (s : P.Task) (z : Situation P) → IsSameMemory P w (place C'.content w.situation s z)
        same_memory w image same s z c = same c ∙ sym (image.content c)

        kept_by : (s : P.Task) (q : P.Node) (o : Operation P.Temporary P.Mutex) (l : Leaves P N s q o) → Passes P (P.from l.edge) (P.to l.edge) → SameHeld P N (P.held (P.to l.edge)) (P.held q)
        kept_by s q o l passes = same_trans (P.held (P.to l.edge)) (P.held (P.from l.edge)) (P.held q) (passes_same (P.from l.edge) (P.to l.edge) passes) (same_path (P.held (P.from l.edge)) (P.held q) (ap P.held l.from))

        simulate_wake : (w : GraphWorld P) → IsGraphReached P memory temps w → IsImage P N C w → (s : P.Task) → C.status s ≡ waiting → C'.status s ≡ ready → OthersStay P N C C' s → ((i : P.Task) → C'.answers i ≡ C.answers i) → ((i : P.Task) → C'.held i ≡ C.held i) → SameContent P N C C' → Next
        simulate_wake w reached image s was runs others answers held same = (w1, after reached step, record { content = λ c. refl; sits = λ i. sits i (P.same_task i s) })
          where
            old : IsAt P N C s (w.situation s)
            old = image.sits s

            is_waiting : (st : Status P.Mutex) → (st ≡ C.status s) ⊎ ((st ≡ waiting) × (C.status s ≡ done)) → st ≡ waiting
            is_waiting st (inl e) = e ∙ was
            is_waiting st (inr e) = e.0

            z : Situation P
            z = at P (w.situation s).node (w.situation s).temps ready

            w1 : GraphWorld P
            w1 = place C'.content w.situation s z

            step : GraphStep P w w1
            step = wake s (w.situation s).node (w.situation s).temps (situation_path P (w.situation s) (w.situation s).node (w.situation s).temps waiting refl refl (is_waiting (w.situation s).status old.status)) (moves_place w C'.content s z s refl) (same_memory w image same s z)

            mine : IsAt P N C' s z
            mine = record {
              arrives = subst (λ a. Arrives P N s (w.situation s).node (w.situation s).temps a) (sym (answers s)) old.arrives;
              status = inl (sym runs);
              held = subst (λ h. SameHeld P N (P.held (w.situation s).node) h) (sym (held s)) old.held;
            }

            sits : (i : P.Task) → Dec (i ≡ s) → IsAt P N C' i (w1.situation i)
            sits i (yes e) = subst (λ j. IsAt P N C' j (w1.situation j)) (sym e) (subst (λ y. IsAt P N C' s y) (sym (place_here C'.content w.situation s z s refl)) mine)
            sits i (no not) = stay s w C'.content z image (λ j _. answers j) (λ j _. held j) others i not

        simulate_block : (w : GraphWorld P) → IsGraphReached P memory temps w → IsImage P N C w → (s : P.Task) (m : P.Mutex) → N.next s (C.answers s) ≡ a_lock m → (P.Has (C.held s) m → ⊥) → (IsHeldFree P N C m → ⊥) → C.status s ≡ ready → IsTop P N C s
            → C'.status s ≡ blocked m → OthersStay P N C C' s → ((i : P.Task) → C'.answers i ≡ C.answers i) → ((i : P.Task) → C'.held i ≡ C.held i) → SameContent P N C C' → Next
        simulate_block w reached image s m is not_mine busy runs top blocks_now others answers held same = (w1, after p.reached step, record { content = λ c. refl; sits = λ i. sits i (P.same_task i s) })
          where
            p : IsPrepared s
            p = prepare w reached image s runs

            leaves : (l : Leaves P N s p.node (lock m)) × ((P.Has (P.held p.node) m → ⊥) → Arrives P N s (P.to l.edge) p.values (N.acked (C.answers s)))
            leaves = lowered.at_lock s (C.answers s) p.node p.values m p.stands is

            l : Leaves P N s p.node (lock m)
            l = leaves.0

            z : Situation P
            z = at P (P.from l.edge) p.values (blocked m)

            w1 : GraphWorld P
            w1 = place C'.content p.world.situation s z

            old_held : SameHeld P N (P.held p.node) (C.held s)
            old_held = held_there p.world p.image s p.node p.values p.here

            no_relock : P.Has (P.held (P.from l.edge)) m → ⊥
            no_relock a = not_mine ((old_held m).0 (subst (λ q. P.Has (P.held q) m) l.from a))

            step : GraphStep P p.world w1
            step = blocks l.edge p.values m l.operation (runs_there s p (lock m) l top) no_relock (busy_there p.world p.image m busy) (moves_there s p.world z l.edge l.actor) (same_memory p.world p.image same s z)

            mine : IsAt P N C' s z
            mine = record {
              arrives = record { node = p.node; temps = p.values; way = subst (λ q. Silent P N s q p.values p.node p.values) (sym l.from) still; stands = subst (λ a. N.stands s a p.node p.values) (sym (answers s)) p.stands };
              status = inl (sym blocks_now);
              held = subst (λ h. SameHeld P N (P.held (P.from l.edge)) h) (sym (held s)) (same_trans (P.held (P.from l.edge)) (P.held p.node) (C.held s) (same_path (P.held (P.from l.edge)) (P.held p.node) (ap P.held l.from)) old_held);
            }

            sits : (i : P.Task) → Dec (i ≡ s) → IsAt P N C' i (w1.situation i)
            sits i (yes e) = subst (λ j. IsAt P N C' j (w1.situation j)) (sym e) (subst (λ y. IsAt P N C' s y) (sym (place_here C'.content p.world.situation s z s refl)) mine)
            sits i (no not) = stay s p.world C'.content z p.image (λ j _. answers j) (λ j _. held j) others i not

        released_is : (m : P.Mutex) (st : Status P.Mutex) → (released P N m st ≡ st) ⊎ ((st ≡ blocked m) × (released P N m st ≡ ready))
        released_is m waiting = inl refl
        released_is m ready = inl refl
        released_is m done = inl refl
        released_is m (blocked n) = by_case (P.same_mutex n m)
          where
            by_case : (d : Dec (n ≡ m)) → (pick d ready (blocked n) ≡ blocked n) ⊎ ((blocked n ≡ blocked m) × (pick d ready (blocked n) ≡ ready))
            by_case (yes e) = inr (ap blocked e, refl)
            by_case (no not) = inl refl

        simulate_unlock : (s : P.Task) (p : IsPrepared s) (m : P.Mutex) → N.next s (C.answers s) ≡ a_unlock m → P.Has (C.held s) m → Turn P N C C' s (N.acked (C.answers s)) ready → ((i : P.Task) → (i ≡ s → ⊥) → C'.status i ≡ released P N m (C.status i))
            → ((n : P.Mutex) → (P.Has (C'.held s) n → P.Has (C.held s) n × (n ≡ m → ⊥)) × (P.Has (C.held s) n → (n ≡ m → ⊥) → P.Has (C'.held s) n)) → SameContent P N C C' → Next
        simulate_unlock s p m is mine turn others held same =
            conclude s (N.acked (C.answers s)) ready w1 (P.to l.edge) p.values turn.answers turn.status awake_ready (after p.reached step) (place_here C'.content freed s z s refl) (leaves.1 mine_there) agree (λ c. refl) other_sits
          where
            leaves : (l : Leaves P N s p.node (unlock m)) × (P.Has (P.held p.node) m → Arrives P N s (P.to l.edge) p.values (N.acked (C.answers s)))
            leaves = lowered.at_unlock s (C.answers s) p.node p.values m p.stands is

            l : Leaves P N s p.node (unlock m)
            l = leaves.0

            old_held : SameHeld P N (P.held p.node) (C.held s)
            old_held = held_there p.world p.image s p.node p.values p.here

            mine_there : P.Has (P.held p.node) m
            mine_there = (old_held m).1 mine

            mine_from : P.Has (P.held (P.from l.edge)) m
            mine_from = subst (λ q. P.Has (P.held q) m) (sym l.from) mine_there

            z : Situation P
            z = at P (P.to l.edge) p.values ready

            freed : P.Task → Situation P
            freed j = at P (p.world.situation j).node (p.world.situation j).temps (released P N m (p.world.situation j).status)

            w1 : GraphWorld P
            w1 = place C'.content freed s z

            is_released : (y : Situation P) (j : P.Task) → y ≡ freed j → IsReleased P m (p.world.situation j) y
            is_released y j e = record {
              node = ap (λ (x : Situation P). x.node) e;
              temps = ap (λ (x : Situation P). x.temps) e;
              status = elim (released_is m (p.world.situation j).status) [
                | inl k ↦ inl (ap (λ (x : Situation P). x.status) e ∙ k)
                | inr k ↦ inr (k.0, ap (λ (x : Situation P). x.status) e ∙ k.1)
              ];
            }

            step : GraphStep P p.world w1
            step = unlocks l.edge p.values m l.operation (runs_there s p (unlock m) l turn.top) mine_from (place_here C'.content freed s z (P.actor l.edge) l.actor)
                (λ j not. is_released (w1.situation j) j (place_there C'.content freed s z j (λ e. not (e ∙ sym l.actor)))) (λ c. same c ∙ sym (p.image.content c))

            agree : SameHeld P N (P.held (P.to l.edge)) (C'.held s)
            agree n = (
              (λ a. (held n).1 ((old_held n).0 (subst (λ q. P.Has (P.held q) n) l.from (shape.unlock_held l.edge m n l.operation mine_from a))) (λ e. lowered.unlock_drops l.edge m l.operation mine_from (subst (λ k. P.Has (P.held (P.to l.edge)) k) e a))),
              (λ a. shape.unlock_kept l.edge m n l.operation mine_from ((held n).0 a).1 (subst (λ q. P.Has (P.held q) n) (sym l.from) ((old_held n).1 ((held n).0 a).0))),
            )

            freed_status : (i : P.Task) → C'.status i ≡ released P N m (C.status i) → (st : Status P.Mutex) → (st ≡ C.status i) ⊎ ((st ≡ waiting) × (C.status i ≡ done)) → (released P N m st ≡ C'.status i) ⊎ ((released P N m st ≡ waiting) × (C'.status i ≡ done))
            freed_status i is' st (inl e) = inl (ap (released P N m) e ∙ sym is')
            freed_status i is' st (inr e) = inr (ap (released P N m) e.0, is' ∙ ap (released P N m) e.1)

            other_sits : (i : P.Task) → (i ≡ s → ⊥) → IsAt P N C' i (w1.situation i)
            other_sits i not = subst (λ y. IsAt P N C' i y) (sym (place_there C'.content freed s z i not)) (record {
              arrives = subst (λ a. Arrives P N i (p.world.situation i).node (p.world.situation i).temps a) (sym (turn.others_answers i not)) (p.image.sits i).arrives;
              status = freed_status i (others i not) (p.world.situation i).status (p.image.sits i).status;
              held = subst (λ h. SameHeld P N (P.held (p.world.situation i).node) h) (sym (turn.others_held i not)) (p.image.sits i).held;
            })

        simulate_lock : (s : P.Task) (p : IsPrepared s) (m : P.Mutex) → N.next s (C.answers s) ≡ a_lock m → IsHeldFree P N C m → Turn P N C C' s (N.acked (C.answers s)) ready → OthersStay P N C C' s
            → ((n : P.Mutex) → (P.Has (C'.held s) n → P.Has (C.held s) n ⊎ (n ≡ m)) × (P.Has (C.held s) n ⊎ (n ≡ m) → P.Has (C'.held s) n)) → SameContent P N C C' → Next
        simulate_lock s p m is free turn others held same =
            conclude s (N.acked (C.answers s)) ready (place C'.content p.world.situation s z) (P.to l.edge) p.values turn.answers turn.status awake_ready (after p.reached step) (place_here C'.content p.world.situation s z s refl) (leaves.1 not_there) agree (λ c. refl)
            (stay s p.world C'.content z p.image turn.others_answers turn.others_held others)
          where
            leaves : (l : Leaves P N s p.node (lock m)) × ((P.Has (P.held p.node) m → ⊥) → Arrives P N s (P.to l.edge) p.values (N.acked (C.answers s)))
            leaves = lowered.at_lock s (C.answers s) p.node p.values m p.stands is

            l : Leaves P N s p.node (lock m)
            l = leaves.0

            old_held : SameHeld P N (P.held p.node) (C.held s)
            old_held = held_there p.world p.image s p.node p.values p.here

            not_there : P.Has (P.held p.node) m → ⊥
            not_there a = free s ((old_held m).0 a)

            not_from : P.Has (P.held (P.from l.edge)) m → ⊥
            not_from a = not_there (subst (λ q. P.Has (P.held q) m) l.from a)

            z : Situation P
            z = at P (P.to l.edge) p.values ready

            step : GraphStep P p.world (place C'.content p.world.situation s z)
            step = locks l.edge p.values m l.operation (runs_there s p (lock m) l turn.top) (free_there p.world p.image m free) (moves_there s p.world z l.edge l.actor) (same_memory p.world p.image same s z)

            agree : SameHeld P N (P.held (P.to l.edge)) (C'.held s)
            agree n = (
              (λ a. elim (shape.lock_held l.edge m n l.operation not_from a) [ inl b ↦ (held n).1 (inl ((old_held n).0 (subst (λ q. P.Has (P.held q) n) l.from b))) | inr b ↦ (held n).1 (inr b) ]),
              (λ a. elim ((held n).0 a) [
                | inl b ↦ shape.lock_kept l.edge m n l.operation not_from (subst (λ q. P.Has (P.held q) n) (sym l.from) ((old_held n).1 b))
                | inr b ↦ subst (λ k. P.Has (P.held (P.to l.edge)) k) (sym b) (lowered.lock_gets l.edge m l.operation not_from)
              ]),
            )

    -- every step over answers is a way of steps in the graphs
    pub simulate : (C C' : World P N) (w : GraphWorld P) → IsGraphReached P memory temps w → IsImage P N C w → Step P N C C' → (w' : GraphWorld P) × IsGraphReached P memory temps w' × IsImage P N C' w'
    simulate C C' w reached image (step_wakes s was runs others answers held same) = simulate_wake C C' w reached image s was runs others answers held same
    simulate C C' w reached image (step_spins s is runs top status answers held same) =
        (w, reached, record { content = λ c. image.content c ∙ sym (same c); sits = λ i. at_same C C' i (w.situation i) (answers i) (status i) (held i) (image.sits i) })
    simulate C C' w reached image (step_blocks s m is not_mine busy runs top blocks_now others answers held same) = simulate_block C C' w reached image s m is not_mine busy runs top blocks_now others answers held same
    simulate C C' w reached image (step_loads s c v is reads typed turn others held same) =
        let p : IsPrepared C s = prepare C w reached image s turn.runs in
        let x : (x : P.Temporary) × (t : P.Temporary) × (l : Leaves P N s p.node (load x t)) × IsAccess P l.edge p.values x c × ((u : P.Value) → N.typed (P.abstract_cell c) u → Arrives P N s (P.to l.edge) (P.put p.values t u) (N.told (C.answers s) u)) =
        lowered.at_load s (C.answers s) p.node p.values c p.stands is in
        let l : Leaves P N s p.node (load x.0 x.1) = x.2 in
        let z : Situation P = at P (P.to l.edge) (P.put p.values x.1 v) ready in
        quiet_turn C C' s (N.told (C.answers s) v) ready p turn others held awake_ready l.edge (P.put p.values x.1 v) (kept_by C C' s p.node (load x.0 x.1) l (shape.load_passes l.edge x.0 x.1 l.operation))
        (loads l.edge p.values x.0 x.1 c v l.operation (runs_there C s p (load x.0 x.1) l turn.top) x.3 (subst (λ k. Reads P (P.abstract_cell c) k v) (sym (p.image.content c)) reads) (moves_there C C' s p.world z l.edge l.actor) (same_memory C C' p.world p.image same s z)) (x.4 v typed)
    simulate C C' w reached image (step_loads_any s c v is may turn others held same) =
        let p : IsPrepared C s = prepare C w reached image s turn.runs in
        let x : (x : P.Temporary) × (l : Leaves P N s p.node (load_any x)) × IsAccess P l.edge p.values x c × ((u : P.Value) → N.may_choose s (C.answers s) u → (ρ' : P.Valuation) × P.does l.edge p.values ρ' × Arrives P N s (P.to l.edge) ρ' (N.told (C.answers s) u)) =
        lowered.at_load_any s (C.answers s) p.node p.values c p.stands is in
        let l : Leaves P N s p.node (load_any x.0) = x.1 in
        let y : (ρ' : P.Valuation) × P.does l.edge p.values ρ' × Arrives P N s (P.to l.edge) ρ' (N.told (C.answers s) v) = x.3 v may in
        let z : Situation P = at P (P.to l.edge) y.0 ready in
        quiet_turn C C' s (N.told (C.answers s) v) ready p turn others held awake_ready l.edge y.0 (kept_by C C' s p.node (load_any x.0) l (shape.load_any_passes l.edge x.0 l.operation))
        (loads_any l.edge p.values y.0 x.0 c l.operation (runs_there C s p (load_any x.0) l turn.top) x.2 y.1 (moves_there C C' s p.world z l.edge l.actor) (same_memory C C' p.world p.image same s z)) y.2
    simulate C C' w reached image (step_chooses s v is may turn others held same) =
        let p : IsPrepared C s = prepare C w reached image s turn.runs in
        let x : (l : Leaves P N s p.node calculation) × ((u : P.Value) → N.may_choose s (C.answers s) u → (ρ' : P.Valuation) × P.does l.edge p.values ρ' × Arrives P N s (P.to l.edge) ρ' (N.told (C.answers s) u)) = lowered.at_choose s (C.answers s) p.node p.values p.stands is in
        let l : Leaves P N s p.node calculation = x.0 in
        let y : (ρ' : P.Valuation) × P.does l.edge p.values ρ' × Arrives P N s (P.to l.edge) ρ' (N.told (C.answers s) v) = x.1 v may in
        let z : Situation P = at P (P.to l.edge) y.0 ready in
        quiet_turn C C' s (N.told (C.answers s) v) ready p turn others held awake_ready l.edge y.0 (kept_by C C' s p.node calculation l (shape.calc_passes l.edge l.operation))
        (calculate l.edge p.values y.0 ready l.operation (runs_there C s p calculation l turn.top).here awake_ready y.1 (moves_there C C' s p.world z l.edge l.actor) (same_memory C C' p.world p.image same s z)) y.2
    simulate C C' w reached image (step_stores s c v is turn others held written else) =
        let p : IsPrepared C s = prepare C w reached image s turn.runs in
        let x : (x : P.Temporary) × (t : P.Temporary) × (l : Leaves P N s p.node (store x t)) × IsAccess P l.edge p.values x c × (P.value_of p.values t ≡ v) × Arrives P N s (P.to l.edge) p.values (N.acked (C.answers s)) = lowered.at_store s (C.answers s) p.node p.values c v p.stands is in
        let l : Leaves P N s p.node (store x.0 x.1) = x.2 in
        let z : Situation P = at P (P.to l.edge) p.values ready in
        quiet_turn C C' s (N.acked (C.answers s)) ready p turn others held awake_ready l.edge p.values (kept_by C C' s p.node (store x.0 x.1) l (shape.store_passes l.edge x.0 x.1 l.operation))
        (stores l.edge p.values x.0 x.1 c l.operation (runs_there C s p (store x.0 x.1) l turn.top) x.3 (moves_there C C' s p.world z l.edge l.actor) (written ∙ ap given (sym x.4)) (λ d not. else d not ∙ sym (p.image.content d))) x.5
    simulate C C' w reached image (step_clears s o is turn others held here there) =
        let p : IsPrepared C s = prepare C w reached image s turn.runs in
        let x : (l : Leaves P N s p.node clear) × ((c : P.Cell) → (P.clears l.edge c → N.part o c) × (N.part o c → P.clears l.edge c)) × Arrives P N s (P.to l.edge) p.values (N.acked (C.answers s)) = lowered.at_clear s (C.answers s) p.node p.values o p.stands is in
        let l : Leaves P N s p.node clear = x.0 in
        let z : Situation P = at P (P.to l.edge) p.values ready in
        quiet_turn C C' s (N.acked (C.answers s)) ready p turn others held awake_ready l.edge p.values (kept_by C C' s p.node clear l (shape.clear_passes l.edge l.operation))
        (clearing l.edge p.values l.operation (runs_there C s p clear l turn.top) (moves_there C C' s p.world z l.edge l.actor) (λ c k. here c ((x.1 c).0 k)) (λ c not. there c (λ k. not ((x.1 c).1 k)) ∙ sym (p.image.content c))) x.2
    simulate C C' w reached image (step_locks s m is free turn others held same) = simulate_lock C C' s (prepare C w reached image s turn.runs) m is free turn others held same
    simulate C C' w reached image (step_unlocks s m is mine turn others held same) = simulate_unlock C C' s (prepare C w reached image s turn.runs) m is mine turn others held same
    simulate C C' w reached image (step_yields s is turn others held same) =
        let p : IsPrepared C s = prepare C w reached image s turn.runs in
        let x : (l : Leaves P N s p.node yields) × Arrives P N s (P.to l.edge) p.values (N.acked (C.answers s)) = lowered.at_yield s (C.answers s) p.node p.values p.stands is in
        let l : Leaves P N s p.node yields = x.0 in
        let z : Situation P = at P (P.to l.edge) p.values waiting in
        quiet_turn C C' s (N.acked (C.answers s)) waiting p turn others held awake_waiting l.edge p.values
        (same_trans (P.held (P.to l.edge)) (P.held (P.from l.edge)) (P.held p.node) (λ n. (shape.yield_held l.edge n l.operation, shape.yield_kept l.edge n l.operation)) (same_path (P.held (P.from l.edge)) (P.held p.node) (ap P.held l.from)))
        (waits l.edge p.values l.operation (runs_there C s p yields l turn.top) (moves_there C C' s p.world z l.edge l.actor) (same_memory C C' p.world p.image same s z)) x.1
    simulate C C' w reached image (step_finds_held s m is busy turn others held same) =
        let p : IsPrepared C s = prepare C w reached image s turn.runs in
        let x : (t : P.Temporary) × (l : Leaves P N s p.node (probe m t true)) × Arrives P N s (P.to l.edge) (P.put p.values t (P.bit true)) (N.told (C.answers s) (P.bit true)) = lowered.at_held s (C.answers s) p.node p.values m p.stands is in
        let l : Leaves P N s p.node (probe m x.0 true) = x.1 in
        let z : Situation P = at P (P.to l.edge) (P.put p.values x.0 (P.bit true)) ready in
        quiet_turn C C' s (N.told (C.answers s) (P.bit true)) ready p turn others held awake_ready l.edge (P.put p.values x.0 (P.bit true)) (kept_by C C' s p.node (probe m x.0 true) l (shape.held_passes l.edge m x.0 l.operation))
        (finds_held l.edge p.values m x.0 l.operation (runs_there C s p (probe m x.0 true) l turn.top) (busy_there C p.world p.image m busy) (moves_there C C' s p.world z l.edge l.actor) (same_memory C C' p.world p.image same s z)) x.2
    simulate C C' w reached image (step_finds_free s m is free turn others held same) =
        let p : IsPrepared C s = prepare C w reached image s turn.runs in
        let x : (t : P.Temporary) × (l : Leaves P N s p.node (probe m t false)) × ((P.Has (P.held p.node) m → ⊥) → Arrives P N s (P.to l.edge) (P.put p.values t (P.bit false)) (N.told (C.answers s) (P.bit false))) = lowered.at_free s (C.answers s) p.node p.values m p.stands is in
        let l : Leaves P N s p.node (probe m x.0 false) = x.1 in
        let z : Situation P = at P (P.to l.edge) (P.put p.values x.0 (P.bit false)) ready in
        let not_there : (P.Has (P.held p.node) m → ⊥) = λ a. free s (((held_there C p.world p.image s p.node p.values p.here) m).0 a) in
        let not_from : (P.Has (P.held (P.from l.edge)) m → ⊥) = λ a. not_there (subst (λ q. P.Has (P.held q) m) l.from a) in
        quiet_turn C C' s (N.told (C.answers s) (P.bit false)) ready p turn others held awake_ready l.edge (P.put p.values x.0 (P.bit false))
        (same_trans (P.held (P.to l.edge)) (P.held (P.from l.edge)) (P.held p.node) (λ n. (shape.free_held l.edge m x.0 n l.operation not_from, shape.free_kept l.edge m x.0 n l.operation not_from)) (same_path (P.held (P.from l.edge)) (P.held p.node) (ap P.held l.from)))
        (finds_free l.edge p.values m x.0 l.operation (runs_there C s p (probe m x.0 false) l turn.top) (free_there C p.world p.image m free) (moves_there C C' s p.world z l.edge l.actor) (same_memory C C' p.world p.image same s z)) (x.2 not_there)

    -- the start
    begin : (C : World P N) → IsStart P N memory C → (w' : GraphWorld P) × IsGraphReached P memory temps w' × IsImage P N C w'
    begin C begun = (
      w,
      start (record { content = λ c. refl; situation = λ i. refl }),
      record {
        content = λ c. sym (begun.content c);
        sits = λ i. record {
          arrives = subst (λ a. Arrives P N i (P.entry i) (temps i) a) (sym (begun.answers i)) (lowered.start i);
          status = at_start i (N.next i N.none) (begun.status i);
          held = λ n. ((λ a. absurd (shape.entry_held i n a)), (λ a. absurd (begun.held i n a)));
        };
      },
    )
      where
        w : GraphWorld P
        w = record { content = memory; situation = λ i. at P (P.entry i) (temps i) waiting }

        at_start : (i : P.Task) (act : Action P N.Object) → C.status i ≡ settled P N act waiting → (waiting ≡ C.status i) ⊎ ((let st : Status P.Mutex = waiting in st ≡ waiting) × (C.status i ≡ done))
        at_start i a_ended e = inr (refl, e)
        at_start i act e = inl (sym e)

    -- each reached world over answers has an image that is reached
    pub image_of : (C : World P N) → IsReached P N memory C → (w : GraphWorld P) × IsGraphReached P memory temps w × IsImage P N C w
    image_of C (starts begun) = begin C begun
    image_of C' (goes_on {C = C} reached step) =
        let old : (w : GraphWorld P) × IsGraphReached P memory temps w × IsImage P N C w = image_of C reached in
        simulate C C' old.0 old.1 old.2 step
