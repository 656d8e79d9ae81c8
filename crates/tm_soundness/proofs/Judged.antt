-- The invariant and the report for worlds over answers.
use Rattle.std.proofs.Common.{◌≡◌, ◌⊎◌, inl, inr, refl, sym, ap, subst, ◌∙◌, List, [], ◌∷◌}
use Rattle.tm_soundness.specs.Tables.{Tables}
use Rattle.tm_soundness.specs.Shape.{Shape, Operation, given, calculation, load, load_any, store, lock, unlock, Content}
use Rattle.tm_soundness.specs.GraphWorlds.{Status, waiting, ready, blocked, done, Situation, GraphWorld, IsAwake, awake_waiting, awake_ready, IsAccess, IsSameMemory, Moves, IsGraphReached}
use Rattle.tm_soundness.specs.Shaped.{IsShaped}
use Rattle.tm_soundness.specs.Covers.{IsSolution, IsEntered}
use Rattle.tm_soundness.specs.Invariant.{IsViewed, IsEntry, Writers, IsStopped, stopped_blocked, stopped_done, IsInvariant}
use Rattle.tm_soundness.specs.Reports.{fails_calc, relocks, unlocks_foreign, EdgeAccesses, by_load, by_load_any, by_store, IsStore, IsRaceListed}
use Rattle.tm_soundness.specs.Worlds.{Action, a_load, a_load_any, a_store, a_lock, a_unlock, a_fault, a_spins, Source, World, SameHeld, IsReached, Silent, still, along, Arrives, Leaves, IsLowered, IsAt, IsImage, IsFault, next_fails, next_relocks, next_unlocks_foreign, NextAccesses, next_loads, next_loads_any, next_stores, NextStores, IsIn}
use Rattle.tm_soundness.proofs.Soundness.{reached_holds, fault_listed, race_listed}
use Rattle.tm_soundness.proofs.Simulation.{run_silent, silent_held, same_trans, image_of}

module _ (P : Shape) (T : Tables P) (N : Source P) (shape : IsShaped P) (sol : IsSolution P T) (memory : P.Cell → Content P.Value) (temps : P.Task → P.Valuation) (entered : IsEntered P T memory temps) (lowered : IsLowered P N temps) where
  -- each task stands where its next action leaves
  abbrev Stands : World P N → GraphWorld P → P.Task → Type 0
  Stands C w i = N.stands i (C.answers i) (w.situation i).node (w.situation i).temps

  awake_or : (st : Status P.Mutex) → IsAwake P st ⊎ IsStopped P st
  awake_or waiting = inl awake_waiting
  awake_or ready = inl awake_ready
  awake_or (blocked m) = inr stopped_blocked
  awake_or done = inr stopped_done

  -- nothing silent leaves a node that rests
  no_way : (i : P.Task) (q : P.Node) (ρ : P.Valuation) (q' : P.Node) (ρ' : P.Valuation) → Silent P N i q ρ q' ρ' → P.resting q → (q ≡ q') × (ρ ≡ ρ')
  no_way i q ρ q' ρ' still rest = (refl, refl)
  no_way i q ρ q' ρ' (along e actor is does more) rest =
      let l : P.operation e ≡ lock (shape.rests_lock e rest).0 = (shape.rests_lock e rest).1 in
      absurd (not_both (P.operation e) (shape.rests_lock e rest).0 l is)
    where
      not_both : (o : Operation P.Temporary P.Mutex) (m : P.Mutex) → o ≡ lock m → o ≡ calculation → ⊥
      not_both o m a b = cc

  -- one task takes its silent edges
  settle : (C : World P N) (w : GraphWorld P) → IsGraphReached P memory temps w → IsImage P N C w → (i : P.Task) → (w' : GraphWorld P) × IsGraphReached P memory temps w' × IsImage P N C w' × Stands C w' i × ((k : P.Task) → (k ≡ i → ⊥) → w'.situation k ≡ w.situation k)
  settle C w reached image i = by_status (awake_or (w.situation i).status)
    where
      z : Situation P
      z = w.situation i

      old : IsAt P N C i z
      old = image.sits i

      by_status : IsAwake P z.status ⊎ IsStopped P z.status → (w' : GraphWorld P) × IsGraphReached P memory temps w' × IsImage P N C w' × Stands C w' i × ((k : P.Task) → (k ≡ i → ⊥) → w'.situation k ≡ w.situation k)
      by_status (inr stopped) =
          let rests : P.resting z.node = ((reached_holds P T shape sol memory temps entered w reached).1.good i).stopped stopped in
          let same : (z.node ≡ old.arrives.node) × (z.temps ≡ old.arrives.temps) = no_way i z.node z.temps old.arrives.node old.arrives.temps old.arrives.way rests in
          (w, reached, image, subst (λ q. N.stands i (C.answers i) q z.temps) (sym same.0) (subst (λ ρ. N.stands i (C.answers i) old.arrives.node ρ) (sym same.1) old.arrives.stands), λ k not. refl)
      by_status (inl awake) =
          (ran.0, ran.1, record { content = λ c. ran.2 c ∙ image.content c; sits = λ k. sits k (P.same_task k i) }, subst (λ (y : Situation P). N.stands i (C.answers i) y.node y.temps) (sym ran.3.mine) old.arrives.stands, ran.3.others)
        where
          ran : (w' : GraphWorld P) × IsGraphReached P memory temps w' × IsSameMemory P w w' × Moves P w w' i (record { node = old.arrives.node; temps = old.arrives.temps; status = z.status })
          ran = run_silent P N shape memory temps lowered i w reached z.node z.temps old.arrives.node old.arrives.temps z.status refl awake old.arrives.way

          mine : IsAt P N C i (record { node = old.arrives.node; temps = old.arrives.temps; status = z.status })
          mine = record {
            arrives = record { node = old.arrives.node; temps = old.arrives.temps; way = still; stands = old.arrives.stands };
            status = old.status;
            held = same_trans P N (P.held old.arrives.node) (P.held z.node) (C.held i) (silent_held P N shape memory temps lowered i z.node z.temps old.arrives.node old.arrives.temps old.arrives.way) old.held;
          }

          sits : (k : P.Task) → Dec (k ≡ i) → IsAt P N C k (ran.0.situation k)
          sits k (yes e) = subst (λ j. IsAt P N C j (ran.0.situation j)) (sym e) (subst (λ y. IsAt P N C i y) (sym ran.3.mine) mine)
          sits k (no not) = subst (λ y. IsAt P N C k y) (sym (ran.3.others k not)) (image.sits k)

  -- one task after another takes its silent edges
  settle_all : (C : World P N) (l : List P.Task) (w : GraphWorld P) → IsGraphReached P memory temps w → IsImage P N C w
      → (w' : GraphWorld P) × IsGraphReached P memory temps w' × IsImage P N C w' × ((i : P.Task) → Stands C w i ⊎ IsIn P N i l → Stands C w' i)
  settle_all C [] w reached image = (w, reached, image, λ i h. elim h [ inl s ↦ s | inr n ↦ absurd n ])
  settle_all C (k ∷ l) w reached image =
      let one : (w' : GraphWorld P) × IsGraphReached P memory temps w' × IsImage P N C w' × Stands C w' k × ((j : P.Task) → (j ≡ k → ⊥) → w'.situation j ≡ w.situation j) = settle C w reached image k in
      let rest : (w' : GraphWorld P) × IsGraphReached P memory temps w' × IsImage P N C w' × ((i : P.Task) → Stands C one.0 i ⊎ IsIn P N i l → Stands C w' i) = settle_all C l one.0 one.1 one.2 in
      (rest.0, rest.1, rest.2, λ i h. rest.3 i (earlier i one.0 one.3 one.4 h (P.same_task i k)))
    where
      earlier : (i : P.Task) (v : GraphWorld P) → Stands C v k → ((j : P.Task) → (j ≡ k → ⊥) → v.situation j ≡ w.situation j) → Stands C w i ⊎ ((i ≡ k) ⊎ IsIn P N i l) → Dec (i ≡ k) → Stands C v i ⊎ IsIn P N i l
      earlier i v here others h (yes e) = inl (subst (λ j. Stands C v j) (sym e) here)
      earlier i v here others (inl s) (no not) = inl (subst (λ (y : Situation P). N.stands i (C.answers i) y.node y.temps) (sym (others i not)) s)
      earlier i v here others (inr (inl e)) (no not) = absurd (not e)
      earlier i v here others (inr (inr later)) (no not) = inr later

  -- for each world over answers that is reached some world of the graphs stands for it, each task at the node where its next action leaves, and the invariant holds there
  pub record IsJudged (C : World P N) : Type 0 where
    pub world : GraphWorld P
    pub reached : IsGraphReached P memory temps world
    pub image : IsImage P N C world
    pub stands : (i : P.Task) → Stands C world i
    pub writers : Writers P
    pub invariant : IsInvariant P T world writers

  pub judged : (all : List P.Task) → ((i : P.Task) → IsIn P N i all) → (C : World P N) → IsReached P N memory C → IsJudged C
  judged all each C reached =
      let first : (w : GraphWorld P) × IsGraphReached P memory temps w × IsImage P N C w = image_of P N shape memory temps lowered C reached in
      let whole : (w' : GraphWorld P) × IsGraphReached P memory temps w' × IsImage P N C w' × ((i : P.Task) → Stands C first.0 i ⊎ IsIn P N i all → Stands C w' i) = settle_all C all first.0 first.1 first.2 in
      let inv : (last : Writers P) × IsInvariant P T whole.0 last = reached_holds P T shape sol memory temps entered whole.0 whole.1 in
      record { world = whole.0; reached = whole.1; image = whole.2; stands = λ i. whole.3 i (inr (each i)); writers = inv.0; invariant = inv.1 }

  here_at : (w : GraphWorld P) (i : P.Task) (o : Operation P.Temporary P.Mutex) (l : Leaves P N i (w.situation i).node o) → w.situation (P.actor l.edge) ≡ record { node = P.from l.edge; temps = (w.situation i).temps; status = (w.situation i).status }
  here_at w i o l = ap w.situation l.actor ∙ (λ k. record { node = sym l.from k; temps = (w.situation i).temps; status = (w.situation i).status })

  held_at : (C : World P N) (w : GraphWorld P) (i : P.Task) (o : Operation P.Temporary P.Mutex) (l : Leaves P N i (w.situation i).node o) → IsImage P N C w → SameHeld P N (P.held (P.from l.edge)) (C.held i)
  held_at C w i o l image = subst (λ q. SameHeld P N (P.held q) (C.held i)) (sym l.from) (image.sits i).held

  fault_spins : (a : Action P N.Object) (k : P.Class) → a ≡ a_fault k → a ≡ a_spins → ⊥
  fault_spins a k e f = cc

  pub lock_spins : (a : Action P N.Object) (m : P.Mutex) → a ≡ a_lock m → a ≡ a_spins → ⊥
  lock_spins a m e f = cc

  unlock_spins : (a : Action P N.Object) (m : P.Mutex) → a ≡ a_unlock m → a ≡ a_spins → ⊥
  unlock_spins a m e f = cc

  load_spins : (a : Action P N.Object) (c : P.Cell) → a ≡ a_load c → a ≡ a_spins → ⊥
  load_spins a c e f = cc

  load_any_spins : (a : Action P N.Object) (c : P.Cell) → a ≡ a_load_any c → a ≡ a_spins → ⊥
  load_any_spins a c e f = cc

  store_spins : (a : Action P N.Object) (c : P.Cell) (v : P.Value) → a ≡ a_store c v → a ≡ a_spins → ⊥
  store_spins a c v e f = cc

  placed_at : (C : World P N) (j : IsJudged C) (i : P.Task) (o : Operation P.Temporary P.Mutex) (l : Leaves P N i (j.world.situation i).node o) → (N.next i (C.answers i) ≡ a_spins → ⊥) → P.place l.edge ≡ N.place i (C.answers i)
  placed_at C j i o l acts = lowered.placed i (C.answers i) (j.world.situation i).node (j.world.situation i).temps o (j.stands i) acts l

  -- an edge of that task lists the class
  pub next_fault_listed : (C : World P N) → IsJudged C → (i : P.Task) (k : P.Class) → IsFault P N C i k → (e : P.Edge) × (P.actor e ≡ i) × (P.place e ≡ N.place i (C.answers i)) × T.listed e k
  next_fault_listed C j i k (next_fails k' is) =
      let x : (l : Leaves P N i (j.world.situation i).node calculation) × P.fails l.edge (j.world.situation i).temps k' = lowered.at_fault i (C.answers i) (j.world.situation i).node (j.world.situation i).temps k' (j.stands i) is in
      (x.0.edge, x.0.actor, placed_at C j i calculation x.0 (λ e. fault_spins (N.next i (C.answers i)) k' is e), fault_listed P T sol j.world j.writers j.invariant x.0.edge k' (fails_calc x.0.edge k' (j.world.situation i).temps (j.world.situation i).status x.0.operation (here_at j.world i calculation x.0) x.1))
  next_fault_listed C j i k (next_relocks m is mine) =
      let l : Leaves P N i (j.world.situation i).node (lock m) = (lowered.at_lock i (C.answers i) (j.world.situation i).node (j.world.situation i).temps m (j.stands i) is).0 in
      (l.edge, l.actor, placed_at C j i (lock m) l (λ e. lock_spins (N.next i (C.answers i)) m is e), fault_listed P T sol j.world j.writers j.invariant l.edge P.lock_class (relocks l.edge m (j.world.situation i).temps (j.world.situation i).status l.operation (here_at j.world i (lock m) l) (((held_at C j.world i (lock m) l j.image) m).1 mine)))
  next_fault_listed C j i k (next_unlocks_foreign m is not) =
      let l : Leaves P N i (j.world.situation i).node (unlock m) = (lowered.at_unlock i (C.answers i) (j.world.situation i).node (j.world.situation i).temps m (j.stands i) is).0 in
      (l.edge, l.actor, placed_at C j i (unlock m) l (λ e. unlock_spins (N.next i (C.answers i)) m is e), fault_listed P T sol j.world j.writers j.invariant l.edge P.lock_class (unlocks_foreign l.edge m (j.world.situation i).temps (j.world.situation i).status l.operation (here_at j.world i (unlock m) l) (λ h. not (((held_at C j.world i (unlock m) l j.image) m).0 h))))

  record AccessEdge (C : World P N) (w : GraphWorld P) (i : P.Task) (c : P.Cell) : Type 0 where
    edge : P.Edge
    actor : P.actor edge ≡ i
    place : P.place edge ≡ N.place i (C.answers i)
    here : w.situation (P.actor edge) ≡ record { node = P.from edge; temps = (w.situation i).temps; status = (w.situation i).status }
    accesses : EdgeAccesses P edge (w.situation i).temps c
    stores : NextStores P N C i c → IsStore P edge

  not_store : (C : World P N) (i : P.Task) (a : Action P N.Object) (c d : P.Cell) (v : P.Value) → a ≡ a_load c → a ≡ a_store d v → ⊥
  not_store C i a c d v e f = cc

  not_store_any : (C : World P N) (i : P.Task) (a : Action P N.Object) (c d : P.Cell) (v : P.Value) → a ≡ a_load_any c → a ≡ a_store d v → ⊥
  not_store_any C i a c d v e f = cc

  access_edge : (C : World P N) (j : IsJudged C) (i : P.Task) (c : P.Cell) → NextAccesses P N C i c → AccessEdge C j.world i c
  access_edge C j i c (next_loads is) =
      let x : (a : P.Temporary) × (t : P.Temporary) × (l : Leaves P N i (j.world.situation i).node (load a t)) × IsAccess P l.edge (j.world.situation i).temps a c × ((v : P.Value) → N.typed (P.abstract_cell c) v → Arrives P N i (P.to l.edge) (P.put (j.world.situation i).temps t v) (N.told (C.answers i) v)) =
      lowered.at_load i (C.answers i) (j.world.situation i).node (j.world.situation i).temps c (j.stands i) is in
      record { edge = x.2.edge; actor = x.2.actor; place = placed_at C j i (load x.0 x.1) x.2 (λ e. load_spins (N.next i (C.answers i)) c is e); here = here_at j.world i (load x.0 x.1) x.2; accesses = by_load x.0 x.1 x.2.operation x.3; stores = λ s. absurd (not_store C i (N.next i (C.answers i)) c c s.0 is s.1) }
  access_edge C j i c (next_loads_any is) =
      let x : (a : P.Temporary) × (l : Leaves P N i (j.world.situation i).node (load_any a)) × IsAccess P l.edge (j.world.situation i).temps a c × ((v : P.Value) → N.may_choose i (C.answers i) v → (ρ' : P.Valuation) × P.does l.edge (j.world.situation i).temps ρ' × Arrives P N i (P.to l.edge) ρ' (N.told (C.answers i) v)) =
      lowered.at_load_any i (C.answers i) (j.world.situation i).node (j.world.situation i).temps c (j.stands i) is in
      record { edge = x.1.edge; actor = x.1.actor; place = placed_at C j i (load_any x.0) x.1 (λ e. load_any_spins (N.next i (C.answers i)) c is e); here = here_at j.world i (load_any x.0) x.1; accesses = by_load_any x.0 x.1.operation x.2; stores = λ s. absurd (not_store_any C i (N.next i (C.answers i)) c c s.0 is s.1) }
  access_edge C j i c (next_stores v is) =
      let x : (a : P.Temporary) × (t : P.Temporary) × (l : Leaves P N i (j.world.situation i).node (store a t)) × IsAccess P l.edge (j.world.situation i).temps a c × (P.value_of (j.world.situation i).temps t ≡ v) × Arrives P N i (P.to l.edge) (j.world.situation i).temps (N.acked (C.answers i)) =
      lowered.at_store i (C.answers i) (j.world.situation i).node (j.world.situation i).temps c v (j.stands i) is in
      record { edge = x.2.edge; actor = x.2.actor; place = placed_at C j i (store x.0 x.1) x.2 (λ e. store_spins (N.next i (C.answers i)) c v is e); here = here_at j.world i (store x.0 x.1) x.2; accesses = by_store x.0 x.1 x.2.operation x.3; stores = λ _. (x.0, x.1, x.2.operation) }

  -- the edges of both tasks are listed as a race
  pub next_race_listed : (C : World P N) → IsJudged C → (i k : P.Task) → (i ≡ k → ⊥) → (c : P.Cell) → NextAccesses P N C i c → NextAccesses P N C k c → NextStores P N C i c ⊎ NextStores P N C k c
      → (e : P.Edge) × (f : P.Edge) × (P.actor e ≡ i) × (P.actor f ≡ k) × (P.place e ≡ N.place i (C.answers i)) × (P.place f ≡ N.place k (C.answers k)) × IsRaceListed P T e f
  next_race_listed C j i k differ c one two some =
      let a : AccessEdge C j.world i c = access_edge C j i c one in
      let b : AccessEdge C j.world k c = access_edge C j k c two in (
        a.edge,
        b.edge,
        a.actor,
        b.actor,
        a.place,
        b.place,
        race_listed P T shape sol j.world j.writers j.invariant a.edge b.edge (record {
          differ = λ e. differ (sym a.actor ∙ e ∙ b.actor);
          one = (j.world.situation i).temps;
          one_status = (j.world.situation i).status;
          one_here = a.here;
          two = (j.world.situation k).temps;
          two_status = (j.world.situation k).status;
          two_here = b.here;
          cell = c;
          one_accesses = a.accesses;
          two_accesses = b.accesses;
          some_store = elim some [ inl s ↦ inl (a.stores s) | inr s ↦ inr (b.stores s) ];
        }),
      )

  -- what a shared cell holds is an own value where any task stands, or stands in a weak entry of another one
  pub content_within : (C : World P N) (j : IsJudged C) (i : P.Task) (c : P.Cell) → P.shared (P.abstract_cell c)
      → (v : P.Value) × (C.content c ≡ given v) × (T.own (j.world.situation i).node (P.abstract_cell c) v ⊎ ((k : P.Task) × (l : P.Held) × (k ≡ i → ⊥) × T.weak k l (P.abstract_cell c) v))
  content_within C j i c shared = within ((j.invariant.good i).views c shared)
    where
      here : C.content c ≡ j.world.content c
      here = sym (j.image.content c)

      within : IsViewed P T i (j.world.situation i).node (j.world.situation i).temps (P.abstract_cell c) (j.world.content c) (j.writers c) → (v : P.Value) × (C.content c ≡ given v) × (T.own (j.world.situation i).node (P.abstract_cell c) v ⊎ ((k : P.Task) × (l : P.Held) × (k ≡ i → ⊥) × T.weak k l (P.abstract_cell c) v))
      within (inl f) =
          let entry : IsEntry P T f.write (P.abstract_cell c) (j.world.content c) = j.invariant.entries c shared f.write f.is in
          (entry.value, here ∙ entry.is, inr (f.write.by, f.write.under, f.other, entry.entered))
      within (inr k) = (k.value, here ∙ k.is, inl k.own)
