-- The edge for the next action of a task, in a world of which is known what the soundness theorem tells.
use Rattle.std.proofs.Common.{◌≡◌, ◌<◌, ◌⊎◌, inl, inr, sym, subst, ◌∙◌}
use Rattle.sound_tables.specs.tm_soundness.Shape.{Shape, Operation, Content, calculation, load, load_any, store, lock}
use Rattle.sound_tables.specs.tm_soundness.Shape.{IsApart}
use Rattle.sound_tables.specs.tm_soundness.Tables.{Tables}
use Rattle.sound_tables.specs.tm_soundness.GraphWorlds.{Situation, IsAccess}
use Rattle.sound_tables.specs.tm_soundness.Shaped.{IsShaped}
use Rattle.sound_tables.specs.tm_soundness.Covers.{IsSolution}
use Rattle.sound_tables.specs.tm_soundness.Reports.{EdgeAccesses, by_load, by_load_any, by_store, IsStore, IsRaceListed}
use Rattle.sound_tables.specs.tm_soundness.Worlds.{Action, a_load, a_load_any, a_store, a_fault, a_spins, Source, World}
use Rattle.sound_tables.specs.tm_soundness.Worlds.{SameHeld, Leaves, IsLowered}
use Rattle.sound_tables.specs.tm_soundness.Worlds.{NextAccesses, next_loads, next_loads_any, next_stores, NextStores}
use Rattle.sound_tables.specs.tm_soundness.Known.{IsKnown}

module _ (P : Shape) (T : Tables P) (N : Source P) (memory : P.Cell → Content P.Value)
    (temps : P.Task → P.Valuation) (C : World P N) (k : IsKnown P T N memory temps C) where
  abbrev pub here : P.Task → Situation P
  here i = (let a = k.kept in let w = a.world in w.situation i)

  -- an edge that leaves the node where the task stands, at the place of its next action, under what it holds
  pub record IsNextEdge (i : P.Task) (e : P.Edge) : Type 0 where
    pub actor : P.actor e ≡ i
    pub from : P.from e ≡ (let z = here i in z.node)
    pub place : P.place e ≡ N.place i (C.answers i)
    pub inside : T.inside (P.from e) (let z = here i in z.temps)
    pub held : SameHeld P N (P.held (P.from e)) (C.held i)

  -- it makes the access that the task is about to make, and this is listed
  pub record IsAccessEdge (i : P.Task) (c : P.Cell) (e : P.Edge) : Type 0 where
    pub next : IsNextEdge i e
    pub accesses : EdgeAccesses P e (let z = here i in z.temps) c
    pub target : T.target e (P.abstract_cell c)
    pub stores : NextStores P N C i c → IsStore P e
    pub writes : IsStore P e → NextStores P N C i c

  -- it is the calculation that fails
  pub record IsFailureEdge (i : P.Task) (class : P.Class) (e : P.Edge) : Type 0 where
    pub next : IsNextEdge i e
    pub operation : P.operation e ≡ calculation
    pub fails : P.fails e (let z = here i in z.temps) class
    pub listed : T.listed e class

  -- two such accesses of one cell are listed as a race
  pub record AreRaceEdges (i j : P.Task) (c : P.Cell) (e f : P.Edge) : Type 0 where
    pub one : IsAccessEdge i c e
    pub other : IsAccessEdge j c f
    pub races : IsRaceListed P T e f

module _ (P : Shape) (T : Tables P) (N : Source P) (memory : P.Cell → Content P.Value)
    (temps : P.Task → P.Valuation) (C : World P N) (k : IsKnown P T N memory temps C) (shape : IsShaped P)
    (sol : IsSolution P T) (lowered : IsLowered P N temps) where
  abbrev z : P.Task → Situation P
  z i = here P T N memory temps C k i

  abbrev Next : P.Task → P.Edge → Type 0
  Next i e = IsNextEdge P T N memory temps C k i e

  pub next_edge : (i : P.Task) (o : Operation P.Temporary P.Mutex) (l : Leaves P N i (z i).node o)
      → (N.next i (C.answers i) ≡ a_spins → ⊥) → Next i l.edge
  next_edge i o l acts = record {
    actor = l.actor;
    from = l.from;
    place = lowered.placed i (C.answers i) (z i).node (z i).temps o (k.stands i) acts l;
    inside = subst (λ q. T.inside q (z i).temps) (sym l.from) (k.kept.parts.inside i);
    held = subst (λ q. SameHeld P N (P.held q) (C.held i)) (sym l.from) (k.kept.image.sits i).held;
  }

  fault_acts : (a : Action P N.Object) (c : P.Class) → a ≡ a_fault c → a ≡ a_spins → ⊥
  fault_acts a c e f = cc

  load_acts : (a : Action P N.Object) (c : P.Cell) → a ≡ a_load c → a ≡ a_spins → ⊥
  load_acts a c e f = cc

  load_any_acts : (a : Action P N.Object) (c : P.Cell) → a ≡ a_load_any c → a ≡ a_spins → ⊥
  load_any_acts a c e f = cc

  store_acts : (a : Action P N.Object) (c : P.Cell) (v : P.Value) → a ≡ a_store c v → a ≡ a_spins → ⊥
  store_acts a c v e f = cc

  load_no_store : (a : Action P N.Object) (c d : P.Cell) (v : P.Value) → a ≡ a_load c → a ≡ a_store d v → ⊥
  load_no_store a c d v e f = cc

  any_no_store : (a : Action P N.Object) (c d : P.Cell) (v : P.Value) → a ≡ a_load_any c → a ≡ a_store d v → ⊥
  any_no_store a c d v e f = cc

  kind_load : (o : Operation P.Temporary P.Mutex) (a t b v : P.Temporary) → o ≡ load a t → o ≡ store b v → ⊥
  kind_load o a t b v e f = cc

  kind_any : (o : Operation P.Temporary P.Mutex) (a b v : P.Temporary) → o ≡ load_any a → o ≡ store b v → ⊥
  kind_any o a b v e f = cc

  -- ## Failures

  pub next_failure : (i : P.Task) (class : P.Class) → N.next i (C.answers i) ≡ a_fault class
      → (e : P.Edge) × IsFailureEdge P T N memory temps C k i class e
  next_failure i class is =
      let x = lowered.at_fault i (C.answers i) (z i).node (z i).temps class (k.stands i) is in
      let l : Leaves P N i (z i).node calculation = x.0 in
      let n : Next i l.edge = next_edge i calculation l (λ e. fault_acts (N.next i (C.answers i)) class is e) in (
        l.edge,
        record {
          next = n;
          operation = l.operation;
          fails = x.1;
          listed = sol.listed_calc l.edge (z i).temps class l.operation n.inside x.1;
        },
      )

  -- ## Accesses

  pub next_access : (i : P.Task) (c : P.Cell) → NextAccesses P N C i c
      → (e : P.Edge) × IsAccessEdge P T N memory temps C k i c e
  next_access i c (next_loads is) =
      let x = lowered.at_load i (C.answers i) (z i).node (z i).temps c (k.stands i) is in
      let l : Leaves P N i (z i).node (load x.0 x.1) = x.2 in
      let n : Next i l.edge = next_edge i (load x.0 x.1) l (λ e. load_acts (N.next i (C.answers i)) c is e) in
      let a : IsAccess P l.edge (z i).temps x.0 c = x.3 in (
        l.edge,
        record {
          next = n;
          accesses = by_load x.0 x.1 l.operation a;
          target = sol.load_target l.edge (z i).temps x.0 x.1 c l.operation n.inside a;
          stores = λ s. absurd (load_no_store (N.next i (C.answers i)) c c s.0 is s.1);
          writes = λ s. absurd (kind_load (P.operation l.edge) x.0 x.1 s.0 s.1 l.operation s.2);
        },
      )
  next_access i c (next_loads_any is) =
      let x = lowered.at_load_any i (C.answers i) (z i).node (z i).temps c (k.stands i) is in
      let l : Leaves P N i (z i).node (load_any x.0) = x.1 in
      let n : Next i l.edge = next_edge i (load_any x.0) l (λ e. load_any_acts (N.next i (C.answers i)) c is e) in
      let a : IsAccess P l.edge (z i).temps x.0 c = x.2 in (
        l.edge,
        record {
          next = n;
          accesses = by_load_any x.0 l.operation a;
          target = sol.load_any_target l.edge (z i).temps x.0 c l.operation n.inside a;
          stores = λ s. absurd (any_no_store (N.next i (C.answers i)) c c s.0 is s.1);
          writes = λ s. absurd (kind_any (P.operation l.edge) x.0 s.0 s.1 l.operation s.2);
        },
      )
  next_access i c (next_stores v is) =
      let x = lowered.at_store i (C.answers i) (z i).node (z i).temps c v (k.stands i) is in
      let l : Leaves P N i (z i).node (store x.0 x.1) = x.2 in
      let n : Next i l.edge = next_edge i (store x.0 x.1) l (λ e. store_acts (N.next i (C.answers i)) c v is e) in
      let a : IsAccess P l.edge (z i).temps x.0 c = x.3 in (
        l.edge,
        record {
          next = n;
          accesses = by_store x.0 x.1 l.operation a;
          target = sol.store_target l.edge (z i).temps x.0 x.1 c l.operation n.inside a;
          stores = λ s. (x.0, x.1, l.operation);
          writes = λ s. (v, is);
        },
      )

  -- ## Races

  active : (e : P.Edge) (f : P.Valuation) (c : P.Cell) → EdgeAccesses P e f c → P.resting (P.from e) → ⊥
  active e f c (by_load a t is access) r =
      let l : P.operation e ≡ lock (shape.rests_lock e r).0 = (shape.rests_lock e r).1 in cc
  active e f c (by_load_any a is access) r =
      let l : P.operation e ≡ lock (shape.rests_lock e r).0 = (shape.rests_lock e r).1 in cc
  active e f c (by_store a v is access) r =
      let l : P.operation e ≡ lock (shape.rests_lock e r).0 = (shape.rests_lock e r).1 in cc

  -- what the one holds the more urgent other has not found free
  unhindered : (i j : P.Task) (c : P.Cell) (e f : P.Edge) → IsAccessEdge P T N memory temps C k i c e
      → IsAccessEdge P T N memory temps C k j c f → P.rank (P.actor e) < P.rank (P.actor f)
      → IsApart P (P.held (P.from e)) (P.found (P.from f))
  unhindered i j c e f a b less =
      let rests : P.resting (z j).node → ⊥ =
      (λ r. active f (z j).temps c b.accesses (subst P.resting (sym b.next.from) r)) in
      let lower : P.rank i < P.rank j =
      subst (λ s. P.rank s < P.rank j) a.next.actor (subst (λ s. P.rank (P.actor e) < P.rank s) b.next.actor less) in
      subst (λ q. IsApart P (P.held q) (P.found (P.from f))) (sym a.next.from)
      (subst (λ q. IsApart P (P.held (z i).node) (P.found q)) (sym b.next.from)
      (k.kept.parts.found_unheld j i rests lower))

  pub next_race : (i j : P.Task) → (i ≡ j → ⊥) → (c : P.Cell) → NextAccesses P N C i c → NextAccesses P N C j c
      → NextStores P N C i c ⊎ NextStores P N C j c
      → (e : P.Edge) × (f : P.Edge) × AreRaceEdges P T N memory temps C k i j c e f
  next_race i j differ c one two some =
      let x = next_access i c one in
      let y = next_access j c two in
      let e : P.Edge = x.0 in
      let f : P.Edge = y.0 in
      let a : IsAccessEdge P T N memory temps C k i c e = x.1 in
      let b : IsAccessEdge P T N memory temps C k j c f = y.1 in (
        e,
        f,
        record {
          one = a;
          other = b;
          races = record {
            differ = λ s. differ (sym a.next.actor ∙ s ∙ b.next.actor);
            one_reached = ((z i).temps, a.next.inside);
            two_reached = ((z j).temps, b.next.inside);
            common = (P.abstract_cell c, a.target, b.target);
            apart = subst (λ q. IsApart P (P.held q) (P.held (P.from f))) (sym a.next.from)
                (subst (λ q. IsApart P (P.held (z i).node) (P.held q)) (sym b.next.from)
                (k.kept.parts.held_apart i j differ));
            some_store = elim some [ inl s ↦ inl (a.stores s) | inr s ↦ inr (b.stores s) ];
            one_lower = unhindered i j c e f a b;
            two_lower = unhindered j i c f e b a;
          };
        },
      )
