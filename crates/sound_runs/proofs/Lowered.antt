-- The graphs of a program run along the next actions of its tasks.
use Rattle.std.proofs.Common.{◌≡◌, ◌⊎◌, refl, sym, ap, subst, ◌∙◌, ℕ, ◌<◌, ◌-◌, ◌^◌, Bool, true, false}
use Rattle.std.proofs.Common.{List, [], ◌∷◌}
use Rattle.std.proofs.Common.{◌++◌, Some, arith, eqb}
use Rattle.std.specs.Prelude.{cond, Contains, bit_and}
use Rattle.std.specs.Int.{bit_at, w16}
use Rattle.std.proofs.lemmas.Nat.{pow_below}
use Rattle.std.proofs.lemmas.Nat.Bits.{bit_at_and, bit_at_not, bit_at-pow_same}
use Rattle.layout_laws.specs.tm_cint.declared.Class.{Class}
use Rattle.layout_laws.specs.tm_terms.declared.places.Place.{Place}
use Rattle.layout_laws.specs.tm_typed.declared.types.Scalar.{Scalar}
use Rattle.layout_laws.specs.tm_laid.Layouts.{cell_of}
use Rattle.program_shape.specs.concrete_values.declared.values.Pointer.TheVariants as Pointers
use Rattle.program_shape.specs.concrete_values.declared.values.Value.{Value}
use Rattle.program_shape.specs.concrete_values.declared.values.Value.TheVariants.{Pointer as APointer}
use Rattle.program_shape.specs.concrete_values.declared.values.Answer.{Answer}
use Rattle.program_shape.specs.concrete_values.declared.values.Answer.TheVariants.{Given, Done}
use Rattle.program_shape.specs.concrete_values.declared.actions.Next.{Next}
use Rattle.program_shape.specs.concrete_values.declared.actions.Next.TheVariants as Acts
use Rattle.program_shape.specs.concrete_values.Values.{truth_value, nothing}
use Rattle.program_shape.specs.concrete_values.Actions.{is_of, answer_of}
use Rattle.program_shape.specs.concrete_steps.NextAction.{After}
use Rattle.program_shape.specs.flow_graph.declared.operations.Operation.{Operation}
use Rattle.program_shape.specs.flow_graph.declared.operations.Operation.TheVariants as Op
use Rattle.program_shape.specs.flow_graph.declared.graphs.Edge.{Edge}
use Rattle.program_shape.specs.flow_graph.Graphs.{Edges, Leaves, Among}
use Rattle.program_shape.specs.flow_graph.Operations.{Temps, put_at}
use Rattle.program_shape.specs.flow_graph.Runs.{Memory, at_entry}
use Rattle.program_shape.specs.flow_graph.Positions.{Drifts, stays, drifts, Asking, GoesOn, Stops, StandsAt}
use Rattle.program_shape.specs.mutex_configs.Sets.{answers_of, is_probe, has, without_mutex, held_after, IsOfSixteen}
use Rattle.next_action_laws.specs.Actions.{Fit, IsProper, IsCell}
use Rattle.program_shape.specs.tm_soundness.Shape.{Shape, Operation as Acting, calculation, load, load_any, store}
use Rattle.program_shape.specs.tm_soundness.Shape.{clear, lock}
use Rattle.program_shape.specs.tm_soundness.Shape.{unlock}
use Rattle.program_shape.specs.tm_soundness.Shape.{yields, probe}
use Rattle.program_shape.specs.tm_soundness.GraphWorlds.{IsAccess}
use Rattle.program_shape.specs.tm_soundness.Worlds.{a_load, a_load_any, a_store, a_choose, a_clear, a_lock, a_unlock}
use Rattle.program_shape.specs.tm_soundness.Worlds.{a_yield}
use Rattle.program_shape.specs.tm_soundness.Worlds.{a_probe, a_fault, a_ended, a_spins, Source, Silent as Way, still}
use Rattle.program_shape.specs.tm_soundness.Worlds.{along, Arrives}
use Rattle.program_shape.specs.tm_soundness.Worlds.{Leaves as Goes, IsLowered}
use Rattle.program_shape.specs.Shape.{Parts, Task, Node, Copy, Has, IsPartOf, Clears, HasType, MayChoose, Does}
use Rattle.program_shape.specs.Shape.{by_itself, by_choice, operation_of, place_at, shape_of}
use Rattle.sound_runs.specs.Sources.{action_of, place_of_next, Sets, sets_with, sets_after, Comes}
use Rattle.sound_runs.specs.Sources.{comes_first, comes_by_itself, comes_by_answer, node_of, source_of}
use Rattle.sound_runs.specs.Sources.{LaysCells, IsRunning}
use Rattle.sound_runs.proofs.Ways.{only_one, AskedBy, asks_by, asks_sure, breaks_by, breaks_sure, silent_by}
use Rattle.sound_runs.proofs.Ways.{IsCalculation, asks_place, IsAsk, asked, failed, ended}
use Rattle.sound_runs.proofs.Stood.{sets_snoc, fit_snoc, target_sets, Told, asks_sets, viewed, given_fits, chosen_fits}
use Rattle.sound_runs.proofs.Stood.{bit_fits, bit_told, store_fits, clear_fits, lock_fits, unlock_fits, yield_fits}
use Rattle.sound_runs.proofs.Stood.{any_is_of, usable_at, typed_at, with_new, lock_is, unlock_is, lock_small, lock_held}

-- ## Answers for which there are copies

true_among : (b : Bool) → Contains (cond b (true ∷ false ∷ []) (true ∷ [])) true
true_among true = (0, omega arith, refl)
true_among false = (0, omega arith, refl)

pub is_true_answered : (op : Operation) → Contains (answers_of op) true
is_true_answered op = true_among (is_probe op)

pub is_probe_answered : (to m : ℕ) (p : Place) (b : Bool) → Contains (answers_of (Op.Probe to m p)) b
unfolding is_probe
is_probe_answered to m p true = (0, omega arith, refl)
is_probe_answered to m p false = (1, omega arith, refl)

-- ## Sets of mutexes

cleared_bit : (m : ℕ) → m < 16 → bit_at (65535 - 2 ^ m) m ≡ 0
cleared_bit m small =
    let e : bit_at (65535 - 2 ^ m) m ≡ 1 - bit_at (2 ^ m) m = bit_at_not w16 (2 ^ m) m (pow_below m 16 small) small in
    omega (arith, e, bit_at-pow_same m)

not_in_without : (l m : ℕ) → m < 16 → has (without_mutex l m) m ≡ true → ⊥
not_in_without l m small h =
    let e : bit_at (bit_and l (65535 - 2 ^ m)) m ≡ 0 =
    omega (arith, bit_at_and l (65535 - 2 ^ m) m, cleared_bit m small) in
    let f : eqb 0 1 ≡ true = subst (λ z. eqb z 1 ≡ true) e h in
    let g : false ≡ true = f in cc

unlock_small : (m : ℕ) (p : Place) → IsOfSixteen (Op.Unlock m p) → m < 16
unfolding IsOfSixteen
unlock_small m p h = h

unlock_held : (m : ℕ) (p : Place) (l : ℕ) → held_after (Op.Unlock m p) l ≡ without_mutex l m
unfolding held_after
unlock_held m p l = refl

-- ## Runs

module _ (x : Parts) (next : ℕ → After) (lays : LaysCells x.laid)
    (runs : (i : Task x) → IsRunning x.laid (x.graph (x.number i)) (x.number i) (next (x.number i))) where
  abbrev S : Shape
  S = shape_of x

  abbrev N : Source S
  N = source_of x next

  abbrev G : Task x → Edges
  G i = x.graph (x.number i)

  abbrev X : Task x → After
  X i = next (x.number i)

  abbrev sets_at : Task x → List Answer → Sets
  sets_at i a = sets_after (X i) a

  abbrev at_node : Task x → ℕ → Sets → Node x
  at_node i place s = node_of x next i place s

  abbrev copy_at : (i : Task x) (e : Edge) → Among e (G i) → Sets → (b : Bool) → Contains (answers_of e.op) b → Copy x
  copy_at i e among s b answered =
      record { actor = i; edge = e; among = among; held = s.held; found = s.found; answer = b; answered = answered }

  -- where a task drifts by itself
  record Drifted (i : Task x) (s : Sets) (n : ℕ) (f : Temps) (n' : ℕ) (f' : Temps) : Type 0 where
    way : Way S N i (at_node i n s) f (at_node i n' s) f'
    comes : Comes x.laid (G i) n' f'

  silent_way : (i : Task x) (s : Sets) {n n' : ℕ} {m m' : Memory} → Comes x.laid (G i) n m.temps
      → Drifts x.laid (G i) n m n' m' → Drifted i s n m.temps n' m'.temps
  silent_way i s c stays = record { way = still; comes = c }
  silent_way i s {n} {n'} {m} {m'} c (drifts {node1 = n1} {m1 = m1} h d) =
      let c1 : Comes x.laid (G i) n1 m1.temps =
      subst (λ z. Comes x.laid (G i) z m1.temps) h.there (comes_by_itself c h.edge h.leaves h.does) in
      let e : Copy x = copy_at i h.edge h.leaves.among s true (is_true_answered h.edge.op) in
      let calc : IsCalculation h.edge.op = silent_by x.laid h.edge.op m.temps m1.temps h.does in
      let there : at_node i n1 s ≡ S.to e =
      λ k. record { task = i; place = sym h.there k; held = sym (calc.held s.held) k; found = sym (calc.found true s.found) k } in
      let does : Does x.laid h.edge.op m.temps m1.temps =
      by_itself ((runs i).addresses n m.temps m1.temps h.edge c h.leaves h.does) h.does in
      let rest : Drifted i s n1 m1.temps n' m'.temps = silent_way i s c1 d in
      let more : Way S N i (S.to e) m1.temps (at_node i n' s) m'.temps =
      subst (λ q. Way S N i q m1.temps (at_node i n' s) m'.temps) there rest.way in
      record {
        way = subst (λ z. Way S N i (at_node i z s) m.temps (at_node i n' s) m'.temps) h.leaves.from
            (along e refl (calc.operation true) does more);
        comes = rest.comes;
      }

  -- ## One answer more

  module _ (i : Task x) (a : List Answer) (place : ℕ) (m : Memory) (st : StandsAt x.laid (G i) (X i) a place m)
      (come : Comes x.laid (G i) place m.temps) (fit : Fit x.laid (X i) a) where
    abbrev q : Node x
    q = at_node i place (sets_at i a)

    abbrev f : Temps
    f = m.temps

    abbrev At : Next → Type 0
    At n = Asking x.laid (G i) (X i) a place m n

    asked_at : (n : Next) → X i a ≡ n → IsAsk n → At n
    asked_at n is ask =
        asked x.laid (G i) (X i) a place m n ask
        (subst (λ z. Stops x.laid (G i) (X i) a place m z) is ((runs i).along.stops a place m st))

    by_at : (n : Next) (at : At n) → AskedBy n at.edge.op f at.after
    by_at n at = asks_by x.laid at.edge.op f n at.after at.asks

    -- where the task is after an answer
    arrive : (n : Next) → X i a ≡ n → (at : At n) (ans : Answer) (v : Value) → answer_of x.laid n ans ≡ Some v
        → (s : Sets) → s ≡ sets_at i (a ++ ans ∷ [])
        → Arrives S N i (at_node i at.edge.to s) (at.after v) (a ++ ans ∷ [])
    arrive n is at ans v fits s eq =
        let g : GoesOn x.laid (G i) (X i) a at.edge (at.after v) ans = at.on ans v fits in
        let s' : Sets = sets_at i (a ++ ans ∷ []) in
        let c : Comes x.laid (G i) at.edge.to g.first.temps =
        subst (λ z. Comes x.laid (G i) at.edge.to z) (sym g.given)
        (comes_by_answer come at.edge at.leaves n at.after at.asks ans v fits) in
        let d : Drifted i s' at.edge.to g.first.temps g.node g.memory.temps = silent_way i s' c g.drifts in
        let way : Way S N i (at_node i at.edge.to s') (at.after v) (at_node i g.node s') g.memory.temps =
        subst (λ z. Way S N i (at_node i at.edge.to s') z (at_node i g.node s') g.memory.temps) g.given d.way in
        record {
          node = at_node i g.node s';
          temps = g.memory.temps;
          way = subst (λ (z : Sets). Way S N i (at_node i at.edge.to z) (at.after v) (at_node i g.node s') g.memory.temps)
              (sym eq) way;
          stands = record {
            place = g.node;
            memory = g.memory;
            stands = g.stands;
            comes = d.comes;
            fit = fit_snoc x.laid a (X i) ans v fit (subst (λ z. answer_of x.laid z ans ≡ Some v) (sym is) fits);
            node = refl;
            temps = refl;
          };
        }

    -- the copy that is gone, and the sets behind it
    module _ (n : Next) (is : X i a ≡ n) (ask : IsAsk n) (at : At n) (b : Bool)
        (answered : Contains (answers_of at.edge.op) b) where
      abbrev copied : Copy x
      copied = copy_at i at.edge at.leaves.among (sets_at i a) b answered

      abbrev goes : (o : Acting ℕ ℕ) → operation_of at.edge.op b ≡ o → Goes S N i q o
      goes o e = record {
        edge = copied;
        actor = refl;
        from = λ k. at_node i (at.leaves.from k) (sets_at i a);
        operation = e;
      }

      after_answer : (ans : Answer) (v : Value) → answer_of x.laid n ans ≡ Some v → Told n b ans
          → Arrives S N i (S.to copied) (at.after v) (a ++ ans ∷ [])
      after_answer ans v fits told =
          arrive n is at ans v fits (target_sets at.edge.op b (sets_at i a))
          (asks_sets n at.edge.op f at.after ask (by_at n at) b ans told (sets_at i a)
          ∙ sym (sets_snoc a (X i) ans (record { held = 0; found = 0 })
          ∙ ap (λ z. sets_with z ans (sets_at i a)) is))

    proper_at : (n : Next) → X i a ≡ n → IsProper x.laid (x.number i) n
    proper_at n is = subst (λ z. IsProper x.laid (x.number i) z) is ((runs i).proper a fit)

    -- an access of this operation goes to the cell
    access_at : (o k : ℕ) (s : Scalar) (c : ℕ) (e : Copy x) (t : ℕ) → e.actor ≡ i → cell_of x.laid o k ≡ c
        → f t ≡ APointer (Pointers.To o k) → IsCell x.laid (x.number i) o k s
        → HasType e.edge.op s → IsAccess S e f t c
    access_at o k s c e t actor there points h typed =
        subst (λ z. IsAccess S e f t z) there (record {
          points = record { object = o; offset = k; is = points; inside = h.inside; there = refl };
          usable = subst (λ (j : Task x). S.shared (S.abstract_cell (cell_of x.laid o k))
              ⊎ S.owned (S.abstract_cell (cell_of x.laid o k)) j) (sym actor)
              (usable_at x.laid (x.number i) o k s (lays o k h.object h.inside) h);
          fits = subst (λ z. HasType e.edge.op z) (sym h.scalar) typed;
        })

    typed_value : (o k : ℕ) (s : Scalar) (c : ℕ) (v : Value) → cell_of x.laid o k ≡ c
        → IsCell x.laid (x.number i) o k s → N.typed (S.abstract_cell c) v → is_of x.laid s v ≡ true
    typed_value o k s c v there h typed =
        typed_at x.laid (x.number i) o k s v (lays o k h.object h.inside) h
        (subst (λ z. N.typed (S.abstract_cell z) v) (sym there) typed)

    pub load_here : (c : ℕ) → N.next i a ≡ a_load c
        → (y : ℕ) × (to : ℕ) × (l : Goes S N i q (load y to)) × IsAccess S l.edge f y c
        × ((v : Value) → N.typed (S.abstract_cell c) v → Arrives S N i (S.to l.edge) (put_at to v f) (N.told a v))
    load_here c e =
        let w = viewed x (X i a) (a_load c) e in
        let n : Next = Acts.Load w.0 w.1 w.2 false w.3 in
        let at : At n = asked_at n w.4 tt in
        let k = by_at n at in
        let h : IsCell x.laid (x.number i) w.0 w.1 w.2 = proper_at n w.4 in
        let answered : Contains (answers_of at.edge.op) true = is_true_answered at.edge.op in (
          k.0,
          k.1,
          goes n w.4 tt at true answered (load k.0 k.1) (ap (λ z. operation_of z true) k.2),
          access_at w.0 w.1 w.2 c (copied n w.4 tt at true answered) k.0 refl w.5 k.3 h
              (subst (λ z. HasType z w.2) (sym k.2) refl),
          λ v typed. subst (λ (z : Value → Temps). Arrives S N i (S.to (copied n w.4 tt at true answered)) (z v) (N.told a v)) k.4
              (after_answer n w.4 tt at true answered (Given v) v
              (given_fits x.laid w.0 w.1 w.2 false w.3 v (typed_value w.0 w.1 w.2 c v w.5 h typed)) tt),
        )

    pub load_any_here : (c : ℕ) → N.next i a ≡ a_load_any c
        → (y : ℕ) × (l : Goes S N i q (load_any y)) × IsAccess S l.edge f y c
        × ((v : Value) → N.may_choose i a v → (f' : Temps) × S.does l.edge f f' × Arrives S N i (S.to l.edge) f' (N.told a v))
    load_any_here c e =
        let w = viewed x (X i a) (a_load_any c) e in
        let n : Next = Acts.Load w.0 w.1 w.2 true w.3 in
        let at : At n = asked_at n w.4 tt in
        let k = by_at n at in
        let h : IsCell x.laid (x.number i) w.0 w.1 w.2 = proper_at n w.4 in
        let answered : Contains (answers_of at.edge.op) true = is_true_answered at.edge.op in (
          k.0,
          goes n w.4 tt at true answered (load_any k.0) (ap (λ z. operation_of z true) k.2),
          access_at w.0 w.1 w.2 c (copied n w.4 tt at true answered) k.0 refl w.5 k.3 h
              (subst (λ z. HasType z w.2) (sym k.2) refl),
          λ v may. let chosen : MayChoose x.laid n v = subst (λ z. MayChoose x.laid z v) w.4 may in (
            at.after v,
            by_choice n at.after v at.asks chosen refl,
            after_answer n w.4 tt at true answered (Given v) v
                (given_fits x.laid w.0 w.1 w.2 true w.3 v (any_is_of x.laid w.0 w.1 w.2 w.3 v chosen)) tt,
          ),
        )

    pub store_here : (c : ℕ) (v : Value) → N.next i a ≡ a_store c v
        → (y : ℕ) × (z : ℕ) × (l : Goes S N i q (store y z)) × IsAccess S l.edge f y c × (f z ≡ v)
        × Arrives S N i (S.to l.edge) f (N.acked a)
    store_here c v e =
        let w = viewed x (X i a) (a_store c v) e in
        let n : Next = Acts.Store w.0 w.1 w.2 v w.3 in
        let at : At n = asked_at n w.4 tt in
        let k = by_at n at in
        let h = proper_at n w.4 in
        let answered : Contains (answers_of at.edge.op) true = is_true_answered at.edge.op in (
          k.0,
          k.1,
          goes n w.4 tt at true answered (store k.0 k.1) (ap (λ z. operation_of z true) k.3),
          access_at w.0 w.1 w.2 c (copied n w.4 tt at true answered) k.0 refl w.5 k.4 h.0
              (subst (λ z. HasType z w.2) (sym k.3) refl),
          k.5,
          subst (λ (z : Value → Temps). Arrives S N i (S.to (copied n w.4 tt at true answered)) (z nothing) (N.acked a)) k.6
              (after_answer n w.4 tt at true answered Done nothing (store_fits x.laid w.0 w.1 w.2 v w.3) tt),
        )

    pub choose_here : N.next i a ≡ a_choose
        → (l : Goes S N i q calculation)
        × ((v : Value) → N.may_choose i a v → (f' : Temps) × S.does l.edge f f' × Arrives S N i (S.to l.edge) f' (N.told a v))
    choose_here e =
        let w = viewed x (X i a) a_choose e in
        let n : Next = Acts.Chosen w.0 w.1 in
        let at : At n = asked_at n w.2 tt in
        let k = by_at n at in
        let answered : Contains (answers_of at.edge.op) true = is_true_answered at.edge.op in (
          goes n w.2 tt at true answered calculation (ap (λ z. operation_of z true) k.1),
          λ v may. let chosen : MayChoose x.laid n v = subst (λ z. MayChoose x.laid z v) w.2 may in (
            at.after v,
            by_choice n at.after v at.asks chosen refl,
            after_answer n w.2 tt at true answered (Given v) v (chosen_fits x.laid w.0 w.1 v chosen) tt,
          ),
        )

    pub clear_here : (o : ℕ) → N.next i a ≡ a_clear o
        → (l : Goes S N i q clear) × ((c : ℕ) → (S.clears l.edge c → IsPartOf x.laid o c) × (IsPartOf x.laid o c → S.clears l.edge c))
        × Arrives S N i (S.to l.edge) f (N.acked a)
    clear_here o e =
        let w = viewed x (X i a) (a_clear o) e in
        let n : Next = Acts.Clear o in
        let at : At n = asked_at n w tt in
        let k = by_at n at in
        let answered : Contains (answers_of at.edge.op) true = is_true_answered at.edge.op in (
          goes n w tt at true answered clear (ap (λ z. operation_of z true) k.0),
          λ c. (λ h. subst (λ z. Clears x.laid z c) k.0 h, λ h. subst (λ z. Clears x.laid z c) (sym k.0) h),
          subst (λ (z : Value → Temps). Arrives S N i (S.to (copied n w tt at true answered)) (z nothing) (N.acked a)) k.1
              (after_answer n w tt at true answered Done nothing (clear_fits x.laid o) tt),
        )

    pub lock_here : (y : ℕ) → N.next i a ≡ a_lock y
        → (l : Goes S N i q (lock y)) × Arrives S N i (S.to l.edge) f (N.acked a)
    lock_here y e =
        let w = viewed x (X i a) (a_lock y) e in
        let n : Next = Acts.Lock y w.0 in
        let at : At n = asked_at n w.1 tt in
        let k = by_at n at in
        let answered : Contains (answers_of at.edge.op) true = is_true_answered at.edge.op in (
          goes n w.1 tt at true answered (lock y) (ap (λ z. operation_of z true) k.0),
          subst (λ (z : Value → Temps). Arrives S N i (S.to (copied n w.1 tt at true answered)) (z nothing) (N.acked a)) k.1
              (after_answer n w.1 tt at true answered Done nothing (lock_fits x.laid y w.0) tt),
        )

    pub unlock_here : (y : ℕ) → N.next i a ≡ a_unlock y
        → (l : Goes S N i q (unlock y)) × Arrives S N i (S.to l.edge) f (N.acked a)
    unlock_here y e =
        let w = viewed x (X i a) (a_unlock y) e in
        let n : Next = Acts.Unlock y w.0 in
        let at : At n = asked_at n w.1 tt in
        let k = by_at n at in
        let answered : Contains (answers_of at.edge.op) true = is_true_answered at.edge.op in (
          goes n w.1 tt at true answered (unlock y) (ap (λ z. operation_of z true) k.0),
          subst (λ (z : Value → Temps). Arrives S N i (S.to (copied n w.1 tt at true answered)) (z nothing) (N.acked a)) k.1
              (after_answer n w.1 tt at true answered Done nothing (unlock_fits x.laid y w.0) tt),
        )

    pub yield_here : N.next i a ≡ a_yield
        → (l : Goes S N i q yields) × Arrives S N i (S.to l.edge) f (N.acked a)
    yield_here e =
        let w = viewed x (X i a) a_yield e in
        let n : Next = Acts.Yield in
        let at : At n = asked_at n w tt in
        let k = by_at n at in
        let answered : Contains (answers_of at.edge.op) true = is_true_answered at.edge.op in (
          goes n w tt at true answered yields (ap (λ z. operation_of z true) k.0),
          subst (λ (z : Value → Temps). Arrives S N i (S.to (copied n w tt at true answered)) (z nothing) (N.acked a)) k.1
              (after_answer n w tt at true answered Done nothing (yield_fits x.laid) tt),
        )

    pub probe_here : (y : ℕ) (b : Bool) → N.next i a ≡ a_probe y
        → (to : ℕ) × (l : Goes S N i q (probe y to b))
        × Arrives S N i (S.to l.edge) (put_at to (truth_value b) f) (N.told a (truth_value b))
    probe_here y b e =
        let w = viewed x (X i a) (a_probe y) e in
        let n : Next = Acts.Probe y w.0 in
        let at : At n = asked_at n w.1 tt in
        let k = by_at n at in
        let answered : Contains (answers_of at.edge.op) b =
        subst (λ z. Contains (answers_of z) b) (sym k.1) (is_probe_answered k.0 y w.0 b) in (
          k.0,
          goes n w.1 tt at b answered (probe y k.0 b) (ap (λ z. operation_of z b) k.1),
          subst (λ (z : Value → Temps). Arrives S N i (S.to (copied n w.1 tt at b answered)) (z (truth_value b)) (N.told a (truth_value b))) k.2
              (after_answer n w.1 tt at b answered (Given (truth_value b)) (truth_value b) (bit_fits x.laid y w.0 b) (bit_told b)),
        )

    pub fault_here : (k : Class) → N.next i a ≡ a_fault k
        → (l : Goes S N i q calculation) × S.fails l.edge f k
    fault_here k e =
        let w = viewed x (X i a) (a_fault k) e in
        let y = failed x.laid (G i) (X i) a place m (X i a) k w.0 w.1 ((runs i).along.stops a place m st) in
        let answered : Contains (answers_of y.0.op) true = is_true_answered y.0.op in (
          record {
            edge = copy_at i y.0 y.1.among (sets_at i a) true answered;
            actor = refl;
            from = λ j. at_node i (y.1.from j) (sets_at i a);
            operation = (breaks_by x.laid y.0.op f k w.0 y.2).1 true;
          },
          record { place = w.0; breaks = y.2 },
        )

    pub end_here : N.next i a ≡ a_ended → S.ends q
    end_here e =
        ended x.laid (G i) (X i) a place m (X i a) (viewed x (X i a) a_ended e) ((runs i).along.stops a place m st)

    -- the place of whatever leaves is that of the next action
    asking_place : (n : Next) → X i a ≡ n → IsAsk n → (n ≡ Acts.Misfit → ⊥) → (e : Edge) → Leaves (G i) place e
        → place_at e.op ≡ place_of_next n
    asking_place n is ask not e l =
        let at : At n = asked_at n is ask in
        let same : e ≡ at.edge =
        only_one (G i) (runs i).plain place at.edge e (asks_sure x.laid at.edge.op f n at.after at.asks) at.leaves l in
        ap (λ (z : Edge). place_at z.op) same ∙ asks_place n at.edge.op f at.after not (by_at n at)

    place_by : (n : Next) → X i a ≡ n → (N.next i a ≡ a_spins → ⊥) → (e : Edge) → Leaves (G i) place e
        → place_at e.op ≡ place_of_next n
    place_by (Acts.Fault k here) is not e l =
        let y = failed x.laid (G i) (X i) a place m (X i a) k here is ((runs i).along.stops a place m st) in
        let same : e ≡ y.0 = only_one (G i) (runs i).plain place y.0 e (breaks_sure x.laid y.0.op f k here y.2) y.1 l in
        ap (λ (z : Edge). place_at z.op) same ∙ (breaks_by x.laid y.0.op f k here y.2).0
    place_by Acts.Ended is not e l =
        absurd (ended x.laid (G i) (X i) a place m (X i a) is ((runs i).along.stops a place m st) e l)
    place_by Acts.Spins is not e l = absurd (not (ap (action_of x) is))
    place_by Acts.Misfit is not e l = absurd (not (ap (action_of x) is))
    place_by (Acts.Load o k s b p) is not e l = asking_place (Acts.Load o k s b p) is tt (λ h. cc) e l
    place_by (Acts.Store o k s v p) is not e l = asking_place (Acts.Store o k s v p) is tt (λ h. cc) e l
    place_by (Acts.Chosen low high) is not e l = asking_place (Acts.Chosen low high) is tt (λ h. cc) e l
    place_by (Acts.Clear o) is not e l = asking_place (Acts.Clear o) is tt (λ h. cc) e l
    place_by (Acts.Lock y p) is not e l = asking_place (Acts.Lock y p) is tt (λ h. cc) e l
    place_by (Acts.Unlock y p) is not e l = asking_place (Acts.Unlock y p) is tt (λ h. cc) e l
    place_by Acts.Yield is not e l = asking_place Acts.Yield is tt (λ h. cc) e l
    place_by (Acts.Probe y p) is not e l = asking_place (Acts.Probe y p) is tt (λ h. cc) e l

    pub placed_here : (N.next i a ≡ a_spins → ⊥) → (e : Edge) → Leaves (G i) place e → place_at e.op ≡ N.place i a
    placed_here not e l = place_by (X i a) refl not e l

  -- an edge of the theorem that leaves a node is an edge of the graph that leaves its place
  place_edge : (i : Task x) (q : Node x) (e : Copy x) → e.actor ≡ i → S.from e ≡ q → Leaves (G i) q.place e.edge
  place_edge i q e actor from = record {
    among = subst (λ j. Among e.edge (G j)) actor e.among;
    from = ap (λ (z : Node x). z.place) from;
  }

  lock_gets : (e : Copy x) (m : ℕ) → S.operation e ≡ lock m → (Has e.held m → ⊥) → Has (held_after e.edge.op e.held) m
  lock_gets e m is not =
      let w = lock_is e.edge.op e.answer m is in
      let small : m < 16 = lock_small m w.0 (subst IsOfSixteen w.1 ((runs e.actor).mutexes e.edge e.among)) in
      subst (λ z. Has (held_after z e.held) m) (sym w.1)
      (subst (λ z. Has z m) (sym (lock_held m w.0 e.held)) (record { small = small; is = with_new e.held m }))

  unlock_drops : (e : Copy x) (m : ℕ) → S.operation e ≡ unlock m → Has e.held m → Has (held_after e.edge.op e.held) m → ⊥
  unlock_drops e m is mine h =
      let w = unlock_is e.edge.op e.answer m is in
      let there : Has (without_mutex e.held m) m =
      subst (λ z. Has z m) (unlock_held m w.0 e.held) (subst (λ z. Has (held_after z e.held) m) w.1 h) in
      not_in_without e.held m mine.small there.is

  start_here : (i : Task x) → Arrives S N i (S.entry i) at_entry.temps []
  start_here i =
      let r = (runs i).along in
      let d : Drifted i (sets_at i []) 0 at_entry.temps r.node r.memory.temps =
      silent_way i (sets_at i []) comes_first r.drifts in
      record {
        node = at_node i r.node (sets_at i []);
        temps = r.memory.temps;
        way = d.way;
        stands = record {
          place = r.node;
          memory = r.memory;
          stands = r.stands;
          comes = d.comes;
          fit = tt;
          node = refl;
          temps = refl;
        };
      }

  -- the graphs run along the next actions of the tasks
  pub lowered : IsLowered S N (λ i. at_entry.temps)
  lowered = record {
    start = start_here;
    at_load = λ i a q f c h e.
        subst (λ z. (y : ℕ) × (to : ℕ) × (l : Goes S N i z (load y to)) × IsAccess S l.edge f y c × ((v : Value) → N.typed (S.abstract_cell c) v → Arrives S N i (S.to l.edge) (put_at to v f) (N.told a v))) (sym h.node)
        (subst (λ g. (y : ℕ) × (to : ℕ) × (l : Goes S N i (at_node i h.place (sets_at i a)) (load y to)) × IsAccess S l.edge g y c × ((v : Value) → N.typed (S.abstract_cell c) v → Arrives S N i (S.to l.edge) (put_at to v g) (N.told a v))) (sym h.temps)
        (load_here i a h.place h.memory h.stands h.comes h.fit c e));
    at_load_any = λ i a q f c h e.
        subst (λ z. (y : ℕ) × (l : Goes S N i z (load_any y)) × IsAccess S l.edge f y c × ((v : Value) → N.may_choose i a v → (f' : Temps) × S.does l.edge f f' × Arrives S N i (S.to l.edge) f' (N.told a v))) (sym h.node)
        (subst (λ g. (y : ℕ) × (l : Goes S N i (at_node i h.place (sets_at i a)) (load_any y)) × IsAccess S l.edge g y c × ((v : Value) → N.may_choose i a v → (f' : Temps) × S.does l.edge g f' × Arrives S N i (S.to l.edge) f' (N.told a v))) (sym h.temps)
        (load_any_here i a h.place h.memory h.stands h.comes h.fit c e));
    at_choose = λ i a q f h e.
        subst (λ z. (l : Goes S N i z calculation) × ((v : Value) → N.may_choose i a v → (f' : Temps) × S.does l.edge f f' × Arrives S N i (S.to l.edge) f' (N.told a v))) (sym h.node)
        (subst (λ g. (l : Goes S N i (at_node i h.place (sets_at i a)) calculation) × ((v : Value) → N.may_choose i a v → (f' : Temps) × S.does l.edge g f' × Arrives S N i (S.to l.edge) f' (N.told a v))) (sym h.temps)
        (choose_here i a h.place h.memory h.stands h.comes h.fit e));
    at_store = λ i a q f c v h e.
        subst (λ z. (y : ℕ) × (u : ℕ) × (l : Goes S N i z (store y u)) × IsAccess S l.edge f y c × (f u ≡ v) × Arrives S N i (S.to l.edge) f (N.acked a)) (sym h.node)
        (subst (λ g. (y : ℕ) × (u : ℕ) × (l : Goes S N i (at_node i h.place (sets_at i a)) (store y u)) × IsAccess S l.edge g y c × (g u ≡ v) × Arrives S N i (S.to l.edge) g (N.acked a)) (sym h.temps)
        (store_here i a h.place h.memory h.stands h.comes h.fit c v e));
    at_clear = λ i a q f o h e.
        subst (λ z. (l : Goes S N i z clear) × ((c : ℕ) → (S.clears l.edge c → IsPartOf x.laid o c) × (IsPartOf x.laid o c → S.clears l.edge c)) × Arrives S N i (S.to l.edge) f (N.acked a)) (sym h.node)
        (subst (λ g. (l : Goes S N i (at_node i h.place (sets_at i a)) clear) × ((c : ℕ) → (S.clears l.edge c → IsPartOf x.laid o c) × (IsPartOf x.laid o c → S.clears l.edge c)) × Arrives S N i (S.to l.edge) g (N.acked a)) (sym h.temps)
        (clear_here i a h.place h.memory h.stands h.comes h.fit o e));
    at_lock = λ i a q f y h e.
        let r = subst (λ z. (l : Goes S N i z (lock y)) × Arrives S N i (S.to l.edge) f (N.acked a)) (sym h.node)
        (subst (λ g. (l : Goes S N i (at_node i h.place (sets_at i a)) (lock y)) × Arrives S N i (S.to l.edge) g (N.acked a)) (sym h.temps)
        (lock_here i a h.place h.memory h.stands h.comes h.fit y e)) in
        (r.0, λ not. r.1);
    at_unlock = λ i a q f y h e.
        let r = subst (λ z. (l : Goes S N i z (unlock y)) × Arrives S N i (S.to l.edge) f (N.acked a)) (sym h.node)
        (subst (λ g. (l : Goes S N i (at_node i h.place (sets_at i a)) (unlock y)) × Arrives S N i (S.to l.edge) g (N.acked a)) (sym h.temps)
        (unlock_here i a h.place h.memory h.stands h.comes h.fit y e)) in
        (r.0, λ mine. r.1);
    at_yield = λ i a q f h e.
        subst (λ z. (l : Goes S N i z yields) × Arrives S N i (S.to l.edge) f (N.acked a)) (sym h.node)
        (subst (λ g. (l : Goes S N i (at_node i h.place (sets_at i a)) yields) × Arrives S N i (S.to l.edge) g (N.acked a)) (sym h.temps)
        (yield_here i a h.place h.memory h.stands h.comes h.fit e));
    at_held = λ i a q f y h e.
        subst (λ z. (to : ℕ) × (l : Goes S N i z (probe y to true)) × Arrives S N i (S.to l.edge) (put_at to (truth_value true) f) (N.told a (truth_value true))) (sym h.node)
        (subst (λ g. (to : ℕ) × (l : Goes S N i (at_node i h.place (sets_at i a)) (probe y to true)) × Arrives S N i (S.to l.edge) (put_at to (truth_value true) g) (N.told a (truth_value true))) (sym h.temps)
        (probe_here i a h.place h.memory h.stands h.comes h.fit y true e));
    at_free = λ i a q f y h e.
        let r = subst (λ z. (to : ℕ) × (l : Goes S N i z (probe y to false)) × Arrives S N i (S.to l.edge) (put_at to (truth_value false) f) (N.told a (truth_value false))) (sym h.node)
        (subst (λ g. (to : ℕ) × (l : Goes S N i (at_node i h.place (sets_at i a)) (probe y to false)) × Arrives S N i (S.to l.edge) (put_at to (truth_value false) g) (N.told a (truth_value false))) (sym h.temps)
        (probe_here i a h.place h.memory h.stands h.comes h.fit y false e)) in
        (r.0, r.1, λ not. r.2);
    at_fault = λ i a q f k h e.
        subst (λ z. (l : Goes S N i z calculation) × S.fails l.edge f k) (sym h.node)
        (subst (λ g. (l : Goes S N i (at_node i h.place (sets_at i a)) calculation) × S.fails l.edge g k) (sym h.temps)
        (fault_here i a h.place h.memory h.stands h.comes h.fit k e));
    at_end = λ i a q f h e. subst (λ z. S.ends z) (sym h.node) (end_here i a h.place h.memory h.stands h.comes h.fit e);
    placed = λ i a q f o h not l.
        placed_here i a h.place h.memory h.stands h.comes h.fit not l.edge.edge
        (place_edge i (at_node i h.place (sets_at i a)) l.edge l.actor (l.from ∙ h.node));
    lock_gets = lock_gets;
    unlock_drops = unlock_drops;
  }
