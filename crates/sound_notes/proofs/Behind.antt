-- A world of the graphs in which a task stands just behind the edge along which its last answer has led, or further on,
-- where it only passes.
use Rattle.std.proofs.Common.{◌≡◌, ◌⊎◌, inl, inr, refl, sym, ap, subst, ◌∙◌, ℕ, Bool, true, false, List, [], ◌∷◌, ◌++◌}
use Rattle.std.proofs.Common.{Option, Some, None}
use Rattle.std.specs.Prelude.{pos}
use Rattle.sound_tables.specs.tm_laid.Layouts.{LaidTree}
use Rattle.sound_tables.specs.concrete_values.declared.values.Value.{Value}
use Rattle.sound_tables.specs.concrete_values.declared.values.Answer.{Answer}
use Rattle.sound_tables.specs.concrete_values.declared.values.Answer.TheVariants.{Given, Done}
use Rattle.sound_tables.specs.concrete_values.declared.actions.Next.{Next}
use Rattle.sound_tables.specs.concrete_values.declared.actions.Next.TheVariants as Acts
use Rattle.sound_tables.specs.concrete_values.Actions.{value_if, is_of, is_between, answer_of}
use Rattle.sound_tables.specs.concrete_steps.NextAction.{After}
use Rattle.sound_tables.specs.flow_graph.declared.graphs.Edge.{Edge}
use Rattle.sound_tables.specs.flow_graph.declared.operations.Operation.{Operation as GraphOperation}
use Rattle.sound_tables.specs.flow_graph.Graphs.{Edges, Among, IsPlain}
use Rattle.sound_tables.specs.flow_graph.Operations.{Temps, put_at, given as given_by, kept_with, Doing, gives, shut}
use Rattle.sound_tables.specs.flow_graph.Operations.{asks, fails, doing, effect_by, Asks, effect}
use Rattle.sound_tables.specs.flow_graph.Runs.{Memory, Awaits, move, at_entry}
use Rattle.sound_tables.specs.flow_graph.Positions.{Silently, Reaches, here, went, gave, Is}
use Rattle.flow_graph.proofs.Positions.{Waits}
use Rattle.sound_tables.specs.tm_soundness.Shape.{Shape, Operation as Acting, calculation, load, load_any, store, clear}
use Rattle.sound_tables.specs.tm_soundness.Shape.{lock, unlock, yields, probe, Content as AContent, given, Reads}
use Rattle.sound_tables.specs.tm_soundness.GraphWorlds.{Status, waiting, ready, done, Situation, GraphWorld, at}
use Rattle.sound_tables.specs.tm_soundness.GraphWorlds.{IsFirst, IsFree, IsAwake, awake_waiting, awake_ready}
use Rattle.sound_tables.specs.tm_soundness.GraphWorlds.{IsSameMemory, Runs, Moves, GraphStep, calculate, loads}
use Rattle.sound_tables.specs.tm_soundness.GraphWorlds.{loads_any, stores, clearing, locks, unlocks, waits, finds_held}
use Rattle.sound_tables.specs.tm_soundness.GraphWorlds.{finds_free, IsGraphReached, after}
use Rattle.sound_tables.specs.tm_soundness.Shaped.{IsShaped}
use Rattle.sound_tables.specs.tm_soundness.Rows.{pick}
use Rattle.sound_tables.specs.tm_soundness.Worlds.{Action, a_load, a_load_any, a_store, a_choose, a_clear, a_lock}
use Rattle.sound_tables.specs.tm_soundness.Worlds.{a_unlock, a_yield, a_probe, Source, World as AWorld, IsTop}
use Rattle.sound_tables.specs.tm_soundness.Worlds.{IsHeldFree, SameContent, Step, step_wakes, step_loads}
use Rattle.sound_tables.specs.tm_soundness.Worlds.{step_loads_any, step_chooses, step_stores, step_clears, step_locks}
use Rattle.sound_tables.specs.tm_soundness.Worlds.{step_blocks, step_unlocks, step_yields, step_finds_held}
use Rattle.sound_tables.specs.tm_soundness.Worlds.{step_finds_free, step_spins, Silent as Way, still, along, Leaves}
use Rattle.sound_tables.specs.tm_soundness.Worlds.{IsLowered, IsImage}
use Rattle.tm_soundness.proofs.FromRows.{pick_yes, pick_no}
use Rattle.tm_soundness.proofs.Simulation.{run_silent}
use Rattle.sound_tables.specs.program_shape.Shape.{Parts, Task, Node, Copy, shape_of, from_of, to_of}
use Rattle.sound_tables.specs.program_shape.Shape.{MayChoose, Does, by_itself, by_choice}
use Rattle.sound_runs.specs.Sources.{action_of, Sets, sets_with, sets_after, Comes}
use Rattle.sound_runs.specs.Sources.{comes_by_itself, comes_by_answer, node_of, Stands, source_of, KeepsAddresses}
use Rattle.sound_runs.proofs.Ways.{only_one, asks_by, asks_sure, silent_by, IsCalculation, IsAsk}
use Rattle.sound_runs.proofs.Stood.{sets_snoc, target_sets, Told, asks_sets, bit_told}
use Rattle.sound_runs.proofs.Lowered.{is_true_answered}
use Rattle.sound_tables.proofs.OperationKinds.{is_load, is_store, is_clear, is_unlock, is_yield, is_probe}
use Rattle.sound_tables.proofs.SetsAfter.{is_lock}
use Rattle.sound_notes.proofs.OneStand.{one_stand}
use Rattle.sound_notes.proofs.Moves.{goes_along, awaits_along, HasAsked, has_asked}

-- ## Answers and what they give

same_value : (b : Bool) (v u : Value) → value_if b v ≡ Some u → u ≡ v
same_value true v u e = cc
same_value false v u e = absurd (cc)

-- what is given is what the temporary gets
given_same : (laid : LaidTree) (n : Next) (v u : Value) → answer_of laid n (Given v) ≡ Some u → u ≡ v
unfolding answer_of
given_same laid (Acts.Load o k s volatile p) v u e = same_value (is_of laid s v) v u e
given_same laid (Acts.Chosen low high) v u e = same_value (is_between low high v) v u e
given_same laid (Acts.Probe m p) v u e = same_value (is_between (pos 0) (pos 1) v) v u e
given_same laid n v u e = absurd (cc)

-- what is answered asks
answered_asks : (laid : LaidTree) (n : Next) (a : Answer) (u : Value) → answer_of laid n a ≡ Some u → IsAsk n
unfolding answer_of
answered_asks laid (Acts.Fault class p) (Given v) u e = absurd (cc)
answered_asks laid (Acts.Fault class p) Done u e = absurd (cc)
answered_asks laid Acts.Ended (Given v) u e = absurd (cc)
answered_asks laid Acts.Ended Done u e = absurd (cc)
answered_asks laid Acts.Spins (Given v) u e = absurd (cc)
answered_asks laid Acts.Spins Done u e = absurd (cc)
answered_asks laid Acts.Misfit (Given v) u e = absurd (cc)
answered_asks laid Acts.Misfit Done u e = absurd (cc)
answered_asks laid n a u e = tt

-- the temporaries after an answer
same_after : (n k : Next) (f g : Value → Temps) → Asks n f ≡ Asks k g → f ≡ g
same_after n k f g e = cc

asks_after_by : (to : Option ℕ) (t : Temps) (d : Doing) (n : Next) (f : Value → Temps) → effect_by to t d ≡ Asks n f
    → f ≡ (λ v. kept_with to v t)
asks_after_by to t (gives v) n f e = absurd (cc)
asks_after_by to t shut n f e = absurd (cc)
asks_after_by to t (asks k) n f e = sym (same_after k n (λ v. kept_with to v t) f e)
asks_after_by to t (fails class place) n f e = absurd (cc)

asks_after : (laid : LaidTree) (op : GraphOperation) (t : Temps) (n : Next) (f : Value → Temps)
    → effect laid op t ≡ Asks n f → f ≡ (λ v. kept_with (given_by op) v t)
asks_after laid op t n f e = asks_after_by (given_by op) t (doing laid op t) n f e

-- ## Parts

module _ (y : Parts) (next_of : ℕ → After) (plain : (i : Task y) → IsPlain (y.graph (y.number i)))
    (keeps : (i : Task y) → KeepsAddresses y.laid (y.graph (y.number i))) (shape : IsShaped (shape_of y))
    (memory : ℕ → AContent Value) (temps : Task y → Temps)
    (lowered : IsLowered (shape_of y) (source_of y next_of) temps) where
  abbrev S : Shape
  S = shape_of y

  abbrev N : Source S
  N = source_of y next_of

  abbrev G : Task y → Edges
  G i = y.graph (y.number i)

  abbrev X : Task y → After
  X i = next_of (y.number i)

  abbrev node_at : Task y → ℕ → Sets → Node y
  node_at i place s = node_of y next_of i place s

  -- a world that is reached has the task at this node with these temporaries
  pub record IsThere (i : Task y) (q : Node y) (f : Temps) : Type 0 where
    pub world : GraphWorld S
    pub reached : IsGraphReached S memory temps world
    pub status : Status ℕ
    pub awake : IsAwake S status
    pub here : world.situation i ≡ at S q f status

  -- the same where the run over these answers comes to the node
  pub record IsPassed (i : Task y) (answers : List Answer) (node : ℕ) (f : Temps) : Type 0 where
    pub there : IsThere i (node_at i node (sets_after (X i) answers)) f
    pub comes : Comes y.laid (G i) node f

  -- wherever the run over these answers comes
  abbrev pub PassedWith : Task y → List Answer → Type 0
  PassedWith i answers = (node : ℕ) (m : Memory) → Reaches y.laid (G i) 0 at_entry answers node m
      → IsPassed i answers node m.temps

  abbrev pub AllPassed : AWorld S N → Type 0
  AllPassed E = (i : Task y) → PassedWith i (E.answers i)

  -- ## By itself

  abbrev copy_at : (i : Task y) (e : Edge) → Among e (G i) → Sets → Copy y
  copy_at i e among s = record {
    actor = i;
    edge = e;
    among = among;
    held = s.held;
    found = s.found;
    answer = true;
    answered = is_true_answered e.op;
  }

  -- one step by itself
  goes_by_itself : (i : Task y) (answers : List Answer) (node : ℕ) (m : Memory) (node' : ℕ) (m' : Memory)
      → Silently y.laid (G i) node m node' m' → IsPassed i answers node m.temps → IsPassed i answers node' m'.temps
  goes_by_itself i answers node m node' m' h b =
      let s : Sets = sets_after (X i) answers in
      let e : Copy y = copy_at i h.edge h.leaves.among s in
      let calc : IsCalculation h.edge.op = silent_by y.laid h.edge.op m.temps m'.temps h.does in
      let left : from_of y e ≡ node_at i node s = λ k. node_at i (h.leaves.from k) s in
      let there : to_of y e ≡ node_at i node' s =
      λ k. record { task = i; place = h.there k; held = calc.held s.held k; found = calc.found true s.found k } in
      let does : Does y.laid h.edge.op m.temps m'.temps =
      by_itself (keeps i node m.temps m'.temps h.edge b.comes h.leaves h.does) h.does in
      let way : Way S N i (from_of y e) m.temps (to_of y e) m'.temps =
      along e refl (calc.operation true) does still in
      let way' : Way S N i (node_at i node s) m.temps (node_at i node' s) m'.temps =
      subst (λ q. Way S N i q m.temps (node_at i node' s) m'.temps) left
      (subst (λ q. Way S N i (from_of y e) m.temps q m'.temps) there way) in
      let o = b.there in
      let ran = run_silent S N shape memory temps lowered i o.world o.reached (node_at i node s) m.temps
      (node_at i node' s) m'.temps o.status o.here o.awake way' in
      record {
        there = record { world = ran.0; reached = ran.1; status = o.status; awake = o.awake; here = ran.3.mine };
        comes = subst (λ z. Comes y.laid (G i) z m'.temps) h.there (comes_by_itself b.comes h.edge h.leaves h.does);
      }

  nil_cons : (a : Answer) (l : List Answer) → a ∷ l ≡ [] → ⊥
  nil_cons a l e = cc

  pub goes_far : (i : Task y) (answers : List Answer) {more : List Answer} (node : ℕ) (m : Memory) (node' : ℕ)
      (m' : Memory) → more ≡ [] → Reaches y.laid (G i) node m more node' m' → IsPassed i answers node m.temps
      → IsPassed i answers node' m'.temps
  goes_far i answers node m node' m' none here b = b
  goes_far i answers node m node' m' none (went {node1 = n1} {m1 = m1} e r) b =
      goes_far i answers n1 m1 node' m' none r
      (goes_by_itself i answers node m n1 m1 (goes_along y.laid (G i) node m n1 m1 e) b)
  goes_far i answers node m node' m' none (gave {answers = more} {a = a} e f r) b = absurd (nil_cons a more none)

  -- ## Steps

  -- one task comes to a situation, and all others stay
  abbrev moved : (ℕ → AContent Value) → GraphWorld S → Task y → Situation S → GraphWorld S
  moved κ w i z = record { content = κ; situation = λ j. pick (S.same_task j i) z (w.situation j) }

  moved_here : (κ : ℕ → AContent Value) (w : GraphWorld S) (i : Task y) (z : Situation S) (j : Task y) → j ≡ i
      → (let v = moved κ w i z in v.situation j) ≡ z
  moved_here κ w i z j e = pick_yes (S.same_task j i) z (w.situation j) e

  moved_there : (κ : ℕ → AContent Value) (w : GraphWorld S) (i : Task y) (z : Situation S) (j : Task y) → (j ≡ i → ⊥)
      → (let v = moved κ w i z in v.situation j) ≡ w.situation j
  moved_there κ w i z j e = pick_no (S.same_task j i) z (w.situation j) e

  moves : (κ : ℕ → AContent Value) (w : GraphWorld S) (i : Task y) (z : Situation S) (s : Task y) → s ≡ i
      → Moves S w (moved κ w i z) s z
  moves κ w i z s e = record {
    mine = moved_here κ w i z s e;
    others = λ j not. moved_there κ w i z j (λ k. not (k ∙ sym e));
  }

  not_waiting : (st : Status ℕ) → st ≡ ready → st ≡ waiting → ⊥
  not_waiting st a b = cc

  not_done : (st : Status ℕ) → st ≡ ready → st ≡ done → ⊥
  not_done st a b = cc

  ready_by : (z c : Status ℕ) → c ≡ ready → (z ≡ c) ⊎ ((z ≡ waiting) × (c ≡ done)) → z ≡ ready
  ready_by z c runs (inl e) = e ∙ runs
  ready_by z c runs (inr e) = absurd (not_done c runs e.1)

  abbrev IsNoProbe : Action S ℕ → Type 0
  IsNoProbe (a_probe m) = ⊥
  IsNoProbe _ = Unit {0}

  told_plain : (n : Next) → IsNoProbe (action_of y n) → (b : Bool) (ans : Answer) → Told n b ans
  told_plain (Acts.Probe m p) h b ans = absurd h
  told_plain n h b ans = tt

  module _ (D : AWorld S N) (w : GraphWorld S) (reached : IsGraphReached S memory temps w) (image : IsImage S N D w)
      (stands : (i : Task y) → (let z = w.situation i in Stands y next_of i (D.answers i) z.node z.temps)) where
    abbrev q : Task y → Node y
    q i = (let z = w.situation i in z.node)

    abbrev f : Task y → Temps
    f i = (let z = w.situation i in z.temps)

    free_there : (m : ℕ) → IsHeldFree S N D m → IsFree S w m
    free_there m free i a = free i (((image.sits i).held m).0 a)

    busy_there : (m : ℕ) → (IsHeldFree S N D m → ⊥) → IsFree S w m → ⊥
    busy_there m busy free = busy (λ i a. free i (((image.sits i).held m).1 a))

    first_of_all : (s : Task y) → IsTop S N D s → IsFirst S w s
    first_of_all s top i less up = elim (image.sits i).status [
      | inl e ↦ top i less (sym e ∙ up)
      | inr e ↦ not_waiting (w.situation i).status up e.0
    ]

    runs_there : (s : Task y) (o : Acting ℕ ℕ) (l : Leaves S N s (q s) o) → D.status s ≡ ready → IsTop S N D s
        → Runs S w l.edge (f s)
    runs_there s o l runs top =
        let up : (w.situation s).status ≡ ready =
        ready_by (w.situation s).status (D.status s) runs (image.sits s).status in
        record {
          here = ap w.situation l.actor ∙ (λ k. record { node = sym l.from k; temps = f s; status = up k });
          first = subst (λ t. IsFirst S w t) (sym l.actor) (first_of_all s top);
        }

    -- the world behind an edge
    stepped : (s : Task y) (κ : ℕ → AContent Value) (r : Node y) (g : Temps) (st : Status ℕ) → IsAwake S st
        → GraphStep S w (moved κ w s (at S r g st)) → IsThere s r g
    stepped s κ r g st awake step = record {
      world = moved κ w s (at S r g st);
      reached = after reached step;
      status = st;
      awake = awake;
      here = moved_here κ w s (at S r g st) s refl;
    }

    -- ### One answer more

    module _ (s : Task y) (ans : Answer) (node : ℕ) (m : Memory)
        (come : Reaches y.laid (G s) 0 at_entry (D.answers s ++ ans ∷ []) node m) where
      h : HasAsked y.laid (G s) 0 at_entry (D.answers s) ans node m
      h = has_asked y.laid (G s) (D.answers s) ans come

      abbrev st : Stands y next_of s (D.answers s) (q s) (f s)
      st = stands s

      one : (h.place ≡ st.place) × (h.memory ≡ st.memory)
      one =
          one_stand y.laid (G s) h.next (X s (D.answers s)) h.before st.stands.0
          (subst (λ v. Is v h.next) (sym h.waits) refl) st.stands.1

      waits_at : move y.laid (G s) st.place st.memory ≡ Awaits h.next h.to h.after
      waits_at =
          subst (λ z. move y.laid (G s) z st.memory ≡ Awaits h.next h.to h.after) one.0
          (subst (λ z. move y.laid (G s) h.place z ≡ Awaits h.next h.to h.after) one.1 h.waits)

      asked : Waits y.laid (G s) st.place st.memory h.next h.to h.after
      asked = awaits_along y.laid (G s) st.place st.memory h.next h.to h.after waits_at

      next_is : X s (D.answers s) ≡ h.next
      next_is = subst (λ v. Is v (X s (D.answers s))) waits_at st.stands.1

      -- an edge that leaves where the task stands is that which asks
      same_edge : (o : Acting ℕ ℕ) (l : Leaves S N s (q s) o) → (let e = l.edge in e.edge) ≡ asked.edge
      same_edge o l =
          let e : Copy y = l.edge in
          only_one (G s) (plain s) st.place asked.edge e.edge
          (asks_sure y.laid asked.edge.op st.memory.temps h.next asked.temps asked.asks) asked.leaves
          (record {
            among = subst (λ j. Among e.edge (G j)) l.actor e.among;
            from = ap (λ (z : Node y). z.place) (l.from ∙ st.node);
          })

      temps_are : (o : Acting ℕ ℕ) (l : Leaves S N s (q s) o) (v : Value) → h.value ≡ v
          → asked.temps h.value ≡ (let e = l.edge in let g = e.edge in kept_with (given_by g.op) v (f s))
      temps_are o l v same =
          let e : Copy y = l.edge in
          ap (λ (z : Value → Temps). z h.value)
          (asks_after y.laid asked.edge.op st.memory.temps h.next asked.temps asked.asks)
          ∙ ap (λ (z : Edge). kept_with (given_by z.op) h.value st.memory.temps) (sym (same_edge o l))
          ∙ ap (λ z. kept_with (given_by e.edge.op) z st.memory.temps) same
          ∙ ap (λ z. kept_with (given_by e.edge.op) v z) (sym st.temps)

      -- the sets behind the edge are those after all answers
      sets_are : (o : Acting ℕ ℕ) (l : Leaves S N s (q s) o) → (let e = l.edge in Told h.next e.answer ans)
          → (let e = l.edge in let g = e.edge in let both : Sets = record { held = e.held; found = e.found } in
          target_sets g.op e.answer both ≡ sets_after (X s) (D.answers s ++ ans ∷ []))
      sets_are o l told =
          let e : Copy y = l.edge in
          let a : Sets = sets_after (X s) (D.answers s) in
          let both : Sets = record { held = e.held; found = e.found } in
          let from : from_of y e ≡ node_at s st.place a = l.from ∙ st.node in
          let same : both ≡ a =
          λ k. record { held = (let z = from k in z.held); found = (let z = from k in z.found) } in
          ap (λ (z : Edge). target_sets z.op e.answer both) (same_edge o l)
          ∙ ap (λ (z : Sets). target_sets asked.edge.op e.answer z) same
          ∙ asks_sets h.next asked.edge.op st.memory.temps asked.temps
          (answered_asks y.laid h.next ans h.value h.fits)
          (asks_by y.laid asked.edge.op st.memory.temps h.next asked.temps asked.asks) e.answer ans told a
          ∙ sym (sets_snoc (D.answers s) (X s) ans (record { held = 0; found = 0 })
          ∙ ap (λ z. sets_with z ans a) next_is)

      -- from behind the edge on
      behind : (o : Acting ℕ ℕ) (l : Leaves S N s (q s) o) → (let e = l.edge in Told h.next e.answer ans)
          → (let e = l.edge in IsThere s (to_of y e) (asked.temps h.value))
          → IsPassed s (D.answers s ++ ans ∷ []) node m.temps
      behind o l told there =
          let e : Copy y = l.edge in
          let sets : Sets = sets_after (X s) (D.answers s ++ ans ∷ []) in
          let to : e.edge.to ≡ h.to = ap (λ (z : Edge). z.to) (same_edge o l) ∙ asked.there in
          let path = sets_are o l told in
          let target : to_of y e ≡ node_at s h.to sets =
          λ k. record {
            task = l.actor k;
            place = to k;
            held = (let z = path k in z.held);
            found = (let z = path k in z.found);
          } in
          let first : Memory = h.after h.value in
          let given_now : asked.temps h.value ≡ first.temps = sym (asked.gives h.value) in
          let comes : Comes y.laid (G s) asked.edge.to (asked.temps h.value) =
          comes_by_answer st.comes asked.edge asked.leaves h.next asked.temps asked.asks ans h.value h.fits in
          goes_far s (D.answers s ++ ans ∷ []) h.to first node m refl h.behind
          (record {
            there = subst (λ r. IsThere s r first.temps) target
                (subst (λ g. IsThere s (to_of y e) g) given_now there);
            comes = subst (λ z. Comes y.laid (G s) z first.temps) asked.there
                (subst (λ g. Comes y.laid (G s) asked.edge.to g) given_now comes);
          })

      told_by : (a : Action S ℕ) → N.next s (D.answers s) ≡ a → IsNoProbe a → (b : Bool) → Told h.next b ans
      told_by a is none b =
          subst (λ z. Told z b ans) next_is
          (told_plain (X s (D.answers s)) (subst IsNoProbe (sym is) none) b ans)

    -- ### Kinds of steps

    same_memory : (D' : AWorld S N) → SameContent S N D D' → (s : Task y) (z : Situation S)
        → IsSameMemory S w (moved D'.content w s z)
    same_memory D' same s z c = same c ∙ sym (image.content c)

    module _ (D' : AWorld S N) (s : Task y) (node : ℕ) (m : Memory) where
      abbrev Comes_by : Answer → Type 0
      Comes_by ans = Reaches y.laid (G s) 0 at_entry (D.answers s ++ ans ∷ []) node m

      abbrev Passed_by : Answer → Type 0
      Passed_by ans = IsPassed s (D.answers s ++ ans ∷ []) node m.temps

      load_behind : (c : ℕ) (v : Value) → N.next s (D.answers s) ≡ a_load c
          → Reads S (S.abstract_cell c) (D.content c) v → D.status s ≡ ready → IsTop S N D s → SameContent S N D D'
          → Comes_by (Given v) → Passed_by (Given v)
      load_behind c v is reads runs top same come =
          let x = lowered.at_load s (D.answers s) (q s) (f s) c (stands s) is in
          let l : Leaves S N s (q s) (load x.0 x.1) = x.2 in
          let e : Copy y = l.edge in
          let form = is_load e.edge.op e.answer x.0 x.1 l.operation in
          let g : Temps = put_at x.1 v (f s) in
          let r : HasAsked y.laid (G s) 0 at_entry (D.answers s) (Given v) node m = h s (Given v) node m come in
          let is_temps = temps_are s (Given v) node m come (load x.0 x.1) l v
          (given_same y.laid r.next v r.value r.fits)
          ∙ ap (λ z. kept_with (given_by z) v (f s)) form.2 in
          let step : GraphStep S w (moved D'.content w s (at S (to_of y e) g ready)) =
          loads e (f s) x.0 x.1 c v l.operation (runs_there s (load x.0 x.1) l runs top) x.3
          (subst (λ k. Reads S (S.abstract_cell c) k v) (sym (image.content c)) reads)
          (moves D'.content w s (at S (to_of y e) g ready) e.actor l.actor)
          (same_memory D' same s (at S (to_of y e) g ready)) in
          behind s (Given v) node m come (load x.0 x.1) l
          (told_by s (Given v) node m come (a_load c) is tt e.answer)
          (subst (λ t. IsThere s (to_of y e) t) (sym is_temps)
          (stepped s D'.content (to_of y e) g ready awake_ready step))

      -- a value that is chosen
      chosen : (v : Value) (come : Comes_by (Given v)) (o : Acting ℕ ℕ) (l : Leaves S N s (q s) o)
          → N.may_choose s (D.answers s) v
          → (let r = h s (Given v) node m come in let a = asked s (Given v) node m come in
          S.does l.edge (f s) (a.temps r.value))
      chosen v come o l may =
          let e : Copy y = l.edge in
          let r : HasAsked y.laid (G s) 0 at_entry (D.answers s) (Given v) node m = h s (Given v) node m come in
          let t : Stands y next_of s (D.answers s) (q s) (f s) = stands s in
          let a : Waits y.laid (G s) t.place t.memory r.next r.to r.after = asked s (Given v) node m come in
          let asks_there : effect y.laid e.edge.op (f s) ≡ Asks r.next a.temps =
          ap (λ (z : Edge). effect y.laid z.op (f s)) (same_edge s (Given v) node m come o l)
          ∙ ap (effect y.laid a.edge.op) t.temps ∙ a.asks in
          by_choice r.next a.temps r.value asks_there
          (subst (λ u. MayChoose y.laid r.next u) (sym (given_same y.laid r.next v r.value r.fits))
          (subst (λ n. MayChoose y.laid n v) (next_is s (Given v) node m come) may)) refl

      load_any_behind : (c : ℕ) (v : Value) → N.next s (D.answers s) ≡ a_load_any c → N.may_choose s (D.answers s) v
          → D.status s ≡ ready → IsTop S N D s → SameContent S N D D' → Comes_by (Given v) → Passed_by (Given v)
      load_any_behind c v is may runs top same come =
          let x = lowered.at_load_any s (D.answers s) (q s) (f s) c (stands s) is in
          let l : Leaves S N s (q s) (load_any x.0) = x.1 in
          let e : Copy y = l.edge in
          let r : HasAsked y.laid (G s) 0 at_entry (D.answers s) (Given v) node m = h s (Given v) node m come in
          let t : Stands y next_of s (D.answers s) (q s) (f s) = stands s in
          let a : Waits y.laid (G s) t.place t.memory r.next r.to r.after = asked s (Given v) node m come in
          let g : Temps = a.temps r.value in
          let step : GraphStep S w (moved D'.content w s (at S (to_of y e) g ready)) =
          loads_any e (f s) g x.0 c l.operation (runs_there s (load_any x.0) l runs top) x.2
          (chosen v come (load_any x.0) l may)
          (moves D'.content w s (at S (to_of y e) g ready) e.actor l.actor)
          (same_memory D' same s (at S (to_of y e) g ready)) in
          behind s (Given v) node m come (load_any x.0) l
          (told_by s (Given v) node m come (a_load_any c) is tt e.answer)
          (stepped s D'.content (to_of y e) g ready awake_ready step)

      choose_behind : (v : Value) → N.next s (D.answers s) ≡ a_choose → N.may_choose s (D.answers s) v
          → D.status s ≡ ready → IsTop S N D s → SameContent S N D D' → Comes_by (Given v) → Passed_by (Given v)
      choose_behind v is may runs top same come =
          let x = lowered.at_choose s (D.answers s) (q s) (f s) (stands s) is in
          let l : Leaves S N s (q s) calculation = x.0 in
          let e : Copy y = l.edge in
          let r : HasAsked y.laid (G s) 0 at_entry (D.answers s) (Given v) node m = h s (Given v) node m come in
          let t : Stands y next_of s (D.answers s) (q s) (f s) = stands s in
          let a : Waits y.laid (G s) t.place t.memory r.next r.to r.after = asked s (Given v) node m come in
          let g : Temps = a.temps r.value in
          let step : GraphStep S w (moved D'.content w s (at S (to_of y e) g ready)) =
          calculate e (f s) g ready l.operation (runs_there s calculation l runs top).here awake_ready
          (chosen v come calculation l may)
          (moves D'.content w s (at S (to_of y e) g ready) e.actor l.actor)
          (same_memory D' same s (at S (to_of y e) g ready)) in
          behind s (Given v) node m come calculation l (told_by s (Given v) node m come a_choose is tt e.answer)
          (stepped s D'.content (to_of y e) g ready awake_ready step)

      -- an action that gives nothing
      done_behind : (a : Action S ℕ) → N.next s (D.answers s) ≡ a → IsNoProbe a → (o : Acting ℕ ℕ)
          (l : Leaves S N s (q s) o) → (let e = l.edge in let g = e.edge in given_by g.op ≡ None)
          → (base : Status ℕ) → IsAwake S base → (κ : ℕ → AContent Value)
          → GraphStep S w (moved κ w s (at S (to_of y l.edge) (f s) base)) → Comes_by Done → Passed_by Done
      done_behind a is none o l nothing_given base awake κ step come =
          let e : Copy y = l.edge in
          let r : HasAsked y.laid (G s) 0 at_entry (D.answers s) Done node m = h s Done node m come in
          let is_temps = temps_are s Done node m come o l r.value refl
          ∙ ap (λ z. kept_with z r.value (f s)) nothing_given in
          behind s Done node m come o l (told_by s Done node m come a is none e.answer)
          (subst (λ t. IsThere s (to_of y e) t) (sym is_temps)
          (stepped s κ (to_of y e) (f s) base awake step))

      store_behind : (c : ℕ) (v : Value) → N.next s (D.answers s) ≡ a_store c v → D.status s ≡ ready → IsTop S N D s
          → D'.content c ≡ given v → ((d : ℕ) → (d ≡ c → ⊥) → D'.content d ≡ D.content d) → Comes_by Done
          → Passed_by Done
      store_behind c v is runs top written else =
          let x = lowered.at_store s (D.answers s) (q s) (f s) c v (stands s) is in
          let l : Leaves S N s (q s) (store x.0 x.1) = x.2 in
          let e : Copy y = l.edge in
          let form = is_store e.edge.op e.answer x.0 x.1 l.operation in
          done_behind (a_store c v) is tt (store x.0 x.1) l (ap given_by form.3) ready awake_ready D'.content
          (stores e (f s) x.0 x.1 c l.operation (runs_there s (store x.0 x.1) l runs top) x.3
          (moves D'.content w s (at S (to_of y e) (f s) ready) e.actor l.actor)
          (written ∙ ap given (sym x.4)) (λ d not. else d not ∙ sym (image.content d)))

      clear_behind : (o : ℕ) → N.next s (D.answers s) ≡ a_clear o → D.status s ≡ ready → IsTop S N D s
          → ((c : ℕ) → N.part o c → D'.content c ≡ S.cleared c)
          → ((c : ℕ) → (N.part o c → ⊥) → D'.content c ≡ D.content c) → Comes_by Done → Passed_by Done
      clear_behind o is runs top inside outside =
          let x = lowered.at_clear s (D.answers s) (q s) (f s) o (stands s) is in
          let l : Leaves S N s (q s) clear = x.0 in
          let e : Copy y = l.edge in
          let form = is_clear e.edge.op e.answer l.operation in
          done_behind (a_clear o) is tt clear l (ap given_by form.1) ready awake_ready D'.content
          (clearing e (f s) l.operation (runs_there s clear l runs top)
          (moves D'.content w s (at S (to_of y e) (f s) ready) e.actor l.actor)
          (λ c k. inside c ((x.1 c).0 k)) (λ c not. outside c (λ k. not ((x.1 c).1 k)) ∙ sym (image.content c)))

      lock_behind : (k : ℕ) → N.next s (D.answers s) ≡ a_lock k → IsHeldFree S N D k → D.status s ≡ ready
          → IsTop S N D s → SameContent S N D D' → Comes_by Done → Passed_by Done
      lock_behind k is free runs top same =
          let x = lowered.at_lock s (D.answers s) (q s) (f s) k (stands s) is in
          let l : Leaves S N s (q s) (lock k) = x.0 in
          let e : Copy y = l.edge in
          let form = is_lock e.edge.op e.answer k l.operation in
          done_behind (a_lock k) is tt (lock k) l (ap given_by form.1) ready awake_ready D'.content
          (locks e (f s) k l.operation (runs_there s (lock k) l runs top) (free_there k free)
          (moves D'.content w s (at S (to_of y e) (f s) ready) e.actor l.actor)
          (same_memory D' same s (at S (to_of y e) (f s) ready)))

      unlock_behind : (k : ℕ) → N.next s (D.answers s) ≡ a_unlock k → S.Has (D.held s) k → D.status s ≡ ready
          → IsTop S N D s → SameContent S N D D' → Comes_by Done → Passed_by Done
      unlock_behind k is mine runs top same =
          let x = lowered.at_unlock s (D.answers s) (q s) (f s) k (stands s) is in
          let l : Leaves S N s (q s) (unlock k) = x.0 in
          let e : Copy y = l.edge in
          let form = is_unlock e.edge.op e.answer k l.operation in
          let z : Situation S = at S (to_of y e) (f s) ready in
          done_behind (a_unlock k) is tt (unlock k) l (ap given_by form.1) ready awake_ready D'.content
          (unlocks e (f s) k l.operation (runs_there s (unlock k) l runs top)
          (subst (λ (r : Node y). S.Has r.held k) (sym l.from) (((image.sits s).held k).1 mine))
          (moved_here D'.content w s z e.actor l.actor)
          (λ i not. record {
            node = ap (λ (u : Situation S). u.node)
                (moved_there D'.content w s z i (λ same. not (same ∙ sym l.actor)));
            temps = ap (λ (u : Situation S). u.temps)
                (moved_there D'.content w s z i (λ same. not (same ∙ sym l.actor)));
            status = inl (ap (λ (u : Situation S). u.status)
                (moved_there D'.content w s z i (λ same. not (same ∙ sym l.actor))));
          })
          (same_memory D' same s z))

      yield_behind : N.next s (D.answers s) ≡ a_yield → D.status s ≡ ready → IsTop S N D s → SameContent S N D D'
          → Comes_by Done → Passed_by Done
      yield_behind is runs top same =
          let x = lowered.at_yield s (D.answers s) (q s) (f s) (stands s) is in
          let l : Leaves S N s (q s) yields = x.0 in
          let e : Copy y = l.edge in
          let form = is_yield e.edge.op e.answer l.operation in
          done_behind a_yield is tt yields l (ap given_by form) waiting awake_waiting D'.content
          (waits e (f s) l.operation (runs_there s yields l runs top)
          (moves D'.content w s (at S (to_of y e) (f s) waiting) e.actor l.actor)
          (same_memory D' same s (at S (to_of y e) (f s) waiting)))

      -- what a probe has been told
      probe_told : (k : ℕ) (b : Bool) → N.next s (D.answers s) ≡ a_probe k → (come : Comes_by (Given (S.bit b)))
          → (c : Bool) → c ≡ b → (let r = h s (Given (S.bit b)) node m come in Told r.next c (Given (S.bit b)))
      probe_told k b is come c same =
          subst (λ z. Told z c (Given (S.bit b))) (next_is s (Given (S.bit b)) node m come)
          (by (X s (D.answers s)) is)
        where
          by : (n : Next) → action_of y n ≡ a_probe k → Told n c (Given (S.bit b))
          by (Acts.Probe j p) e = bit_told b ∙ sym same
          by n e = tt

      held_behind : (k : ℕ) → N.next s (D.answers s) ≡ a_probe k → (IsHeldFree S N D k → ⊥) → D.status s ≡ ready
          → IsTop S N D s → SameContent S N D D' → Comes_by (Given (S.bit true)) → Passed_by (Given (S.bit true))
      held_behind k is busy runs top same come =
          let x = lowered.at_held s (D.answers s) (q s) (f s) k (stands s) is in
          let l : Leaves S N s (q s) (probe k x.0 true) = x.1 in
          let e : Copy y = l.edge in
          let form = is_probe e.edge.op e.answer k x.0 true l.operation in
          let g : Temps = put_at x.0 (S.bit true) (f s) in
          let r : HasAsked y.laid (G s) 0 at_entry (D.answers s) (Given (S.bit true)) node m =
          h s (Given (S.bit true)) node m come in
          let is_temps = temps_are s (Given (S.bit true)) node m come (probe k x.0 true) l (S.bit true)
          (given_same y.laid r.next (S.bit true) r.value r.fits)
          ∙ ap (λ z. kept_with (given_by z) (S.bit true) (f s)) form.1 in
          let step : GraphStep S w (moved D'.content w s (at S (to_of y e) g ready)) =
          finds_held e (f s) k x.0 l.operation (runs_there s (probe k x.0 true) l runs top) (busy_there k busy)
          (moves D'.content w s (at S (to_of y e) g ready) e.actor l.actor)
          (same_memory D' same s (at S (to_of y e) g ready)) in
          behind s (Given (S.bit true)) node m come (probe k x.0 true) l (probe_told k true is come e.answer form.2)
          (subst (λ t. IsThere s (to_of y e) t) (sym is_temps)
          (stepped s D'.content (to_of y e) g ready awake_ready step))

      free_behind : (k : ℕ) → N.next s (D.answers s) ≡ a_probe k → IsHeldFree S N D k → D.status s ≡ ready
          → IsTop S N D s → SameContent S N D D' → Comes_by (Given (S.bit false)) → Passed_by (Given (S.bit false))
      free_behind k is free runs top same come =
          let x = lowered.at_free s (D.answers s) (q s) (f s) k (stands s) is in
          let l : Leaves S N s (q s) (probe k x.0 false) = x.1 in
          let e : Copy y = l.edge in
          let form = is_probe e.edge.op e.answer k x.0 false l.operation in
          let g : Temps = put_at x.0 (S.bit false) (f s) in
          let r : HasAsked y.laid (G s) 0 at_entry (D.answers s) (Given (S.bit false)) node m =
          h s (Given (S.bit false)) node m come in
          let is_temps = temps_are s (Given (S.bit false)) node m come (probe k x.0 false) l (S.bit false)
          (given_same y.laid r.next (S.bit false) r.value r.fits)
          ∙ ap (λ z. kept_with (given_by z) (S.bit false) (f s)) form.1 in
          let step : GraphStep S w (moved D'.content w s (at S (to_of y e) g ready)) =
          finds_free e (f s) k x.0 l.operation (runs_there s (probe k x.0 false) l runs top) (free_there k free)
          (moves D'.content w s (at S (to_of y e) g ready) e.actor l.actor)
          (same_memory D' same s (at S (to_of y e) g ready)) in
          behind s (Given (S.bit false)) node m come (probe k x.0 false) l (probe_told k false is come e.answer form.2)
          (subst (λ t. IsThere s (to_of y e) t) (sym is_temps)
          (stepped s D'.content (to_of y e) g ready awake_ready step))

    -- ### All steps

    turned : (D' : AWorld S N) (s : Task y) (ans : Answer) → D'.answers s ≡ D.answers s ++ ans ∷ []
        → ((i : Task y) → (i ≡ s → ⊥) → D'.answers i ≡ D.answers i) → AllPassed D
        → PassedWith s (D.answers s ++ ans ∷ []) → AllPassed D'
    turned D' s ans is others old new i = by_case (S.same_task i s)
      where
        by_case : Dec (i ≡ s) → PassedWith i (D'.answers i)
        by_case (yes e) = subst (λ j. PassedWith j (D'.answers j)) (sym e) (subst (PassedWith s) (sym is) new)
        by_case (no d) = subst (PassedWith i) (sym (others i d)) (old i)

    pub step_passes : (D' : AWorld S N) → Step S N D D' → AllPassed D → AllPassed D'
    step_passes D' (step_wakes s was runs others answers held same) old i =
        subst (PassedWith i) (sym (answers i)) (old i)
    step_passes D' (step_blocks s k is not_mine busy runs top now others answers held same) old i =
        subst (PassedWith i) (sym (answers i)) (old i)
    step_passes D' (step_spins s is runs top status answers held same) old i =
        subst (PassedWith i) (sym (answers i)) (old i)
    step_passes D' (step_loads s c v is reads typed turn others held same) old i =
        turned D' s (Given v) turn.answers turn.others_answers old
        (λ node m come. load_behind D' s node m c v is reads turn.runs turn.top same come) i
    step_passes D' (step_loads_any s c v is may turn others held same) old i =
        turned D' s (Given v) turn.answers turn.others_answers old
        (λ node m come. load_any_behind D' s node m c v is may turn.runs turn.top same come) i
    step_passes D' (step_chooses s v is may turn others held same) old i =
        turned D' s (Given v) turn.answers turn.others_answers old
        (λ node m come. choose_behind D' s node m v is may turn.runs turn.top same come) i
    step_passes D' (step_stores s c v is turn others held written else) old i =
        turned D' s Done turn.answers turn.others_answers old
        (λ node m come. store_behind D' s node m c v is turn.runs turn.top written else come) i
    step_passes D' (step_clears s o is turn others held inside outside) old i =
        turned D' s Done turn.answers turn.others_answers old
        (λ node m come. clear_behind D' s node m o is turn.runs turn.top inside outside come) i
    step_passes D' (step_locks s k is free turn others held same) old i =
        turned D' s Done turn.answers turn.others_answers old
        (λ node m come. lock_behind D' s node m k is free turn.runs turn.top same come) i
    step_passes D' (step_unlocks s k is mine turn others held same) old i =
        turned D' s Done turn.answers turn.others_answers old
        (λ node m come. unlock_behind D' s node m k is mine turn.runs turn.top same come) i
    step_passes D' (step_yields s is turn others held same) old i =
        turned D' s Done turn.answers turn.others_answers old
        (λ node m come. yield_behind D' s node m is turn.runs turn.top same come) i
    step_passes D' (step_finds_held s k is busy turn others held same) old i =
        turned D' s (Given (S.bit true)) turn.answers turn.others_answers old
        (λ node m come. held_behind D' s node m k is busy turn.runs turn.top same come) i
    step_passes D' (step_finds_free s k is free turn others held same) old i =
        turned D' s (Given (S.bit false)) turn.answers turn.others_answers old
        (λ node m come. free_behind D' s node m k is free turn.runs turn.top same come) i
