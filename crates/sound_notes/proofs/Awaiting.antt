-- Where the run of a body comes to an edge that waits for an answer, the body stands: its next action is what the edge
-- asks; of its own cells none that is open is stored in the state of a solution there; and what it may read holds values
-- of this state, or of what other tasks wrote.
use Rattle.std.proofs.Common.{◌≡◌, inl, inr, refl, sym, ap, subst, ◌∙◌, ℕ, suc, ◌<◌, ◌≤◌, ◌^◌, Bool, true, false, List}
use Rattle.std.proofs.Common.{[], ◌∷◌, length, Option, Some}
use Rattle.std.specs.Prelude.{cond, nat_lt}
use Rattle.std.proofs.lemmas.Bool.{lt-ltb}
use Rattle.sound_tables.specs.tm_laid.Layouts.{LaidTree}
use Rattle.sound_tables.specs.concrete_values.declared.values.Value.{Value}
use Rattle.sound_tables.specs.concrete_values.declared.actions.Next.{Next}
use Rattle.sound_tables.specs.concrete_values.declared.actions.Next.TheVariants as Acts
use Rattle.sound_tables.specs.concrete_steps.declared.worlds.Content.{Content}
use Rattle.sound_tables.specs.concrete_steps.declared.worlds.Content.TheVariants.{Open, Is as Holding}
use Rattle.sound_tables.specs.concrete_steps.declared.worlds.Status.{Status}
use Rattle.sound_tables.specs.concrete_steps.declared.worlds.Status.TheVariants.{Done}
use Rattle.sound_tables.specs.concrete_steps.NextAction.{next}
use Rattle.sound_tables.specs.concrete_steps.Worlds.{World, standing, answers_of, holds, next_at}
use Rattle.sound_tables.specs.concrete_steps.Moves.{content_of, status_of}
use Rattle.sound_tables.specs.concrete_steps.Occurring.{IsReached}
use Rattle.sound_tables.specs.flow_graph.declared.graphs.Edge.{Edge}
use Rattle.sound_tables.specs.flow_graph.declared.operations.Operation.{Operation}
use Rattle.sound_tables.specs.flow_graph.declared.operations.Operation.TheVariants as Op
use Rattle.sound_tables.specs.flow_graph.Graphs.{Edges, Among, leaving, Leaves, IsSure, IsOpposite, IsFork, IsPlain}
use Rattle.sound_tables.specs.flow_graph.Operations.{Temps, Asks, effect}
use Rattle.sound_tables.specs.flow_graph.Runs.{Memory, arrive, Awaits, Halts, move_by, move_along, move, at_entry}
use Rattle.sound_tables.specs.flow_graph.Positions.{Is, StandsAt, Reaches}
use Rattle.sound_tables.specs.mutex_configs.Sets.{has}
use Rattle.sound_tables.specs.interfere_set.Stores.{Interferences}
use Rattle.sound_tables.specs.transfer_rows.StateForms.{State, own_of}
use Rattle.sound_tables.specs.transfer_rows.Covering.{IsStored}
use Rattle.sound_tables.specs.program_reports.pointer_dom.Values.{IsValueIn}
use Rattle.sound_tables.specs.program_reports.table_covers.Solutions.{NodeTable}
use Rattle.sound_tables.specs.program_equations.Programs.{ProgramBodies, body_at, IsProgram}
use Rattle.sound_tables.specs.program_equations.Solutions.{tables_of as lists_of, IsPair}
use Rattle.sound_tables.specs.tm_soundness.Shape.{given, open_cell}
use Rattle.sound_tables.specs.tm_soundness.WholeWorlds.{main_of}
use Rattle.sound_tables.specs.tm_soundness.GraphWorlds.{done}
use Rattle.sound_tables.specs.tm_soundness.Numbered.{TaskOf}
use Rattle.sound_tables.specs.program_shape.Shape.{Parts, Node, Has, IsOwned, abstract_of_cell}
use Rattle.sound_tables.specs.Programs.{part_of, parts_of, section_alone}
use Rattle.sound_tables.specs.Memberships.{HasState, found_at, number_at, state_at, scalar_as}
use Rattle.sound_runs.specs.Images.{content_as, contents_as, status_as, held_as}
use Rattle.sound_runs.specs.Programs.{shape_in, section_in, source_in, section_source_in}
use Rattle.sound_runs.specs.Known.{tasks_in, whole_in}
use Rattle.sound_runs.specs.Sources.{Stands}
use Rattle.sound_runs.proofs.Moved.{next_is}
use Rattle.sound_runs.proofs.Ways.{asks_sure, among_leaving}
use Rattle.sound_core.specs.Sound.{IsProgramFrom}
use Rattle.sound_core.specs.Places.{MayAct, section_acts, task_acts_after, task_acts}
use Rattle.sound_core.proofs.Known.{known}
use Rattle.sound_core.proofs.GroupedAccesses.{good, tasks_known, task_of, holding}
use Rattle.sound_notes.specs.Passes.{node_now, sets_now}
use Rattle.sound_notes.proofs.OneStand.{one_stand}
use Rattle.sound_notes.proofs.Members.{MayRead, IsFromOthers, IsRead, task_reads, section_reads}

-- ## The move along an edge that asks

alone_by : (l : Edges) → IsFork l → (e : Edge) → IsSure e.op → Among e l → l ≡ e ∷ []
alone_by [] h e s a = absurd a
alone_by (x ∷ []) h e s (inl a) = ap (λ (z : Edge). z ∷ []) a
alone_by (x ∷ []) h e s (inr a) = absurd a
alone_by (x ∷ y ∷ []) h e s (inl a) =
    absurd (test_sure x.op y.op h (subst (λ (z : Edge). IsSure z.op) (sym a) s))
  where
    test_sure : (o u : Operation) → IsOpposite o u → IsSure o → ⊥
    test_sure (Op.Assume test) u k s = absurd s
    test_sure o u k s = absurd k
alone_by (x ∷ y ∷ []) h e s (inr (inl a)) =
    absurd (other_sure x.op y.op h (subst (λ (z : Edge). IsSure z.op) (sym a) s))
  where
    other_sure : (o u : Operation) → IsOpposite o u → IsSure u → ⊥
    other_sure (Op.Assume test) u k s = subst IsSure k.1 s
    other_sure o u k s = absurd k
alone_by (x ∷ y ∷ []) h e s (inr (inr a)) = absurd a
alone_by (x ∷ y ∷ z ∷ l) h e s a = absurd h

module _ (laid : LaidTree) (g : Edges) (plain : IsPlain g) (node : ℕ) (m : Memory) (e : Edge) (leaves : Leaves g node e)
    (n : Next) (f : Value → Temps) (asks : effect laid e.op m.temps ≡ Asks n f) where
  pub awaits : move laid g node m ≡ Awaits n e.to (λ v. arrive e.to (suc m.used) (f v) m)
  awaits =
      ap (λ l. move_along laid l m)
      (alone_by (leaving g node) (plain node) e (asks_sure laid e.op m.temps n f asks)
      (among_leaving g node e leaves.from leaves.among))
      ∙ ap (λ k. move_by k e m (Halts Acts.Ended)) asks

-- ## Where the body stands, and what it holds

bool_same : (a b : Bool) → (a ≡ true → b ≡ true) → (b ≡ true → a ≡ true) → a ≡ b
bool_same true b f g = sym (f refl)
bool_same false true f g = g refl
bool_same false false f g = refl

open_as : (b : Bool) (k : Content) → k ≡ Open → cond b (content_as k) open_cell ≡ open_cell
open_as true k e = ap content_as e
open_as false k e = refl

held_as_given : (b : Bool) (k : Content) (v : Value) → b ≡ true → k ≡ Holding v → cond b (content_as k) open_cell ≡ given v
held_as_given true k v lt e = ap content_as e
held_as_given false k v lt e = absurd (cc)

module _ (laid : LaidTree) (p : ProgramBodies) (tables : ℕ → NodeTable State) (store : Interferences) (w : World) where
  -- of the body's own cells none that is open is stored in a state at this place
  abbrev pub OpenUnstored : ℕ → ℕ → Type 0
  OpenUnstored t place = (cell : ℕ) → IsOwned p.laid (abstract_of_cell p.laid cell) t → content_of w cell ≡ Open
      → (s : State) → found_at (tables t) (number_at p t (node_now laid w t place)) ≡ Some s
      → IsStored s (abstract_of_cell p.laid cell) → ⊥

  -- the value is one of the abstract cell in a state at this place, or another task wrote it
  pub data IsMember (t place x : ℕ) (v : Value) : Type 0 where
    in_state : (s : State) → found_at (tables t) (number_at p t (node_now laid w t place)) ≡ Some s
        → IsValueIn (own_of s x) (scalar_as v) → IsMember t place x v
    in_store : IsFromOthers store t x v → IsMember t place x v

  -- so is each value in a cell that the body may read
  abbrev pub AreMembers : ℕ → ℕ → Type 0
  AreMembers t place = (cell : ℕ) (v : Value) → cell < length laid.cells → MayRead p t cell
      → content_of w cell ≡ Holding v → IsMember t place (abstract_of_cell p.laid cell) v

  pub record IsStanding (t : ℕ) : Type 0 where
    pub place : ℕ
    pub memory : Memory
    pub stands : (let b = body_at p t in StandsAt p.laid b.edges (next laid t) (answers_of w t) place memory)
    pub holds_now : (j : ℕ) → j < 16 → (let s = sets_now laid w t in has s.held j ≡ holds j (standing w t))
    pub unstored : OpenUnstored t place
    pub members : AreMembers t place

  -- A task of the theorem's stands so, which holds the same; of its own cells none that is open is stored, and what it
  -- may read holds what is known there.
  module _ (n : ℕ) (number : TaskOf n → ℕ) (rank : ℕ → ℕ) (i : TaskOf n) (q : Node (part_of p n number rank))
      (f : Temps) (st : Stands (part_of p n number rank) (next laid) i (answers_of w (number i)) q f) (h : ℕ)
      (same : (j : ℕ) → (Has q.held j → Has h j) × (Has h j → Has q.held j))
      (is : (j : ℕ) → j < 16 → has h j ≡ holds j (standing w (number i)))
      (none : (cell : ℕ) → IsOwned p.laid (abstract_of_cell p.laid cell) (number i)
      → contents_as laid w cell ≡ open_cell
      → HasState (state_at p n number rank tables q) (λ s. IsStored s (abstract_of_cell p.laid cell)) → ⊥)
      (reads : (cell : ℕ) (v : Value) → MayRead p (number i) cell → contents_as laid w cell ≡ given v
      → IsRead p tables store n number rank i q (abstract_of_cell p.laid cell) v) where
    member : (y : ℕ) (v : Value) → IsRead p tables store n number rank i q y v → IsMember (number i) st.place y v
    member y v (inl own) =
        in_state own.state (sym (ap (state_at p n number rank tables) st.node) ∙ own.is) own.holds
    member y v (inr others) = in_store others

    standing_by : IsStanding (number i)
    standing_by = record {
      place = st.place;
      memory = st.memory;
      stands = st.stands;
      holds_now = λ j lt.
          ap (λ (z : Node (part_of p n number rank)). has z.held j) (sym st.node)
          ∙ bool_same (has q.held j) (has h j) (λ k. ((same j).0 (record { small = lt; is = k })).is)
          (λ k. ((same j).1 (record { small = lt; is = k })).is)
          ∙ is j lt;
      unstored = λ cell own is_open s at stored.
          none cell own (open_as (nat_lt cell (length laid.cells)) (content_of w cell) is_open)
          (record { state = s; is = ap (state_at p n number rank tables) st.node ∙ at; holds = stored });
      members = λ cell v lt may holds.
          member (abstract_of_cell p.laid cell) v
          (reads cell v may
          (held_as_given (nat_lt cell (length laid.cells)) (content_of w cell) v (lt-ltb cell (length laid.cells) lt)
          holds));
    }

module _ (laid : LaidTree) (p : ProgramBodies) (from : IsProgramFrom laid p) (is : IsProgram p)
    (few : length laid.objects ≤ 2 ^ 32) (tables : List (List (Option State))) (store : Interferences)
    (pair : IsPair p tables store) (w : World) (reached : IsReached laid w) where
  abbrev x : Parts
  x = parts_of p

  abbrev count : p.tasks ≡ length laid.file.tasks
  count = (let of = from.is in of.tasks)

  is_done_status : (st : Status) → status_as st ≡ done → st ≡ Done
  is_done_status Done e = refl
  is_done_status st e = absurd (cc)

  abbrev pub StandsNow : ℕ → Type 0
  StandsNow = IsStanding laid p (lists_of tables) store w

  task_stands : (task : ℕ) → task < length laid.file.tasks → MayAct laid w task → StandsNow task
  task_stands task lt may =
      let t = task_of laid p from is few tables store pair w reached task lt in
      let all = tasks_known laid p from is few tables store pair w reached task lt may in
      let k = all.1 in
      let kept = k.kept in
      let z = (let v = kept.world in v.situation t.task) in
      let image = kept.image in
      let parts = kept.parts in
      subst StandsNow t.is
      (standing_by laid p (lists_of tables) store w p.tasks x.number x.rank t.task z.node z.temps (k.stands t.task)
      (held_as w (x.number t.task)) (image.sits t.task).held
      (holding laid p from is few tables store pair w reached t.task)
      (λ cell own is_open. parts.open_unstored t.task cell own (image.content cell ∙ is_open))
      (λ cell v mine holds.
      task_reads laid p (lists_of tables) store all.0 (tasks_in laid x w) k t.task cell v holds mine))

  pub all_stand : (t : ℕ) → MayAct laid w t → StandsNow t
  all_stand t (task_acts none task lt) = task_stands task lt (task_acts none task lt)
  all_stand t (task_acts_after main main_is over task lt) =
      task_stands task lt (task_acts_after main main_is over task lt)
  all_stand t (section_acts main main_is not) =
      let all = known laid p from is few tables store pair main main_is w reached in
      let still : status_of w p.tasks ≡ Done → ⊥ = λ e. not (ap (status_of w) (sym count) ∙ e) in
      let k = (let a = all.known in a.before (λ e. still (is_done_status (status_of w p.tasks) e))).0 in
      let kept = k.kept in
      let z = (let v = kept.world in v.situation tt) in
      let image = kept.image in
      let parts = kept.parts in
      let s = section_alone p in
      subst StandsNow count
      (standing_by laid p (lists_of tables) store w 1 s.number s.rank tt z.node z.temps (k.stands tt) all.held
      (image.sits tt).held (λ j lt. all.same still j lt)
      (λ cell own is_open. parts.open_unstored tt cell own (image.content cell ∙ is_open))
      (λ cell v mine holds.
      section_reads laid p (lists_of tables) store
      (main_of (shape_in laid x) (source_in laid x) (section_in laid x) (section_source_in laid x) (whole_in laid x w all.held))
      k cell v holds mine))

-- ## What it does next

module _ (laid : LaidTree) (p : ProgramBodies) (from : IsProgramFrom laid p) (is : IsProgram p)
    (few : length laid.objects ≤ 2 ^ 32) (tables : List (List (Option State))) (store : Interferences)
    (pair : IsPair p tables store) (w : World) (reached : IsReached laid w) (t : ℕ) (may : MayAct laid w t)
    (within : t < length p.bodies) (place : ℕ) (m : Memory)
    (come : (let b = body_at p t in Reaches p.laid b.edges 0 at_entry (answers_of w t) place m)) (e : Edge)
    (leaves : (let b = body_at p t in Leaves b.edges place e)) (n : Next) (f : Value → Temps)
    (asks : effect p.laid e.op m.temps ≡ Asks n f) where
  abbrev g : Edges
  g = (let b = body_at p t in b.edges)

  plain : IsPlain g
  plain = ((good laid p from is few tables store pair w reached).graphs t within).plain

  stand : IsStanding laid p (lists_of tables) store w t
  stand = all_stand laid p from is few tables store pair w reached t may

  waits : move p.laid g place m ≡ Awaits n e.to (λ v. arrive e.to (suc m.used) (f v) m)
  waits = awaits p.laid g plain place m e leaves n f asks

  -- the body stands where its run has come
  one : (let s = stand in (place ≡ s.place) × (m ≡ s.memory))
  one =
      let s = stand in
      let here : Is (move p.laid g place m) n = subst (λ v. Is v n) (sym waits) refl in
      one_stand p.laid g n (next laid t (answers_of w t)) come s.stands.0 here s.stands.1

  pub next_now : next_at laid w t ≡ n
  next_now =
      let s = stand in
      let there : Is (move p.laid g place m) (next laid t (answers_of w t)) =
      subst (λ l. Is (move p.laid g l m) (next laid t (answers_of w t))) (sym one.0)
      (subst (λ v. Is (move p.laid g s.place v) (next laid t (answers_of w t))) (sym one.1) s.stands.1) in
      next_is laid w t ∙ subst (λ v. Is v (next laid t (answers_of w t))) waits there

  pub unstored_now : OpenUnstored laid p (lists_of tables) store w t place
  unstored_now = let s = stand in subst (OpenUnstored laid p (lists_of tables) store w t) (sym one.0) s.unstored

  pub members_now : AreMembers laid p (lists_of tables) store w t place
  members_now = let s = stand in subst (AreMembers laid p (lists_of tables) store w t) (sym one.0) s.members
