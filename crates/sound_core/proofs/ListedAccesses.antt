-- An access that a task is about to make is one of the solution, and two that race race there.
use Rattle.std.proofs.Common.{◌≡◌, ◌⊎◌, inl, inr, refl, sym, ap, subst, ◌∙◌, ℕ, ◌<◌, Bool, true, false, length, Some}
use Rattle.std.proofs.Common.{⊎_elim, arith}
use Rattle.std.specs.Prelude.{IsTrue, get_or}
use Rattle.std.proofs.lemmas.Bool.{false≢true}
use Rattle.sound_tables.specs.tm_terms.declared.places.Place.{Place}
use Rattle.sound_tables.specs.tm_laid.Layouts.{LaidTree, cell_of}
use Rattle.sound_tables.specs.tm_typed.declared.types.Scalar.{Scalar}
use Rattle.sound_tables.specs.concrete_values.declared.values.Value.{Value}
use Rattle.sound_tables.specs.concrete_values.declared.actions.Next.{Next}
use Rattle.sound_tables.specs.concrete_values.declared.actions.Next.TheVariants as Acts
use Rattle.sound_tables.specs.concrete_steps.NextAction.{next}
use Rattle.sound_tables.specs.concrete_steps.Worlds.{World, standing, answers_of, holds, next_at}
use Rattle.sound_tables.specs.concrete_steps.Occurring.{IsAccess as IsAccessBy, IsRace, a_load_there}
use Rattle.sound_tables.specs.concrete_steps.Occurring.{a_store_there}
use Rattle.sound_tables.specs.flow_graph.declared.operations.Operation.{Operation as GraphOperation}
use Rattle.sound_tables.specs.flow_graph.declared.operations.Operation.TheVariants as Op
use Rattle.sound_tables.specs.flow_graph.Operations.{Temps}
use Rattle.sound_tables.specs.mutex_configs.declared.nodes.ConfiguredNode.{ConfiguredNode}
use Rattle.sound_tables.specs.mutex_configs.Sets.{has}
use Rattle.sound_tables.specs.transfer_rows.StateForms.{State}
use Rattle.sound_tables.specs.program_reports.table_covers.Solutions.{NodeTable}
use Rattle.sound_tables.specs.program_equations.Programs.{ProgramBodies, body_at, IsProgram}
use Rattle.sound_tables.specs.program_reports.Reports.{place_of, left_in, operation_in, IsAccess, AreRacing}
use Rattle.sound_tables.specs.program_reports.reading.Found.{is_writing}
use Rattle.sound_tables.specs.tm_soundness.Shape.{Shape, Content as AContent, store}
use Rattle.sound_tables.specs.tm_soundness.Tables.{Tables}
use Rattle.sound_tables.specs.tm_soundness.GraphWorlds.{Situation}
use Rattle.sound_tables.specs.tm_soundness.Shaped.{IsShaped}
use Rattle.sound_tables.specs.tm_soundness.Covers.{IsSolution}
use Rattle.sound_tables.specs.tm_soundness.Reports.{IsRaceListed}
use Rattle.sound_tables.specs.tm_soundness.Worlds.{Source, World as AWorld, IsLowered, a_store}
use Rattle.sound_tables.specs.tm_soundness.Worlds.{NextAccesses, next_loads, next_loads_any, next_stores, NextStores}
use Rattle.sound_tables.specs.tm_soundness.Known.{IsKnown}
use Rattle.sound_tables.specs.tm_soundness.Numbered.{TaskOf}
use Rattle.sound_tables.specs.program_shape.Shape.{Parts, Node, Copy, shape_of, from_of, operation_of}
use Rattle.sound_tables.specs.program_shape.Shape.{abstract_of_cell, number_of}
use Rattle.sound_tables.specs.Programs.{part_of, parts_of}
use Rattle.sound_tables.specs.Premises.{IsGraphOf}
use Rattle.sound_tables.specs.Memberships.{there, tables_with, tables_of, scalar_as}
use Rattle.sound_tables.specs.interfere_set.Stores.{Interferences}
use Rattle.sound_tables.specs.transfer_rows.Contributions.{entry_at}
use Rattle.sound_tables.specs.program_reports.pointer_dom.Values.{IsValueIn}
use Rattle.sound_tables.proofs.Alarms.{place_same, IsAt, is_at, task_within, at_copy, access_of, race_of, race_at_cell}
use Rattle.sound_addresses.specs.sound_runs.Sources.{source_of, action_of, place_of_next, sets_after, Stands}
use Rattle.sound_addresses.proofs.low.sound_runs.Moved.{next_is}
use Rattle.sound_core.proofs.NextEdges.{here, IsAccessEdge, AreRaceEdges, next_access, next_race}

-- ## What the code finds

module _ (laid : LaidTree) (p : ProgramBodies) (w : World) where
  -- the configured node has exactly the mutexes that the body holds, and those that it has found free
  pub record HasSets (t : ℕ) (q : ConfiguredNode) : Type 0 where
    pub holds : (m : ℕ) → m < 16 → has q.held m ≡ holds m (standing w t)
    pub found : (let s = sets_after (next laid t) (answers_of w t) in q.found ≡ s.found)

  -- the copy of an edge makes the access at the place, a store or not, under these mutexes
  pub record IsAbout (t k : ℕ) (stores : Bool) (place : Place) : Type 0 where
    pub sets : HasSets t (left_in p t k)
    pub placed : place_of (operation_in p t k) ≡ Some place
    pub kind : is_writing (operation_in p t k) ≡ stores

module _ (laid : LaidTree) (p : ProgramBodies) (tables : ℕ → NodeTable State) (w : World) where
  -- the access that a task is about to make is one to the cell's abstract cell
  pub record IsListedAccess (task cell : ℕ) (stores : Bool) (place : Place) : Type 0 where
    pub copy : ℕ
    pub about : IsAbout laid p w task copy stores place
    pub access : IsAccess p tables task copy (abstract_of_cell p.laid cell)

  -- two that race race there
  pub record IsListedRace (i j : ℕ) (place : Place) (r : IsRace laid w i j place) : Type 0 where
    pub one : IsListedAccess i (cell_of p.laid r.object r.offset) r.stores place
    pub other : IsListedAccess j (cell_of p.laid r.object r.offset) r.other_stores r.other_place
    pub racing : AreRacing p tables i one.copy j other.copy
    pub cell : racing.cell ≡ abstract_of_cell p.laid (cell_of p.laid r.object r.offset)

-- ## Truth values

bool_same : (a b : Bool) → (a ≡ true → b ≡ true) → (b ≡ true → a ≡ true) → a ≡ b
bool_same true b f g = sym (f refl)
bool_same false true f g = g refl
bool_same false false f g = refl

is_true : (b : Bool) → IsTrue b → b ≡ true
is_true true h = refl
is_true false h = h

-- ## Operations

store_writes : (op : GraphOperation) (answer : Bool) (a v : ℕ) → operation_of op answer ≡ store a v
    → is_writing op ≡ true
unfolding is_writing
store_writes (Op.Store b w s into q) answer a v h = refl
store_writes op answer a v h = absurd (cc)

writing_stores : (op : GraphOperation) (answer : Bool) → is_writing op ≡ true
    → (a : ℕ) × (v : ℕ) × (operation_of op answer ≡ store a v)
unfolding is_writing
writing_stores (Op.Store b w s into q) answer h = (b, w, refl)
writing_stores op answer h = absurd (false≢true h)

-- ## Bodies that run together

module _ (laid : LaidTree) (p : ProgramBodies) (is : IsProgram p) (n : ℕ) (number : TaskOf n → ℕ) (rank : ℕ → ℕ)
    (within : (i : TaskOf n) → number i < length p.bodies) (graphs : (i : TaskOf n) → IsGraphOf p (number i))
    (tables : ℕ → NodeTable State) (weak sync : TaskOf n → ℕ → ℕ → Value → Type 0) where
  abbrev y : Parts
  y = part_of p n number rank

  abbrev S : Shape
  S = shape_of y

  abbrev N : Source S
  N = source_of y (next laid)

  abbrev T : Tables S
  T = tables_with p n number rank tables weak sync

  module _ (w : World) (memory : ℕ → AContent Value) (temps : TaskOf n → Temps) (C : AWorld S N)
      (k : IsKnown S T N memory temps C) (shape : IsShaped S) (sol : IsSolution S T) (lowered : IsLowered S N temps)
      (answers : (i : TaskOf n) → C.answers i ≡ answers_of w (number i))
      (holding : (i : TaskOf n) (m : ℕ) → m < 16 → has (C.held i) m ≡ holds m (standing w (number i))) where
    abbrev z : TaskOf n → Situation S
    z i = here S T N memory temps C k i

    abbrev At : Copy y → State → Type 0
    At e s = IsAt p is n number rank within graphs tables e s

    abbrev node : TaskOf n → ConfiguredNode
    node i = there p n number rank tables (z i).node

    next_now : (i : TaskOf n) → next laid (number i) (C.answers i) ≡ next_at laid w (number i)
    next_now i = ap (next laid (number i)) (answers i) ∙ sym (next_is laid w (number i))

    -- ## Where a body stands

    stood : (i : TaskOf n) → Stands y (next laid) i (C.answers i) (z i).node (z i).temps
    stood i = k.stands i

    sets_of : (i : TaskOf n) → HasSets laid p w (number i) (node i)
    sets_of i =
        let s = stood i in
        let kept = k.kept in
        let image = kept.image in
        let same = (image.sits i).held in
        record {
          holds = λ m lt.
              bool_same (has (z i).node.held m) (has (C.held i) m)
              (λ h. ((same m).0 (record { small = lt; is = h })).is)
              (λ h. ((same m).1 (record { small = lt; is = h })).is)
              ∙ holding i m lt;
          found = ap (λ (q : Node y). q.found) s.node
              ∙ ap (λ a. (let r = sets_after (next laid (number i)) a in r.found)) (answers i);
        }

    -- ## Accesses

    -- the action is that of an access
    by_volatile : (i : TaskOf n) (o c : ℕ) (s : Scalar) (v : Bool) (q : Place)
        → next laid (number i) (C.answers i) ≡ Acts.Load o c s v q → NextAccesses S N C i (cell_of p.laid o c)
    by_volatile i o c s false q e = next_loads (ap (action_of y) e)
    by_volatile i o c s true q e = next_loads_any (ap (action_of y) e)

    pub accesses_next : (i : TaskOf n) (a : Next) (o c : ℕ) (stores : Bool) (q : Place) → IsAccessBy o c a stores q
        → next laid (number i) (C.answers i) ≡ a → NextAccesses S N C i (cell_of p.laid o c)
    accesses_next i a o c stores q (a_load_there {scalar} {volatile} {p = r}) e = by_volatile i o c scalar volatile r e
    accesses_next i a o c stores q (a_store_there {scalar} {x = v} {p = r}) e = next_stores v (ap (action_of y) e)

    load_no_store : (v : Bool) (o c : ℕ) (s : Scalar) (q : Place) (d : ℕ) (x : Value)
        → action_of y (Acts.Load o c s v q) ≡ a_store d x → ⊥
    load_no_store false o c s q d x e = cc
    load_no_store true o c s q d x e = cc

    -- it stores if it is one that does
    kind_up : (i : TaskOf n) (a : Next) (o c : ℕ) (stores : Bool) (q : Place) → IsAccessBy o c a stores q
        → next laid (number i) (C.answers i) ≡ a → stores ≡ true → NextStores S N C i (cell_of p.laid o c)
    kind_up i a o c stores q (a_load_there {scalar} {volatile} {p = r}) e h = absurd (false≢true h)
    kind_up i a o c stores q (a_store_there {scalar} {x = v} {p = r}) e h = (v, ap (action_of y) e)

    kind_down : (i : TaskOf n) (a : Next) (o c : ℕ) (stores : Bool) (q : Place) → IsAccessBy o c a stores q
        → next laid (number i) (C.answers i) ≡ a → NextStores S N C i (cell_of p.laid o c) → stores ≡ true
    kind_down i a o c stores q (a_load_there {scalar} {volatile} {p = r}) e h =
        absurd (load_no_store volatile o c scalar r (cell_of p.laid o c) h.0 (sym (ap (action_of y) e) ∙ h.1))
    kind_down i a o c stores q (a_store_there {scalar} {x = v} {p = r}) e h = refl

    place_is : (a : Next) (o c : ℕ) (stores : Bool) (q : Place) → IsAccessBy o c a stores q
        → place_of_next a ≡ Some q
    place_is a o c stores q (a_load_there {scalar} {volatile} {p = r}) = refl
    place_is a o c stores q (a_store_there {scalar} {x = v} {p = r}) = refl

    -- the access of an edge is listed
    module _ (i : TaskOf n) (o c : ℕ) (stores : Bool) (q : Place)
        (by : IsAccessBy o c (next_at laid w (number i)) stores q) (e : Copy y)
        (a : IsAccessEdge S T N memory temps C k i (cell_of p.laid o c) e) where
      abbrev copied : At e a.target.state
      copied = is_at p is n number rank within graphs tables e a.target.state a.target.is

      about : IsAbout laid p w (number e.actor) copied.copy stores q
      about =
          let actor : e.actor ≡ i = a.next.actor in
          let from : from_of y e ≡ (z i).node = a.next.from in
          let here' : left_in p (number e.actor) copied.copy ≡ node i =
          copied.node ∙ ap (λ (r : Node y). there p n number rank tables r) from in
          record {
            sets = subst (λ r. HasSets laid p w (number e.actor) r) (sym here')
                (subst (λ j. HasSets laid p w (number j) (node i)) (sym actor) (sets_of i));
            placed = ap place_of copied.operation ∙ place_same e.edge.op ∙ a.next.place
                ∙ ap place_of_next (next_now i) ∙ place_is (next_at laid w (number i)) o c stores q by;
            kind = ap is_writing copied.operation
                ∙ bool_same (is_writing e.edge.op) stores
                (λ h. kind_down i (next_at laid w (number i)) o c stores q by (next_now i)
                (a.writes (writing_stores e.edge.op e.answer h)))
                (λ h. let st = a.stores (kind_up i (next_at laid w (number i)) o c stores q by (next_now i) h) in
                store_writes e.edge.op e.answer st.0 st.1 st.2);
          }

-- ## Tasks

module _ (laid : LaidTree) (p : ProgramBodies) (is : IsProgram p)
    (graphs : (i : TaskOf p.tasks) → IsGraphOf p (number_of p.tasks i)) (tables : ℕ → NodeTable State)
    (stored : Interferences) where
  abbrev rank_of : ℕ → ℕ
  rank_of t = get_or p.priorities t 0

  abbrev yt : Parts
  yt = parts_of p

  abbrev St : Shape
  St = shape_of yt

  abbrev Nt : Source St
  Nt = source_of yt (next laid)

  abbrev Tt : Tables St
  Tt = tables_of p tables stored

  abbrev weak : TaskOf p.tasks → ℕ → ℕ → Value → Type 0
  weak j l z v = IsValueIn (entry_at stored.weak (yt.number j) l z) (scalar_as v)

  abbrev sync : TaskOf p.tasks → ℕ → ℕ → Value → Type 0
  sync j m z v = IsValueIn (entry_at stored.sync (yt.number j) m z) (scalar_as v)

  -- two listed accesses of tasks with these numbers that race
  record RaceAt (w : World) (t u cell : ℕ) (one_stores other_stores : Bool) (q r : Place) : Type 0 where
    one : IsListedAccess laid p tables w t cell one_stores q
    other : IsListedAccess laid p tables w u cell other_stores r
    racing : AreRacing p tables t one.copy u other.copy
    same : racing.cell ≡ abstract_of_cell p.laid cell

  module _ (w : World) (memory : ℕ → AContent Value) (temps : TaskOf p.tasks → Temps) (C : AWorld St Nt)
      (k : IsKnown St Tt Nt memory temps C) (shape : IsShaped St) (sol : IsSolution St Tt)
      (lowered : IsLowered St Nt temps)
      (answers : (i : TaskOf p.tasks) → C.answers i ≡ answers_of w (number_of p.tasks i))
      (holding : (i : TaskOf p.tasks) (m : ℕ) → m < 16 → has (C.held i) m ≡ holds m (standing w (number_of p.tasks i)))
    where
      module _ (i : TaskOf p.tasks) (o c : ℕ) (stores : Bool) (q : Place)
          (by : IsAccessBy o c (next_at laid w (number_of p.tasks i)) stores q) where
        now : next laid (number_of p.tasks i) (C.answers i) ≡ next_at laid w (number_of p.tasks i)
        now =
            next_now laid p is p.tasks (number_of p.tasks) rank_of (task_within p is graphs tables stored) graphs tables weak sync w memory temps C k
            shape sol lowered answers holding i

        -- it is about to access the cell
        accessing : NextAccesses St Nt C i (cell_of p.laid o c)
        accessing =
            accesses_next laid p is p.tasks (number_of p.tasks) rank_of (task_within p is graphs tables stored) graphs tables weak sync w memory temps C k
            shape sol lowered answers holding i (next_at laid w (number_of p.tasks i)) o c stores q by now

        storing : stores ≡ true → NextStores St Nt C i (cell_of p.laid o c)
        storing =
            kind_up laid p is p.tasks (number_of p.tasks) rank_of (task_within p is graphs tables stored) graphs tables weak sync w memory temps C k
            shape sol lowered answers holding i (next_at laid w (number_of p.tasks i)) o c stores q by now

        abbrev access_at : (e : Copy yt) → IsAccessEdge St Tt Nt memory temps C k i (cell_of p.laid o c) e
            → IsListedAccess laid p tables w (number_of p.tasks e.actor) (cell_of p.laid o c) stores q
        access_at e a =
            let copied = at_copy p is graphs tables stored e a.target.state a.target.is in
            record {
              copy = copied.copy;
              about = about laid p is p.tasks (number_of p.tasks) rank_of (task_within p is graphs tables stored) graphs tables weak sync w memory temps
                  C k shape sol lowered answers holding i o c stores q by e a;
              access = access_of p is graphs tables stored e (abstract_of_cell p.laid (cell_of p.laid o c)) a.target.state
                  copied a.target.holds;
            }

        -- the access that a task is about to make is listed
        pub access_listed : IsListedAccess laid p tables w (number_of p.tasks i) (cell_of p.laid o c) stores q
        access_listed =
            let r = next_access St Tt Nt memory temps C k shape sol lowered i (cell_of p.laid o c) accessing in
            subst (λ j. IsListedAccess laid p tables w (number_of p.tasks j) (cell_of p.laid o c) stores q) r.1.next.actor
            (access_at r.0 r.1)

      -- they are listed as a race at this cell
      abbrev at_cell : (i j : TaskOf p.tasks) (cell : ℕ) (e f : Copy yt)
          → AreRaceEdges St Tt Nt memory temps C k i j cell e f → IsRaceListed St Tt e f
      at_cell i j cell e f g =
          let l = g.races in
          record {
            differ = l.differ;
            one_reached = l.one_reached;
            two_reached = l.two_reached;
            common = (abstract_of_cell p.laid cell, g.one.target, g.other.target);
            apart = l.apart;
            some_store = l.some_store;
            one_lower = l.one_lower;
            two_lower = l.two_lower;
          }

      -- two that race are listed so
      race_at : (i j : TaskOf p.tasks) → (i ≡ j → ⊥) → (o c : ℕ) (s t : Bool) (q r : Place)
          → IsAccessBy o c (next_at laid w (number_of p.tasks i)) s q
          → IsAccessBy o c (next_at laid w (number_of p.tasks j)) t r → (s ≡ true) ⊎ (t ≡ true)
          → RaceAt w (number_of p.tasks i) (number_of p.tasks j) (cell_of p.laid o c) s t q r
      race_at i j differ o c s t q r by by' some =
          let x = next_race St Tt Nt memory temps C k shape sol lowered i j differ (cell_of p.laid o c)
          (accessing i o c s q by) (accessing j o c t r by')
          (⊎_elim (λ h. inl (storing i o c s q by h)) (λ h. inr (storing j o c t r by' h)) some) in
          of_edges x.0 x.1 x.2
        where
          of_edges : (e f : Copy yt) → AreRaceEdges St Tt Nt memory temps C k i j (cell_of p.laid o c) e f
              → RaceAt w (number_of p.tasks i) (number_of p.tasks j) (cell_of p.laid o c) s t q r
          of_edges e f g =
              subst (λ v. RaceAt w (number_of p.tasks i) (number_of p.tasks v) (cell_of p.laid o c) s t q r)
              g.other.next.actor
              (subst (λ v. RaceAt w (number_of p.tasks v) (number_of p.tasks f.actor) (cell_of p.laid o c) s t q r)
              g.one.next.actor
              (record {
                one = access_at i o c s q by e g.one;
                other = access_at j o c t r by' f g.other;
                racing = race_of p is graphs tables stored e f (at_cell i j (cell_of p.laid o c) e f g);
                same = race_at_cell p is graphs tables stored e f (at_cell i j (cell_of p.laid o c) e f g);
              }))

      pub race_listed : (i j : TaskOf p.tasks) (place : Place)
          (r : IsRace laid w (number_of p.tasks i) (number_of p.tasks j) place)
          → IsListedRace laid p tables w (number_of p.tasks i) (number_of p.tasks j) place r
      race_listed i j place r =
          let x = race_at i j (λ e. r.tasks.2 (ap (number_of p.tasks) e)) r.object r.offset r.stores r.other_stores place
          r.other_place r.access r.other (⊎_elim (λ h. inl (is_true r.stores h)) (λ h. inr (is_true r.other_stores h)) r.store) in
          record { one = x.one; other = x.other; racing = x.racing; cell = x.same }
