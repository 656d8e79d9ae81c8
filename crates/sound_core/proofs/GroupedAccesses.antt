-- What a task is about to access in a world that a run reaches stands in the group of the object, if there is one; and
-- where two race, there is one, and both stand in it as accesses that race.
use Rattle.std.proofs.Common.{◌≡◌, refl, sym, ap, subst, ◌∙◌, ℕ, ◌<◌, ◌≤◌, ◌^◌, Bool, true, false, List, [], ◌∷◌, length}
use Rattle.std.proofs.Common.{◌⊎◌, inl, inr, ⊎_elim, Option, Some, arith, nat_lt}
use Rattle.std.specs.Prelude.{Contains, cond}
use Rattle.std.proofs.lemmas.Bool.{false≢true, lt-ltb}
use Rattle.sound_tables.specs.tm_terms.declared.places.Place.{Place}
use Rattle.sound_tables.specs.tm_laid.Layouts.{LaidTree, object_at, cell_at, abstract_at, cell_of}
use Rattle.sound_tables.specs.concrete_values.declared.values.Value.{Value}
use Rattle.sound_tables.specs.concrete_values.declared.actions.Next.{Next}
use Rattle.sound_tables.specs.concrete_steps.declared.worlds.Status.{Status}
use Rattle.sound_tables.specs.concrete_steps.declared.worlds.Status.TheVariants.{Done}
use Rattle.sound_tables.specs.concrete_steps.NextAction.{next}
use Rattle.sound_tables.specs.concrete_steps.Worlds.{World, standing, answers_of, holds, next_at}
use Rattle.sound_tables.specs.concrete_steps.Moves.{status_of}
use Rattle.sound_tables.specs.concrete_steps.Occurring.{IsReached, IsAccess as IsAccessBy, IsRace, a_load_there}
use Rattle.sound_tables.specs.concrete_steps.Occurring.{a_store_there}
use Rattle.sound_tables.specs.flow_graph.declared.operations.Operation.{Operation}
use Rattle.sound_tables.specs.flow_graph.declared.operations.Operation.TheVariants as Op
use Rattle.sound_tables.specs.interfere_set.Stores.{Interferences}
use Rattle.sound_tables.specs.mutex_configs.Sets.{has}
use Rattle.sound_tables.specs.transfer_rows.StateForms.{State}
use Rattle.sound_tables.specs.program_reports.table_covers.Solutions.{NodeTable}
use Rattle.sound_tables.specs.program_reports.Reports.{left_in, operation_in, IsWriting, AreRacing}
use Rattle.sound_tables.specs.program_reports.reading.Found.{is_writing}
use Rattle.sound_tables.specs.program_equations.Programs.{ProgramBodies, body_at, IsProgram}
use Rattle.sound_tables.specs.program_equations.Solutions.{tables_of as lists_of, IsPair}
use Rattle.sound_tables.specs.program_equations.Readings.{read_layout}
use Rattle.sound_tables.specs.tm_soundness.Shape.{Shape, Content as AContent}
use Rattle.sound_tables.specs.tm_soundness.Tables.{Tables}
use Rattle.sound_tables.specs.tm_soundness.Worlds.{IsLowered}
use Rattle.sound_tables.specs.tm_soundness.Numbered.{TaskOf}
use Rattle.sound_tables.specs.tm_soundness.Known.{IsKnown}
use Rattle.sound_tables.specs.program_shape.Shape.{Parts, number_of, abstract_of_cell}
use Rattle.sound_tables.specs.Programs.{parts_of}
use Rattle.sound_tables.specs.Premises.{IsGraphOf, LaysCells, IsLaidCell}
use Rattle.sound_tables.specs.Laws.{IsFounded}
use Rattle.sound_tables.specs.Memberships.{tables_of}
use Rattle.sound_tables.proofs.low.program_shape.TaskNumbers.{IsNumbered, task_with}
use Rattle.sound_tables.proofs.Lawful.{in_bodies, shapes_lawful, pairs_cover}
use Rattle.sound_foundations.specs.next_action_laws.Actions.{IsCell, IsProper}
use Rattle.sound_addresses.specs.sound_runs.Images.{status_as, held_as}
use Rattle.sound_addresses.specs.sound_runs.Programs.{HasGraphs, first_temps, first_memory, shape_in, source_in}
use Rattle.sound_addresses.specs.sound_runs.Known.{tasks_in}
use Rattle.sound_addresses.proofs.low.sound_runs.Imaged.{facts}
use Rattle.sound_addresses.proofs.low.sound_runs.MutexSets.{set_is}
use Rattle.sound_addresses.proofs.low.sound_runs.Programs.{lowered_in}
use Rattle.sound_addresses.proofs.low.sound_runs.Starts.{bodies_counted}
use Rattle.access_groups.specs.declared.object_access.ObjectAccess.{ObjectAccess}
use Rattle.access_groups.specs.declared.object_access.AccessGroup.{AccessGroup}
use Rattle.access_groups.specs.Order.{sort_key}
use Rattle.access_groups.specs.Groups.{object_in, IsAccessAt, IsRacingThere, IsObjectAccess, AreObjectAccesses}
use Rattle.access_groups.specs.Groups.{AreGroups}
use Rattle.sound_core.specs.Sound.{IsProgramFrom}
use Rattle.sound_core.specs.Places.{MayAct, section_acts, task_acts_after, task_acts}
use Rattle.sound_core.specs.Accesses.{IsNextAccess, IsGrouped, AreGrouped, IsGroupedRace, ListsAccesses}
use Rattle.sound_core.proofs.FileBodies.{same_parts}
use Rattle.sound_core.proofs.Alarmed.{cells_kept, graphs, founded}
use Rattle.sound_core.proofs.Known.{known, plainly_known}
use Rattle.sound_core.proofs.ListedAccesses.{IsListedAccess, IsListedRace, access_listed, race_listed}

-- ## Keys

list_head : (m n : ℕ) (ms ns : List ℕ) → m ∷ ms ≡ n ∷ ns → m ≡ n
list_head m n ms ns e = cc

list_tail : (m n : ℕ) (ms ns : List ℕ) → m ∷ ms ≡ n ∷ ns → ms ≡ ns
list_tail m n ms ns e = cc

bit_same : (a b : Bool) → (let m : ℕ = cond a 1 0 in let n : ℕ = cond b 1 0 in m ≡ n) → a ≡ b
bit_same true true e = refl
bit_same false false e = refl
bit_same true false e = absurd (omega (arith, e))
bit_same false true e = absurd (omega (arith, e))

-- accesses with one key are alike but for what is told of races and free mutexes
record AreAlike (e f : ObjectAccess) : Type 0 where
  place : f.place ≡ e.place
  task : f.task ≡ e.task
  kind : f.stores ≡ e.stores
  held : f.held ≡ e.held

alike : (e f : ObjectAccess) → sort_key f ≡ sort_key e → AreAlike e f
alike e f same =
    let one = list_tail f.place.line e.place.line (f.place.col ∷ f.task ∷ cond f.stores 1 0 ∷ f.held ∷ [])
    (e.place.col ∷ e.task ∷ cond e.stores 1 0 ∷ e.held ∷ []) same in
    let two = list_tail f.place.col e.place.col (f.task ∷ cond f.stores 1 0 ∷ f.held ∷ [])
    (e.task ∷ cond e.stores 1 0 ∷ e.held ∷ []) one in
    let three = list_tail f.task e.task (cond f.stores 1 0 ∷ f.held ∷ []) (cond e.stores 1 0 ∷ e.held ∷ []) two in
    let four = list_tail (cond f.stores 1 0) (cond e.stores 1 0) (f.held ∷ []) (e.held ∷ []) three in
    let line = list_head f.place.line e.place.line (f.place.col ∷ f.task ∷ cond f.stores 1 0 ∷ f.held ∷ [])
    (e.place.col ∷ e.task ∷ cond e.stores 1 0 ∷ e.held ∷ []) same in
    let col = list_head f.place.col e.place.col (f.task ∷ cond f.stores 1 0 ∷ f.held ∷ [])
    (e.task ∷ cond e.stores 1 0 ∷ e.held ∷ []) one in
    record {
      place = λ i. record { line = line i; col = col i };
      task = list_head f.task e.task (cond f.stores 1 0 ∷ f.held ∷ []) (cond e.stores 1 0 ∷ e.held ∷ []) two;
      kind = bit_same f.stores e.stores
          (list_head (cond f.stores 1 0) (cond e.stores 1 0) (f.held ∷ []) (e.held ∷ []) three);
      held = list_head f.held e.held [] [] four;
    }

-- ## Kinds

writes : (op : Operation) → is_writing op ≡ true → IsWriting op
unfolding is_writing
writes (Op.Store address value scalar into place) e = tt
writes op e = absurd (false≢true e)

is_write : (op : Operation) → IsWriting op → is_writing op ≡ true
unfolding is_writing
is_write (Op.Store address value scalar into place) h = refl
is_write op h = absurd h

-- ## Cells of objects

module _ (laid : LaidTree) (lays : LaysCells laid) (o c : ℕ) (inside : c < (object_at laid o).cells) where
  object_of : (let a = abstract_at laid (abstract_of_cell laid (cell_of laid o c)) in a.object) ≡ o
  object_of =
      let there = lays.there o c inside in
      let part : IsLaidCell laid o (cell_of laid o c) = lays.parts o (cell_of laid o c) there.0 there.1 in
      ap (λ (b : Bool). (let a = abstract_at laid (cond b (cell_at laid (cell_of laid o c)).abstract_cell
      (length laid.abstract_cells)) in a.object)) (lt-ltb (cell_of laid o c) (length laid.cells) there.0)
      ∙ part.part

-- what is accessed lies in its object
cell_inside : (laid : LaidTree) (task o c : ℕ) (n : Next) (stores : Bool) (q : Place) → IsAccessBy o c n stores q
    → IsProper laid task n → c < (object_at laid o).cells
cell_inside laid task o c n stores q (a_load_there {scalar} {volatile} {p = r}) h = h.inside
cell_inside laid task o c n stores q (a_store_there {scalar} {x = v} {p = r}) h = h.0.inside

module _ (laid : LaidTree) (p : ProgramBodies) (from : IsProgramFrom laid p) (is : IsProgram p)
    (few : length laid.objects ≤ 2 ^ 32) (tables : List (List (Option State))) (store : Interferences)
    (pair : IsPair p tables store) (w : World) (reached : IsReached laid w) where
  abbrev pub x : Parts
  x = parts_of p

  abbrev pub P : Shape
  P = shape_in laid x

  abbrev pub lists : ℕ → NodeTable State
  lists = lists_of tables

  abbrev pub T : Tables P
  T = tables_of p lists store

  abbrev pub HasAll : Type 0
  HasAll = HasGraphs laid (λ t. (let b = body_at p t in b.edges))

  pub has_graphs : HasAll
  has_graphs = graphs laid p from is few tables store pair

  pub good : IsFounded p is
  good = founded laid p from is few tables store pair

  pub graphs_are : (i : TaskOf p.tasks) → IsGraphOf p (number_of p.tasks i)
  graphs_are i = good.graphs (number_of p.tasks i) (in_bodies p is i)

  pub lowered : IsLowered P (source_in laid x) (λ i. first_temps)
  lowered = lowered_in laid (λ t. (let b = body_at p t in b.edges)) has_graphs x (same_parts laid p from)

  abbrev pub Known : (ℕ → AContent Value) → Type 0
  Known memory = IsKnown P T (source_in laid x) memory (λ i. first_temps) (tasks_in laid x w)

  pub holding : (i : TaskOf p.tasks) (m : ℕ) → m < 16
      → has (held_as w (number_of p.tasks i)) m ≡ holds m (standing w (number_of p.tasks i))
  holding i m lt = set_is (λ j. holds j (standing w (number_of p.tasks i))) m lt

  -- ## What tasks are about to access

  pub tasks_known : (task : ℕ) → task < length laid.file.tasks → MayAct laid w task
      → (memory : ℕ → AContent Value) × Known memory
  tasks_known task lt (task_acts main_is t u) =
      (first_memory laid, plainly_known laid p from is few tables store pair main_is w reached)
  tasks_known task lt (task_acts_after main main_is over t u) =
      let k = known laid p from is few tables store pair main main_is w reached in
      let count = (let of = from.is in of.tasks) in
      let over' : status_of w p.tasks ≡ Done = ap (status_of w) count ∙ over in
      let later = (let a = k.known in a.after (ap status_as over')) in
      (later.0.content, later.3)
  tasks_known task lt (section_acts main main_is not) = absurd (omega (arith, lt))

  pub task_of : (task : ℕ) → task < length laid.file.tasks → IsNumbered p.tasks task
  task_of task lt = let count = (let of = from.is in of.tasks) in task_with p.tasks task (omega (arith, lt, count))

  access_is_listed : (task : ℕ) → task < length laid.file.tasks → MayAct laid w task → (o c : ℕ) (stores : Bool)
      (place : Place) → IsAccessBy o c (next_at laid w task) stores place
      → IsListedAccess laid p lists w task (cell_of p.laid o c) stores place
  access_is_listed task lt may o c stores place by =
      let t = task_of task lt in
      let k = tasks_known task lt may in
      subst (λ j. IsListedAccess laid p lists w j (cell_of p.laid o c) stores place) t.is
      (access_listed laid p is graphs_are lists store w k.0 (λ i. first_temps) (tasks_in laid x w) k.1
      (shapes_lawful p is good).0 (pairs_cover p is good tables store pair).0 lowered (λ i. refl) holding t.task o c
      stores place (subst (λ j. IsAccessBy o c (next_at laid w j) stores place) (sym t.is) by))

  race_by : (task : ℕ) → task < length laid.file.tasks → MayAct laid w task → (i j : ℕ) → IsNumbered p.tasks i
      → IsNumbered p.tasks j → (place : Place) (r : IsRace laid w i j place) → IsListedRace laid p lists w i j place r
  race_by task lt may i j t u place =
      let k = tasks_known task lt may in
      subst (λ a. (r : IsRace laid w a j place) → IsListedRace laid p lists w a j place r) t.is
      (subst (λ b. (r : IsRace laid w (number_of p.tasks t.task) b place)
      → IsListedRace laid p lists w (number_of p.tasks t.task) b place r) u.is
      (race_listed laid p is graphs_are lists store w k.0 (λ i. first_temps) (tasks_in laid x w) k.1
      (shapes_lawful p is good).0 (pairs_cover p is good tables store pair).0 lowered (λ i. refl) holding t.task u.task
      place))

  -- the abstract cell of what is accessed is one of the object
  object_is : (task : ℕ) → task < length laid.file.tasks → (o c : ℕ) (stores : Bool) (place : Place)
      → IsAccessBy o c (next_at laid w task) stores place
      → object_in p (abstract_of_cell p.laid (cell_of p.laid o c)) ≡ o
  object_is task lt o c stores place by =
      let count = bodies_counted laid from.file in
      let proper = (facts laid (λ t. []) from.file few w reached).proper task (omega (arith, lt, count)) in
      let inside : c < (object_at laid o).cells =
      cell_inside laid task o c (next_at laid w task) stores place by proper in
      let same : p.laid ≡ read_layout laid = (let of = from.is in of.laid) in
      object_of p.laid (cells_kept laid p from) o c
      (subst (λ (l : LaidTree). c < (object_at l o).cells) (sym same) inside)

  -- ## Groups

  -- what is noted of the access of a copy
  abbrev noted : ℕ → ℕ → Bool → Place → ℕ → Bool → ObjectAccess
  noted task copy stores place free racing = record {
    place = place;
    task = task;
    stores = stores;
    held = (let q = left_in p task copy in q.held);
    free = free;
    racing = racing;
  }

  abbrev cell_for : ℕ → ℕ → ℕ
  cell_for o c = abstract_of_cell p.laid (cell_of p.laid o c)

  module _ (groups : List AccessGroup) (are : AreGroups p lists groups) where
    module _ (task o c : ℕ) (stores : Bool) (place : Place)
        (h : IsListedAccess laid p lists w task (cell_of p.laid o c) stores place)
        (of : object_in p (cell_for o c) ≡ o) where
      abbrev plain : ObjectAccess
      plain = noted task h.copy stores place 0 false

      there : (free : ℕ) (racing : Bool)
          → IsAccessAt p lists o (noted task h.copy stores place free racing) h.copy (cell_for o c)
      there free racing =
          let about = h.about in
          let kind : is_writing (operation_in p task h.copy) ≡ stores = about.kind in
          record {
            access = h.access;
            of = of;
            placed = about.placed;
            kind = (
              λ s. writes (operation_in p task h.copy) (kind ∙ s),
              λ s. sym kind ∙ is_write (operation_in p task h.copy) s,
            );
            holds = refl;
          }

      -- what is alike is noted of this copy
      as_noted : (f : ObjectAccess) → AreAlike plain f → f ≡ noted task h.copy stores place f.free f.racing
      as_noted f a = λ i. record {
        place = a.place i;
        task = a.task i;
        stores = a.kind i;
        held = a.held i;
        free = f.free;
        racing = f.racing;
      }

      alike_there : (f : ObjectAccess) → AreAlike plain f → IsAccessAt p lists o f h.copy (cell_for o c)
      alike_there f a =
          subst (λ v. IsAccessAt p lists o v h.copy (cell_for o c)) (sym (as_noted f a)) (there f.free f.racing)

      alike_races : (other_task other_copy : ℕ) (r : AreRacing p lists task h.copy other_task other_copy)
          → r.cell ≡ cell_for o c → (f : ObjectAccess) → AreAlike plain f → IsRacingThere p lists o f
      alike_races other_task other_copy r at f a =
          subst (λ v. IsRacingThere p lists o v) (sym (as_noted f a))
          (record {
            copy = h.copy;
            other_task = other_task;
            other_copy = other_copy;
            races = r;
            at = subst (λ n. IsAccessAt p lists o (noted task h.copy stores place f.free f.racing) h.copy n) (sym at)
                (there f.free f.racing);
          })

      module _ (g : AccessGroup) (member : Contains groups g) (is_of : g.object ≡ o) where
        listed : AreObjectAccesses p lists o g.accesses.items
        listed = subst (λ n. AreObjectAccesses p lists n g.accesses.items) is_of (are.each g member)

        found : (f : ObjectAccess) × Contains g.accesses.items f × (sort_key f ≡ sort_key plain)
        found = listed.all plain (record { copy = h.copy; cell = cell_for o c; at = there 0 false })

        found_alike : AreAlike plain found.0
        found_alike = alike plain found.0 found.2

        told : IsObjectAccess p lists o found.0
        told = listed.each found.0 found.1

        is_next : IsNextAccess laid w task stores place found.0
        is_next =
            let a = found_alike in
            let about = h.about in
            let sets = about.sets in
            record {
              task = a.task;
              kind = a.kind;
              place = a.place;
              holds = λ m lt. ap (λ n. has n m) a.held ∙ sets.holds m lt;
              free = λ m free.
                  ap (λ n. has n m) (sym sets.found)
                  ∙ subst (λ t. (let q = left_in p t h.copy in has q.found m ≡ true)) a.task
                  ((told.free m).0 free h.copy (cell_for o c) (alike_there found.0 a));
            }

        grouped : IsGrouped laid w groups o task stores place
        grouped = record {
          group = g;
          has_group = member;
          of = is_of;
          access = found.0;
          has_access = found.1;
          next = is_next;
        }

        told_racing : (other_task other_copy : ℕ) (r : AreRacing p lists task h.copy other_task other_copy)
            → r.cell ≡ cell_for o c → (let f = found.0 in f.racing ≡ true)
        told_racing other_task other_copy r at =
            told.racing.1 (alike_races other_task other_copy r at found.0 found_alike)

    pub accesses_grouped : (task : ℕ) → task < length laid.file.tasks → MayAct laid w task → AreGrouped laid w groups task
    accesses_grouped task lt may o c stores place by h =
        grouped task o c stores place (access_is_listed task lt may o c stores place by)
        (object_is task lt o c stores place by) h.group h.has_group h.of

    -- one side of a race
    record IsSide (o task : ℕ) (stores : Bool) (place : Place) : Type 0 where
      at : IsGrouped laid w groups o task stores place
      races : (let e = at.access in e.racing ≡ true)

    side : (i j : ℕ) → i < length laid.file.tasks → (place : Place) (r : IsRace laid w i j place)
        → IsListedRace laid p lists w i j place r → IsSide r.object i r.stores place
    unfolding grouped found
    side i j lt place r l =
        let of : object_in p (cell_for r.object r.offset) ≡ r.object =
        object_is i lt r.object r.offset r.stores place r.access in
        let one = l.one in
        let other = l.other in
        let g = are.all r.object (record {
          task = i;
          copy = one.copy;
          other_task = j;
          other_copy = other.copy;
          races = l.racing;
          of = ap (object_in p) l.cell ∙ of;
        }) in
        record {
          at = grouped i r.object r.offset r.stores place one of g.0 g.1 g.2;
          races = told_racing i r.object r.offset r.stores place one of g.0 g.1 g.2 j other.copy l.racing l.cell;
        }

    turned : (i j : ℕ) (place : Place) (r : IsRace laid w i j place) → IsRace laid w j i r.other_place
    turned i j place r = record {
      tasks = (r.tasks.1, r.tasks.0, λ e. r.tasks.2 (sym e));
      object = r.object;
      offset = r.offset;
      stores = r.other_stores;
      other_stores = r.stores;
      other_place = place;
      access = r.other;
      other = r.access;
      store = ⊎_elim inr inl r.store;
    }

    pub races_grouped : (i j : ℕ) → MayAct laid w i → (place : Place) (r : IsRace laid w i j place)
        → IsGroupedRace laid w groups i j place r
    unfolding turned
    races_grouped i j may place r =
        let t = task_of i r.tasks.0 in
        let u = task_of j r.tasks.1 in
        let one = side i j r.tasks.0 place r (race_by i r.tasks.0 may i j t u place r) in
        let back = turned i j place r in
        let other = side j i r.tasks.1 r.other_place back (race_by i r.tasks.0 may j i u t r.other_place back) in
        record { one = one.at; one_races = one.races; other = other.at; other_races = other.races }

pub accesses_listed : (laid : LaidTree) (p : ProgramBodies) → IsProgramFrom laid p → (is : IsProgram p)
    → length laid.objects ≤ 2 ^ 32 → (tables : List (List (Option State))) (store : Interferences)
    → IsPair p tables store → (groups : List AccessGroup) → AreGroups p (lists_of tables) groups
    → ListsAccesses laid groups
accesses_listed laid p from is few tables store pair groups are = record {
  accesses = λ w reached. accesses_grouped laid p from is few tables store pair w reached groups are;
  races = λ w reached. races_grouped laid p from is few tables store pair w reached groups are;
}
