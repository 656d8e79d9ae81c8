-- Wherever the initial section or a task comes in a world that a run reaches, the states of a solution hold what it
-- comes with.
use Rattle.std.proofs.Common.{◌≡◌, ◌⊎◌, inl, inr, refl, sym, ap, subst, ◌∙◌, ℕ, ◌<◌, ◌≤◌, ◌^◌, List, length}
use Rattle.std.proofs.Common.{Option, Some}
use Rattle.std.proofs.Common.{None, arith}
use Rattle.sound_tables.specs.tm_laid.Layouts.{LaidTree}
use Rattle.sound_tables.specs.concrete_values.declared.values.Value.{Value}
use Rattle.sound_tables.specs.concrete_steps.declared.worlds.Status.{Status}
use Rattle.sound_tables.specs.concrete_steps.declared.worlds.Status.TheVariants.{Waiting, Ready, Blocked, Done}
use Rattle.sound_tables.specs.concrete_steps.NextAction.{next}
use Rattle.sound_tables.specs.concrete_steps.Worlds.{World, answers_of}
use Rattle.sound_tables.specs.concrete_steps.Moves.{status_of}
use Rattle.sound_tables.specs.concrete_steps.Occurring.{IsReached}
use Rattle.sound_tables.specs.flow_graph.Graphs.{Edges, IsPlain}
use Rattle.sound_tables.specs.flow_graph.Runs.{Memory, at_entry}
use Rattle.sound_tables.specs.flow_graph.Positions.{Reaches}
use Rattle.sound_tables.specs.interfere_set.Stores.{Interferences, no_interference}
use Rattle.sound_tables.specs.transfer_rows.StateForms.{State}
use Rattle.sound_tables.specs.transfer_rows.Contributions.{entry_at}
use Rattle.sound_tables.specs.program_reports.pointer_dom.Values.{IsValueIn}
use Rattle.sound_tables.specs.temporary_types.Sorts.{types_of}
use Rattle.sound_tables.specs.program_reports.state_fits.Kinds.{OfTypes}
use Rattle.sound_tables.specs.program_reports.state_fits.Fits.{FitsPlace}
use Rattle.sound_tables.specs.program_reports.table_covers.Solutions.{NodeTable}
use Rattle.sound_tables.specs.task_equations.Bodies.{live_at}
use Rattle.sound_tables.specs.program_equations.Programs.{ProgramBodies, body_at, HasSection, IsProgram}
use Rattle.sound_tables.specs.program_equations.Entries.{first_state}
use Rattle.sound_tables.specs.program_equations.Readings.{read_layout}
use Rattle.sound_tables.specs.program_equations.laws.TaskEntries.{first_fits}
use Rattle.sound_tables.specs.program_equations.laws.StoresFit.{nothing_fits}
use Rattle.sound_tables.specs.program_equations.Solutions.{tables_of as lists_of, table_at, IsPair}
use Rattle.sound_tables.specs.tm_soundness.Shape.{Content as AContent}
use Rattle.sound_tables.specs.tm_soundness.Tables.{Tables}
use Rattle.sound_tables.specs.tm_soundness.GraphWorlds.{done}
use Rattle.sound_tables.specs.tm_soundness.Covers.{IsSolution, IsEntered}
use Rattle.sound_tables.specs.tm_soundness.Section.{alone, IsHandover}
use Rattle.sound_tables.specs.tm_soundness.Worlds.{IsLowered, IsReached as IsAReached}
use Rattle.sound_tables.specs.tm_soundness.WholeWorlds.{main_of, IsWholeReached, IsFirstPhase, IsSecondPhase}
use Rattle.sound_tables.specs.tm_soundness.Numbered.{TaskOf}
use Rattle.tm_soundness.proofs.TwoPhases.{left_behind}
use Rattle.tm_soundness.proofs.TwoRuns.{two_phases}
use Rattle.sound_tables.specs.program_shape.Shape.{Parts, Node, number_of, IsOwned}
use Rattle.sound_tables.specs.Programs.{parts_of, section_alone}
use Rattle.sound_tables.specs.Memberships.{tables_of as members_of, section_tables, scalar_as, state_at, found_at}
use Rattle.sound_tables.specs.Memberships.{nothing_of}
use Rattle.sound_tables.specs.Laws.{IsFounded, IsHandedOver, by_end, by_nothing}
use Rattle.sound_tables.proofs.low.program_shape.TaskNumbers.{IsNumbered, task_with}
use Rattle.sound_tables.proofs.Arriving.{state_fits}
use Rattle.sound_tables.proofs.Lawful.{in_bodies, shapes_lawful, pairs_cover}
use Rattle.sound_tables.proofs.Entrances.{tasks_enter, sections_hand_over, holds_nothing}
use Rattle.sound_tables.proofs.Pairs.{within, entry, entry-fits, solves}
use Rattle.sound_runs.specs.Images.{status_as, IsImage}
use Rattle.sound_runs.specs.Programs.{HasGraphs, first_temps, first_memory, shape_in, section_in, source_in}
use Rattle.sound_runs.specs.Programs.{section_source_in}
use Rattle.sound_runs.specs.Sources.{KeepsAddresses}
use Rattle.sound_runs.specs.Known.{tasks_in, whole_in}
use Rattle.sound_runs.proofs.Imaged.{imaged}
use Rattle.sound_runs.proofs.WithoutSection.{plainly_imaged}
use Rattle.sound_runs.proofs.Listed.{tasks_of_count, each_task}
use Rattle.sound_runs.proofs.Programs.{section_lowered, owned_apart}
use Rattle.sound_core.specs.Sound.{IsProgramFrom}
use Rattle.sound_core.specs.Places.{MayAct, section_acts, task_acts_after, task_acts}
use Rattle.sound_core.proofs.FileBodies.{same_parts, counted, edges_are}
use Rattle.sound_core.proofs.Alarmed.{has_section, no_section, memory_kept}
use Rattle.sound_core.proofs.GroupedAccesses.{has_graphs, good, graphs_are, lowered}
use Rattle.sound_notes.proofs.Passing.{met}
use Rattle.sound_notes.proofs.MetStates.{IsMetAt, met_at}

is_done_status : (st : Status) → status_as st ≡ done → st ≡ Done
is_done_status Done e = refl
is_done_status Waiting e = absurd (cc)
is_done_status Ready e = absurd (cc)
is_done_status (Blocked m) e = absurd (cc)

none_found : (n : Option ℕ) (s : State) → found_at (λ m. None) n ≡ Some s → ⊥
none_found None s h = cc
none_found (Some n) s h = cc

module _ (laid : LaidTree) (p : ProgramBodies) (from : IsProgramFrom laid p) (is : IsProgram p)
    (few : length laid.objects ≤ 2 ^ 32) (tables : List (List (Option State))) (store : Interferences)
    (pair : IsPair p tables store) (w : World) (reached : IsReached laid w) where
  abbrev x : Parts
  x = parts_of p

  abbrev lists : ℕ → NodeTable State
  lists = lists_of tables

  abbrev T : ℕ
  T = length laid.file.tasks

  abbrev graph : ℕ → Edges
  graph t = (let b = body_at p t in b.edges)

  abbrev Founded : IsFounded p is
  Founded = good laid p from is few tables store pair w reached

  abbrev Has : HasGraphs laid graph
  Has = has_graphs laid p from is few tables store pair w reached

  abbrev count : p.tasks ≡ T
  count = (let of = from.is in of.tasks)

  -- addresses stay within their objects
  pub keeps : (t : ℕ) → t < length p.bodies → KeepsAddresses p.laid (graph t)
  keeps t lt =
      let has : HasGraphs laid graph = has_graphs laid p from is few tables store pair w reached in
      let all = counted laid p from in
      let within : t < length laid.bodies = omega (arith, lt, all) in
      subst (λ l. KeepsAddresses l (graph t)) (sym (let of = from.is in of.laid))
      (subst (λ g. KeepsAddresses (read_layout laid) g) (sym (edges_are laid p from t within)) (has.addresses t within))

  -- ## Tasks

  task_plain : (i : TaskOf p.tasks) → IsPlain (graph (x.number i))
  task_plain i = (graphs_are laid p from is few tables store pair w reached i).plain

  task_keeps : (i : TaskOf p.tasks) → KeepsAddresses p.laid (graph (x.number i))
  task_keeps i = keeps (x.number i) (in_bodies p is i)

  task_fits : (q : Node x) (s : State) → state_at p p.tasks x.number x.rank lists q ≡ Some s
      → FitsPlace p.laid (number_of p.tasks q.task) (OfTypes p.laid (types_of (is.sorts (number_of p.tasks q.task))))
      (live_at (body_at p (number_of p.tasks q.task)) q.place) s
  task_fits =
      let section = table_at tables p.tasks in
      let whole = pair.solves in
      let graphs = graphs_are laid p from is few tables store pair w reached in
      state_fits p is p.tasks x.number x.rank (within p is section lists store whole graphs) graphs lists store
      whole.fits (entry p is section lists store whole graphs) (entry-fits p is section lists store whole graphs)
      (solves p is section lists store whole graphs)

  abbrev IsTasksReached : (ℕ → AContent Value) → Type 0
  IsTasksReached memory = IsAReached (shape_in laid x) (source_in laid x) memory (tasks_in laid x w)

  abbrev Comes_to : ℕ → ℕ → Memory → Type 0
  Comes_to t place m = Reaches p.laid (graph t) 0 at_entry (answers_of w t) place m

  by_solution : (memory : ℕ → AContent Value)
      → IsEntered (shape_in laid x) (members_of p lists store) memory (λ i. first_temps) → IsTasksReached memory
      → (i : TaskOf p.tasks) (place : ℕ) (m : Memory) → Comes_to (x.number i) place m
      → IsMetAt laid p is lists w (x.number i) place m.temps
  by_solution memory entered as_reached i place m come =
      let h = met x (next laid) task_plain task_keeps (shapes_lawful p is Founded).0 memory
      (lowered laid p from is few tables store pair w reached) (members_of p lists store)
      (pairs_cover p is Founded tables store pair).0 entered (tasks_of_count p.tasks)
      (each_task x (source_in laid x)) (tasks_in laid x w) as_reached i place m come in
      met_at laid p is p.tasks x.number x.rank lists
      (λ j l z v. IsValueIn (entry_at store.weak (x.number j) l z) (scalar_as v))
      (λ j k z v. IsValueIn (entry_at store.sync (x.number j) k z) (scalar_as v)) task_fits w i place m.temps h.inside
      h.locals h.comes

  -- tasks that never begin come nowhere
  by_nobody : (memory : ℕ → AContent Value)
      → IsEntered (shape_in laid x) (nothing_of p) memory (λ i. first_temps) → IsTasksReached memory
      → (i : TaskOf p.tasks) (place : ℕ) (m : Memory) → Comes_to (x.number i) place m
      → IsMetAt laid p is lists w (x.number i) place m.temps
  by_nobody memory entered as_reached i place m come =
      let h = met x (next laid) task_plain task_keeps (shapes_lawful p is Founded).0 memory
      (lowered laid p from is few tables store pair w reached) (nothing_of p)
      (let n = holds_nothing p in n.solution) entered (tasks_of_count p.tasks)
      (each_task x (source_in laid x)) (tasks_in laid x w) as_reached i place m come in
      let inside = h.inside in
      absurd (none_found _ inside.state inside.is)

  task_of : (task : ℕ) → task < T → IsNumbered p.tasks task
  task_of task lt = task_with p.tasks task (omega (arith, lt, count))

  -- ### Without an initial section

  plain_reached : laid.file.main ≡ None → IsTasksReached (first_memory laid)
  plain_reached main_is =
      subst (λ (u : Parts). IsAReached (shape_in laid u) (source_in laid u) (first_memory laid) (tasks_in laid u w))
      (sym (same_parts laid p from)) (plainly_imaged laid graph from.file few main_is w reached)

  plainly : laid.file.main ≡ None → (i : TaskOf p.tasks) (place : ℕ) (m : Memory) → Comes_to (x.number i) place m
      → IsMetAt laid p is lists w (x.number i) place m.temps
  plainly main_is =
      by_solution (first_memory laid)
      (tasks_enter p is Founded tables store pair (no_section laid p from is few tables store pair main_is)
      (first_memory laid) (memory_kept laid p from is few tables store pair))
      (plain_reached main_is)

  -- ### With one

  module _ (main : ℕ) (main_is : laid.file.main ≡ Some main) where
    has_it : HasSection p
    has_it = has_section laid p from is few tables store pair main main_is

    abbrev s : Parts
    s = section_alone p

    section_lowers : IsLowered (alone (shape_in laid x) (section_in laid x)) (section_source_in laid x)
        (λ _. first_temps)
    section_lowers =
        subst (λ (r : Parts). IsLowered (alone (shape_in laid r) (section_in laid r)) (section_source_in laid r)
        (λ _. first_temps)) (sym (same_parts laid p from))
        (section_lowered laid graph (has_graphs laid p from is few tables store pair w reached) main main_is)

    begins : IsEntered (alone (shape_in laid x) (section_in laid x)) (section_tables p lists) (first_memory laid)
        (λ _. first_temps)
    begins =
        (sections_hand_over p is Founded tables store pair has_it (first_memory laid)
        (memory_kept laid p from is few tables store pair)).0

    -- a world of the theorem's for the whole
    record IsWhole : Type 0 where
      held : ℕ
      whole : IsWholeReached (shape_in laid x) (source_in laid x) (section_in laid x) (section_source_in laid x)
          (first_memory laid) (whole_in laid x w held)

    whole_reached : IsWhole
    whole_reached =
        let im : IsImage laid graph w = imaged laid graph from.file few main main_is w reached in
        record {
          held = im.held;
          whole = subst (λ (u : Parts). IsWholeReached (shape_in laid u) (source_in laid u) (section_in laid u)
              (section_source_in laid u) (first_memory laid) (whole_in laid u w im.held))
              (sym (same_parts laid p from)) im.reached;
        }

    abbrev IsFirst : Type 0
    IsFirst = (let v = whole_reached in IsFirstPhase (shape_in laid x) (source_in laid x) (section_in laid x)
        (section_source_in laid x) (first_memory laid) (whole_in laid x w v.held))

    abbrev IsSecond : Type 0
    IsSecond = (let v = whole_reached in IsSecondPhase (shape_in laid x) (source_in laid x) (section_in laid x)
        (section_source_in laid x) (first_memory laid) (whole_in laid x w v.held))

    phases : IsFirst ⊎ IsSecond
    phases =
        let v = whole_reached in
        two_phases (shape_in laid x) (source_in laid x) (section_in laid x) (section_source_in laid x)
        (first_memory laid) (whole_in laid x w v.held) v.whole

    apart : (y : ℕ) (i : TaskOf p.tasks) → IsOwned p.laid y p.tasks → IsOwned p.laid y (number_of p.tasks i) → ⊥
    apart =
        subst (λ (u : Parts). (y : ℕ) (i : TaskOf u.tasks) → IsOwned u.laid y u.tasks
        → IsOwned u.laid y (number_of u.tasks i) → ⊥) (sym (same_parts laid p from))
        (owned_apart laid graph (has_graphs laid p from is few tables store pair w reached))

    -- the tasks enter with what the section leaves
    module _ (two : IsSecond) where
      entered_by : (t : Tables (shape_in laid x)) → IsSolution (shape_in laid x) t
          → IsHandover (shape_in laid x) (section_in laid x) t (section_tables p lists) (first_memory laid) first_temps
          (λ i. first_temps)
          → (let l = two.left in IsEntered (shape_in laid x) t l.content (λ i. first_temps))
      entered_by t sol hand =
          left_behind (shape_in laid x) (section_in laid x) t (section_tables p lists) (shapes_lawful p is Founded).0
          sol ((shapes_lawful p is Founded).1 has_it) ((pairs_cover p is Founded tables store pair).1 has_it) apart
          (first_memory laid) first_temps (λ i. first_temps) begins hand (section_source_in laid x) section_lowers
          two.left two.left_reached two.left_done

      by_handover : IsHandedOver p lists store (first_memory laid) first_temps (λ i. first_temps)
          → (i : TaskOf p.tasks) (place : ℕ) (m : Memory) → Comes_to (x.number i) place m
          → IsMetAt laid p is lists w (x.number i) place m.temps
      by_handover (by_end h) =
          by_solution (let l = two.left in l.content)
          (entered_by (members_of p lists store) (pairs_cover p is Founded tables store pair).0 h) two.reached
      by_handover (by_nothing h) =
          by_nobody (let l = two.left in l.content)
          (entered_by (nothing_of p) (let n = holds_nothing p in n.solution) h) two.reached

      afterwards : (i : TaskOf p.tasks) (place : ℕ) (m : Memory) → Comes_to (x.number i) place m
          → IsMetAt laid p is lists w (x.number i) place m.temps
      afterwards =
          by_handover
          ((sections_hand_over p is Founded tables store pair has_it (first_memory laid)
          (memory_kept laid p from is few tables store pair)).1 first_temps (λ i. first_temps))

    task_after : IsFirst ⊎ IsSecond → status_of w T ≡ Done → (i : TaskOf p.tasks) (place : ℕ) (m : Memory)
        → Comes_to (x.number i) place m → IsMetAt laid p is lists w (x.number i) place m.temps
    task_after (inl one) over i place m come = absurd (one.not_done (ap status_as (ap (status_of w) count ∙ over)))
    task_after (inr two) over i place m come = afterwards two i place m come

    -- ### The section

    section_fits : (q : Node s) (t : State) → state_at p 1 s.number s.rank lists q ≡ Some t
        → FitsPlace p.laid p.tasks (OfTypes p.laid (types_of (is.sorts p.tasks)))
        (live_at (body_at p p.tasks) q.place) t
    section_fits =
        let whole = pair.solves in
        state_fits p is 1 s.number s.rank (λ i. has_it) (λ i. Founded.graphs p.tasks has_it) lists no_interference
        (nothing_fits p.laid p.tasks) (λ i. Some (first_state p.laid p.tasks)) (λ i. first_fits p is p.tasks has_it)
        (λ i. whole.begins has_it)

    section_comes : IsFirst ⊎ IsSecond → (status_of w T ≡ Done → ⊥) → (place : ℕ) (m : Memory)
        → Comes_to p.tasks place m → IsMetAt laid p is lists w p.tasks place m.temps
    section_comes (inr two) not place m come =
        absurd (not (ap (status_of w) (sym count) ∙ is_done_status (status_of w p.tasks) two.is_done))
    section_comes (inl one) not place m come =
        let v = whole_reached in
        let h = met s (next laid) (λ i. (Founded.graphs p.tasks has_it).plain) (λ i. keeps p.tasks has_it)
        ((shapes_lawful p is Founded).1 has_it) (first_memory laid) section_lowers (section_tables p lists)
        ((pairs_cover p is Founded tables store pair).1 has_it) begins (tasks_of_count 1)
        (each_task s (section_source_in laid x))
        (main_of (shape_in laid x) (source_in laid x) (section_in laid x) (section_source_in laid x)
        (whole_in laid x w v.held)) one.reached tt place m come in
        met_at laid p is 1 s.number s.rank lists (λ j l z u. Unit {0}) (λ j k z u. Unit {0}) section_fits w tt place
        m.temps h.inside h.locals h.comes

  -- ## All bodies

  pub all_met : (t : ℕ) → MayAct laid w t → (place : ℕ) (m : Memory) → Comes_to t place m
      → IsMetAt laid p is lists w t place m.temps
  all_met t (task_acts main_is task lt) place m come =
      let i = task_of task lt in
      subst (λ j. IsMetAt laid p is lists w j place m.temps) i.is
      (plainly main_is i.task place m (subst (λ j. Comes_to j place m) (sym i.is) come))
  all_met t (task_acts_after main main_is over task lt) place m come =
      let i = task_of task lt in
      subst (λ j. IsMetAt laid p is lists w j place m.temps) i.is
      (task_after main main_is (phases main main_is) over i.task place m
      (subst (λ j. Comes_to j place m) (sym i.is) come))
  all_met t (section_acts main main_is not) place m come =
      subst (λ j. IsMetAt laid p is lists w j place m.temps) count
      (section_comes main main_is (phases main main_is) not place m (subst (λ j. Comes_to j place m) (sym count) come))
