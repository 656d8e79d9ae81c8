-- Where a run stops with an error, the contexts of the alarm tell it.
use native.Mathlib.Decide.{ℕ_discrete}
use Rattle.std.proofs.Common.{◌≡◌, refl, sym, ap, subst, ◌∙◌, ℕ, ◌<◌, ◌≤◌, ◌^◌, List, [], length, Option, Some, None}
use Rattle.std.proofs.Common.{get_or, arith}
use Rattle.std.specs.Prelude.{Contains}
use Rattle.sound_tables.specs.tm_cint.declared.Class.{Class}
use Rattle.sound_tables.specs.tm_terms.declared.alarms.Alarm.{Alarm}
use Rattle.sound_tables.specs.tm_terms.declared.places.Place.{Place}
use Rattle.sound_tables.specs.tm_laid.Layouts.{LaidTree}
use Rattle.sound_tables.specs.concrete_values.declared.values.Value.{Value}
use Rattle.sound_tables.specs.concrete_steps.declared.worlds.Choice.{Choice}
use Rattle.sound_tables.specs.concrete_steps.declared.worlds.Status.{Status}
use Rattle.sound_tables.specs.concrete_steps.declared.worlds.Status.TheVariants.{Waiting, Ready, Blocked, Done}
use Rattle.sound_tables.specs.concrete_steps.declared.worlds.Stepped.TheVariants as Steps
use Rattle.sound_tables.specs.concrete_steps.Worlds.{World, step, standing, holds, next_at}
use Rattle.sound_tables.specs.concrete_steps.Moves.{status_of}
use Rattle.sound_tables.specs.concrete_steps.Occurring.{IsReached}
use Rattle.sound_tables.specs.tm_laid.Paths.{listed}
use Rattle.sound_tables.specs.flow_graph.Operations.{used}
use Rattle.sound_tables.specs.interfere_set.Stores.{Interferences, no_interference}
use Rattle.sound_tables.specs.transfer_rows.StateForms.{State, value_of}
use Rattle.sound_tables.specs.transfer_rows.Contributions.{entry_at}
use Rattle.sound_tables.specs.program_reports.pointer_dom.Values.{IsValueIn, no_value}
use Rattle.sound_tables.specs.program_reports.table_covers.Solutions.{NodeTable}
use Rattle.sound_tables.specs.temporary_types.Sorts.{types_of}
use Rattle.sound_tables.specs.program_reports.state_fits.Kinds.{OfTypes}
use Rattle.sound_tables.specs.program_reports.state_fits.Fits.{FitsPlace}
use Rattle.sound_tables.specs.program_reports.Reports.{copy_in, operation_in}
use Rattle.sound_tables.specs.task_equations.Bodies.{live_at}
use Rattle.sound_tables.specs.program_equations.Programs.{ProgramBodies, body_at, HasSection, IsProgram}
use Rattle.sound_tables.specs.program_equations.Entries.{first_state}
use Rattle.sound_tables.specs.program_equations.laws.TaskEntries.{first_fits}
use Rattle.sound_tables.specs.program_equations.laws.StoresFit.{nothing_fits}
use Rattle.sound_tables.specs.program_equations.Solutions.{tables_of as lists_of, table_at, IsPair}
use Rattle.sound_tables.specs.tm_soundness.Section.{alone}
use Rattle.sound_tables.specs.tm_soundness.Worlds.{IsLowered}
use Rattle.sound_tables.specs.tm_soundness.WholeWorlds.{main_of}
use Rattle.sound_tables.specs.tm_soundness.GraphWorlds.{done}
use Rattle.sound_tables.specs.tm_soundness.Numbered.{TaskOf}
use Rattle.sound_tables.specs.tm_soundness.Known.{IsKnown}
use Rattle.sound_tables.specs.program_shape.Shape.{Parts, Node, number_of}
use Rattle.sound_tables.specs.Programs.{parts_of, section_alone}
use Rattle.sound_tables.specs.Memberships.{tables_of as members_of, section_tables, scalar_as, state_at}
use Rattle.sound_tables.proofs.low.pointer_dom.Meaning.{value_included}
use Rattle.sound_tables.proofs.low.program_shape.TaskNumbers.{IsNumbered, task_with}
use Rattle.sound_tables.proofs.Arriving.{state_fits}
use Rattle.sound_tables.proofs.Lawful.{in_bodies, shapes_lawful, pairs_cover}
use Rattle.sound_tables.proofs.Pairs.{within, entry, entry-fits, solves}
use Rattle.sound_addresses.specs.sound_runs.Images.{status_as}
use Rattle.sound_addresses.specs.sound_runs.Programs.{first_temps, first_memory, shape_in, section_in, source_in}
use Rattle.sound_addresses.specs.sound_runs.Programs.{section_source_in}
use Rattle.sound_addresses.specs.sound_runs.Known.{tasks_in, whole_in, IsKnownIn}
use Rattle.sound_addresses.proofs.low.sound_runs.Halted.{HaltsBy, IsHalted, step_halts}
use Rattle.sound_addresses.proofs.low.sound_runs.Imaged.{imaged, main_over}
use Rattle.sound_addresses.proofs.low.sound_runs.Programs.{section_lowered}
use Rattle.sound_addresses.proofs.low.sound_runs.Starts.{standings_counted, ready_within}
use Rattle.alarm_contexts.specs.declared.alarm_context.ContextEdge.{ContextEdge}
use Rattle.alarm_contexts.specs.declared.alarm_context.AlarmContexts.{AlarmContexts}
use Rattle.alarm_contexts.specs.Contexts.{IsContext, IsContextOf, AreContexts, HasAlarm, alarm_of}
use Rattle.sound_core.specs.Sound.{IsProgramFrom}
use Rattle.sound_core.specs.Places.{MayAct, section_acts, task_acts_after, task_acts}
use Rattle.sound_core.specs.Stops.{IsToldStop, ListsStops}
use Rattle.sound_core.proofs.FileBodies.{same_parts}
use Rattle.sound_core.proofs.Alarmed.{has_section}
use Rattle.sound_core.proofs.Known.{known}
use Rattle.sound_core.proofs.GroupedAccesses.{good, graphs_are, lowered, holding, tasks_known, task_of, has_graphs}
use Rattle.sound_core.proofs.ListedStops.{IsListedStop, stop_listed}

-- ## What the contexts tell

module _ (laid : LaidTree) (p : ProgramBodies) (tables : ℕ → NodeTable State) (w : World) (alarms : List AlarmContexts)
    (are : AreContexts p tables alarms) where
  told_stop : (t : ℕ) (class : Class) (place : Place) → IsListedStop laid p tables w t class place
      → IsToldStop laid p w alarms class place
  told_stop t class place l =
      let h : HasAlarm alarms place class =
      are.all place class (record { body = t; copy = l.copy; state = l.state; context = l.context }) in
      let told = h.one in
      let of : IsContextOf p tables told = are.each told h.has in
      let here : IsContext p tables told.place told.class t l.copy l.state =
      subst (λ a. IsContext p tables (place_in a) (class_in a) t l.copy l.state) (sym h.is) l.context in
      let edge : ContextEdge = record { body = t; edge = (let c = copy_in p t l.copy in c.edge) } in
      record {
        told = told;
        has = h.has;
        is = h.is;
        edge = edge;
        has_edge = (of.edges edge).1 (record { copy = l.copy; state = l.state; context = here; edge = refl });
        memory = l.memory;
        stands = l.stands;
        operands = λ role lt.
            value_included (value_of l.state (get_or (used (operation_in p t l.copy)) role 0))
            (get_or told.operands.items role no_value)
            (scalar_as (l.memory.temps (get_or (used (operation_in p t l.copy)) role 0)))
            ((of.operands role).above (value_of l.state (get_or (used (operation_in p t l.copy)) role 0))
            (record { body = t; copy = l.copy; state = l.state; context = here; within = lt; value = refl }))
            (l.operands role lt);
      }
    where
      place_in : Alarm → Place
      place_in a = a.place

      class_in : Alarm → Class
      class_in a = a.class

-- ## Runs

module _ (laid : LaidTree) (p : ProgramBodies) (from : IsProgramFrom laid p) (is : IsProgram p)
    (few : length laid.objects ≤ 2 ^ 32) (tables : List (List (Option State))) (store : Interferences)
    (pair : IsPair p tables store) (w : World) (reached : IsReached laid w) where
  abbrev x : Parts
  x = parts_of p

  abbrev lists : ℕ → NodeTable State
  lists = lists_of tables

  abbrev T : ℕ
  T = length laid.file.tasks

  fits : (q : Node x) (s : State) → state_at p p.tasks x.number x.rank lists q ≡ Some s
      → FitsPlace p.laid (number_of p.tasks q.task) (OfTypes p.laid (types_of (is.sorts (number_of p.tasks q.task))))
      (live_at (body_at p (number_of p.tasks q.task)) q.place) s
  fits =
      let section = table_at tables p.tasks in
      let whole = pair.solves in
      let graphs = graphs_are laid p from is few tables store pair w reached in
      state_fits p is p.tasks x.number x.rank (within p is section lists store whole graphs) graphs lists store
      whole.fits (entry p is section lists store whole graphs) (entry-fits p is section lists store whole graphs)
      (solves p is section lists store whole graphs)

  task_stops : (task : ℕ) → task < T → MayAct laid w task → (class : Class) (place : Place)
      → HaltsBy (next_at laid w task) (standing w task) class place → IsListedStop laid p lists w task class place
  task_stops task lt may class place halts =
      let t = task_of laid p from is few tables store pair w reached task lt in
      let k = tasks_known laid p from is few tables store pair w reached task lt may in
      let good' = good laid p from is few tables store pair w reached in
      subst (λ j. IsListedStop laid p lists w j class place) t.is
      (stop_listed laid p is p.tasks x.number x.rank (in_bodies p is)
      (graphs_are laid p from is few tables store pair w reached) lists
      (λ j l z v. IsValueIn (entry_at store.weak (x.number j) l z) (scalar_as v))
      (λ j m z v. IsValueIn (entry_at store.sync (x.number j) m z) (scalar_as v)) w k.0
      (λ i. first_temps) (tasks_in laid x w) k.1 (shapes_lawful p is good').0 (pairs_cover p is good' tables store pair).0
      (lowered laid p from is few tables store pair w reached) (λ i. refl)
      (holding laid p from is few tables store pair w reached) fits t.task class place
      (subst (λ j. HaltsBy (next_at laid w j) (standing w j) class place) (sym t.is) halts))

  -- ## The initial section

  module _ (main : ℕ) (main_is : laid.file.main ≡ Some main) (not : status_of w T ≡ Done → ⊥) where
    abbrev count : p.tasks ≡ T
    count = (let of = from.is in of.tasks)

    still : status_of w p.tasks ≡ Done → ⊥
    still e = not (ap (status_of w) (sym count) ∙ e)

    is_done_status : (st : Status) → status_as st ≡ done → st ≡ Done
    is_done_status Done e = refl
    is_done_status Waiting e = absurd (cc)
    is_done_status Ready e = absurd (cc)
    is_done_status (Blocked m) e = absurd (cc)

    has_it : HasSection p
    has_it = has_section laid p from is few tables store pair main main_is

    all : IsKnownIn laid x (members_of p lists store) (section_tables p lists) w
    all = known laid p from is few tables store pair main main_is w reached

    seen : IsKnown (alone (shape_in laid x) (section_in laid x)) (section_tables p lists) (section_source_in laid x) (first_memory laid) (λ i. first_temps)
        (main_of (shape_in laid x) (source_in laid x) (section_in laid x) (section_source_in laid x)
        (whole_in laid x w all.held))
    seen = (let a = all.known in a.before (λ e. still (is_done_status (status_of w p.tasks) e))).0

    abbrev s : Parts
    s = section_alone p

    section_fits : (q : Node s) (t : State) → state_at p 1 s.number s.rank lists q ≡ Some t
        → FitsPlace p.laid p.tasks (OfTypes p.laid (types_of (is.sorts p.tasks))) (live_at (body_at p p.tasks) q.place) t
    section_fits =
        let good' = good laid p from is few tables store pair w reached in
        let whole = pair.solves in
        state_fits p is 1 s.number s.rank (λ i. has_it) (λ i. good'.graphs p.tasks has_it) lists no_interference
        (nothing_fits p.laid p.tasks) (λ i. Some (first_state p.laid p.tasks)) (λ i. first_fits p is p.tasks has_it)
        (λ i. whole.begins has_it)

    section_lowers : IsLowered (alone (shape_in laid x) (section_in laid x)) (section_source_in laid x)
        (λ _. first_temps)
    section_lowers =
        subst (λ (r : Parts). IsLowered (alone (shape_in laid r) (section_in laid r)) (section_source_in laid r)
        (λ _. first_temps)) (sym (same_parts laid p from))
        (section_lowered laid (λ t. (let b = body_at p t in b.edges))
        (has_graphs laid p from is few tables store pair w reached) main main_is)

    section_stops : (class : Class) (place : Place) → HaltsBy (next_at laid w T) (standing w T) class place
        → IsListedStop laid p lists w T class place
    section_stops class place halts =
        let good' = good laid p from is few tables store pair w reached in
        subst (λ j. IsListedStop laid p lists w j class place) count
        (stop_listed laid p is 1 s.number s.rank (λ i. has_it) (λ i. good'.graphs p.tasks has_it) lists
        (λ j l z v. Unit {0}) (λ j m z v. Unit {0}) w (first_memory laid) (λ i. first_temps)
        (main_of (shape_in laid x) (source_in laid x) (section_in laid x) (section_source_in laid x)
        (whole_in laid x w all.held)) seen
        ((shapes_lawful p is good').1 has_it) ((pairs_cover p is good' tables store pair).1 has_it) section_lowers
        (λ i. refl) (λ i m lt. all.same still m lt) section_fits tt class place
        (subst (λ j. HaltsBy (next_at laid w j) (standing w j) class place) (sym count) halts))

  -- ## Both

  ready_is_not_done : (st : Status) → st ≡ Ready → st ≡ Done → ⊥
  ready_is_not_done st e f = let g : Ready ≡ Done = sym e ∙ f in cc

  -- a body whose step stops is the initial section, or a task after it
  module _ (class : Class) (place : Place) (h : IsHalted laid w class place) where
    with_section : (main : ℕ) → laid.file.main ≡ Some main → Dec (h.task ≡ T)
        → IsListedStop laid p lists w h.task class place
    with_section main main_is (yes same) =
        subst (λ j. IsListedStop laid p lists w j class place) (sym same)
        (section_stops main main_is (ready_is_not_done (status_of w T) (ap (status_of w) (sym same) ∙ h.ready)) class place
        (subst (λ j. HaltsBy (next_at laid w j) (standing w j) class place) same h.halts))
    with_section main main_is (no differs) =
        let lt = ready_within w h.task h.ready in
        let n = standings_counted laid w reached in
        let one : length (listed laid.file.main) ≡ 1 = ap (λ o. length (listed o)) main_is in
        let below : h.task < T = omega (arith, lt, n, one, differs) in
        let t = task_with T h.task below in
        let over = main_over laid (λ t. []) from.file few main main_is w
        (imaged laid (λ t. []) from.file few main main_is w reached) t.task (ap (status_of w) t.is ∙ h.ready) in
        task_stops h.task below (task_acts_after main main_is over h.task below) class place h.halts

    without_section : laid.file.main ≡ None → IsListedStop laid p lists w h.task class place
    without_section none =
        let lt = ready_within w h.task h.ready in
        let n = standings_counted laid w reached in
        let zero : length (listed laid.file.main) ≡ 0 = ap (λ o. length (listed o)) none in
        let below : h.task < T = omega (arith, lt, n, zero) in
        task_stops h.task below (task_acts none h.task below) class place h.halts

    by_section : (o : Option ℕ) → laid.file.main ≡ o → IsListedStop laid p lists w h.task class place
    by_section None e = without_section e
    by_section (Some main) e = with_section main e (ℕ_discrete h.task T)

  stop_is_told : (alarms : List AlarmContexts) → AreContexts p lists alarms → (c : Choice) (class : Class)
      (place : Place) → (step laid w c).answer ≡ Steps.Stopped class place → IsToldStop laid p w alarms class place
  stop_is_told alarms are c class place e =
      let h = step_halts laid w class place c e in
      told_stop laid p lists w alarms are h.task class place (by_section class place h laid.file.main refl)

pub stops_listed : (laid : LaidTree) (p : ProgramBodies) → IsProgramFrom laid p → (is : IsProgram p)
    → length laid.objects ≤ 2 ^ 32 → (tables : List (List (Option State))) (store : Interferences)
    → IsPair p tables store → (alarms : List AlarmContexts) → AreContexts p (lists_of tables) alarms
    → ListsStops laid p alarms
stops_listed laid p from is few tables store pair alarms are w reached =
    stop_is_told laid p from is few tables store pair w reached alarms are
