-- Where an alarm is one of always, no run goes on by itself from its edges.
use Rattle.std.proofs.Common.{◌≡◌, sym, ap, subst, ◌∙◌, ℕ, ◌<◌, ◌≤◌, ◌^◌, true, List, length, Option, Some, None}
use Rattle.std.specs.Prelude.{Contains}
use Rattle.sound_tables.specs.tm_laid.Layouts.{LaidTree}
use Rattle.sound_tables.specs.concrete_steps.Worlds.{World}
use Rattle.sound_tables.specs.flow_graph.declared.graphs.Edge.{Edge}
use Rattle.sound_tables.specs.flow_graph.Operations.{Temps, Silent, effect}
use Rattle.sound_tables.specs.flow_graph.Runs.{Memory}
use Rattle.sound_tables.specs.mutex_configs.declared.nodes.EdgeCopy.{EdgeCopy}
use Rattle.sound_tables.specs.interfere_set.Stores.{Interferences}
use Rattle.sound_tables.specs.transfer_rows.StateForms.{State}
use Rattle.sound_tables.specs.transfer_rows.Actions.{Action, Around}
use Rattle.sound_tables.specs.transfer_rows.Rows.{after}
use Rattle.sound_tables.specs.transfer_rows.Covering.{AreSized, AreLocalsIn, LeadsTo, CoversCalculation}
use Rattle.sound_tables.specs.program_reports.edge_actions.Layouts.{is_shared_cell}
use Rattle.sound_tables.specs.program_reports.edge_actions.Edges.{action_of}
use Rattle.sound_tables.specs.program_reports.state_fits.Kinds.{OfTypes}
use Rattle.sound_tables.specs.program_reports.state_fits.Fits.{FitsPlace}
use Rattle.sound_tables.specs.temporary_types.Sorts.{types_of}
use Rattle.sound_tables.specs.task_equations.Bodies.{Body, edge_of, live_at}
use Rattle.sound_tables.specs.task_equations.Equations.{tests_pointer, action_along, around_along}
use Rattle.sound_tables.specs.program_equations.Programs.{ProgramBodies, body_at, IsProgram}
use Rattle.sound_tables.specs.program_equations.Solutions.{tables_of as lists_of, IsPair}
use Rattle.sound_tables.specs.program_reports.Reports.{copy_in}
use Rattle.sound_tables.specs.program_shape.Shape.{Does, by_itself}
use Rattle.sound_tables.specs.Meanings.{Means, sizes_of}
use Rattle.sound_tables.specs.Memberships.{scalars_as, action_at}
use Rattle.sound_tables.specs.Laws.{IsFounded}
use Rattle.sound_tables.proofs.Arriving.{are_sized}
use Rattle.sound_tables.proofs.Covering.{row_calc}
use Rattle.sound_tables.proofs.OperationKinds.{used_in, no_load}
use Rattle.sound_runs.proofs.Ways.{IsCalculation, silent_by}
use Rattle.alarm_contexts.specs.declared.alarm_context.AlarmContexts.{AlarmContexts}
use Rattle.alarm_contexts.specs.Contexts.{IsContextOf, AreContexts}
use Rattle.sound_core.specs.Sound.{IsProgramFrom}
use Rattle.sound_core.proofs.GroupedAccesses.{good}
use Rattle.sound_notes.specs.Passes.{ComesToAlarm, GoesOn, EndsAlways}
use Rattle.sound_notes.proofs.MetStates.{IsMetAt}
use Rattle.sound_notes.proofs.Coming.{keeps}
use Rattle.sound_notes.proofs.Told.{met, same_state, edge_among, edge_from, lives}

none_some : (o : Option State) (s : State) → o ≡ None → o ≡ Some s → ⊥
none_some o s e f = cc

module _ (laid : LaidTree) (p : ProgramBodies) (from : IsProgramFrom laid p) (is : IsProgram p)
    (few : length laid.objects ≤ 2 ^ 32) (tables : List (List (Option State))) (store : Interferences)
    (pair : IsPair p tables store) (w : World) (told : AlarmContexts) (t k : ℕ) (m : Memory)
    (c : ComesToAlarm laid p (lists_of tables) w told t k m) where
  abbrev b : Body
  b = body_at p t

  abbrev copy : EdgeCopy
  copy = copy_in p t k

  abbrev edge : Edge
  edge = edge_of b copy

  abbrev action : Action
  action = action_at p t copy.answer edge.op

  abbrev around : Around
  around = around_along b copy

  within : t < length p.bodies
  within = (let x = c.context in let r = x.reached in r.body)

  founded : IsFounded p is
  founded = good laid p from is few tables store pair w c.reached

  abbrev here : IsMetAt laid p is (lists_of tables) w t (let x = c.comes in x.place) m.temps
  here = met laid p from is few tables store pair w told t k m c

  abbrev s : State
  s = (let h = here in h.state)

  fits : FitsPlace p.laid t (OfTypes p.laid (types_of (is.sorts t))) (live_at b edge.from) s
  fits =
      let h = here in
      subst (λ v. FitsPlace p.laid t (OfTypes p.laid (types_of (is.sorts t))) (live_at b v) s)
      (sym (edge_from laid p from is few tables store pair w told t k m c)) h.fits

  -- the action of the copy
  same_action : action_along b copy ≡ action
  same_action =
      let own = (is.each t within).numbered in
      ap (λ l. action_of l b.task (tests_pointer b.pointers edge.op) copy.answer edge.op) own.laid
      ∙ ap (λ j. action_of p.laid j (tests_pointer b.pointers edge.op) copy.answer edge.op) own.number

  module _ (temps : Temps) (silent : effect p.laid edge.op m.temps ≡ Silent temps) where
    does : Does p.laid edge.op m.temps temps
    does =
        let h = here in
        by_itself
        (keeps laid p from is few tables store pair w c.reached t within (let x = c.comes in x.place) m.temps temps edge
        h.comes
        (record {
          among = edge_among laid p from is few tables store pair w told t k m c;
          from = edge_from laid p from is few tables store pair w told t k m c;
        }) silent) silent

    means : Means (sizes_of p.laid) action (scalars_as m.temps) (scalars_as temps)
    means =
        let f = founded in
        let h = here in
        (f.means t within).does edge (edge_among laid p from is few tables store pair w told t k m c) s fits m.temps
        temps h.ins does copy.answer

    sized : AreSized (sizes_of p.laid) s
    sized = are_sized p.laid t (types_of (is.sorts t)) (live_at b edge.from) s fits

    locals : AreLocalsIn around.is_shared s (scalars_as m.temps)
    locals =
        let h = here in
        let own = (is.each t within).numbered in
        subst (λ l. AreLocalsIn (is_shared_cell l) s (scalars_as m.temps)) (sym own.laid)
        (h.locals edge (edge_among laid p from is few tables store pair w told t k m c)
        (edge_from laid p from is few tables store pair w told t k m c))

    -- so the row of the action gives a state
    leads : LeadsTo (after around action s store)
        (λ s'. CoversCalculation s s' (scalars_as m.temps) (scalars_as temps))
    leads =
        let h = here in
        let calc : IsCalculation edge.op = silent_by p.laid edge.op m.temps temps silent in
        row_calc around (sizes_of p.laid) s (scalars_as m.temps) store h.ins sized locals action (scalars_as temps)
        (λ u used. lives laid p from is few tables store pair w told t k m c u
        (used_in p.laid t (tests_pointer b.pointers edge.op) copy.answer edge.op u used))
        (no_load p.laid t (tests_pointer b.pointers edge.op) copy.answer edge.op (calc.operation copy.answer)) means

  ends : (alarms : List AlarmContexts) → AreContexts p (lists_of tables) alarms → Contains alarms told
      → told.always ≡ true → GoesOn laid p w t k m → ⊥
  ends alarms are has always g =
      let of : IsContextOf p (lists_of tables) told = are.each told has in
      let none : after around (action_along b copy) c.state store ≡ None =
      of.always.0 always t k c.state c.context store in
      let l = leads g.temps g.silent in
      let same = same_state laid p from is few tables store pair w told t k m c in
      none_some (after around action s store) l.state
      (subst (λ r. after around action r store ≡ None) (sym same)
      (subst (λ a. after around a c.state store ≡ None) same_action none)) l.is

pub always_ends : (laid : LaidTree) (p : ProgramBodies) → IsProgramFrom laid p → (is : IsProgram p)
    → length laid.objects ≤ 2 ^ 32 → (tables : List (List (Option State))) (store : Interferences)
    → IsPair p tables store → (alarms : List AlarmContexts) → AreContexts p (lists_of tables) alarms
    → EndsAlways laid p (lists_of tables) alarms
always_ends laid p from is few tables store pair alarms are w told t k m has always c g =
    ends laid p from is few tables store pair w told t k m c alarms are has always g
