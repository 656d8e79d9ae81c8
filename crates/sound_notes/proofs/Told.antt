-- What the contexts of alarms tell of each run that comes to one of them.
use Rattle.std.proofs.Common.{◌≡◌, inl, inr, refl, sym, ap, subst, ◌∙◌, ℕ, zero, suc, ◌<◌, ◌≤◌, ◌^◌, true}
use Rattle.std.proofs.Common.{List, [], ◌∷◌, length, get_or, Option, Some, arith}
use Rattle.std.specs.Prelude.{Contains}
use Rattle.sound_tables.specs.tm_laid.Layouts.{LaidTree}
use Rattle.sound_tables.specs.concrete_steps.Worlds.{World}
use Rattle.sound_tables.specs.flow_graph.declared.graphs.Edge.{Edge}
use Rattle.sound_tables.specs.flow_graph.Graphs.{Edges, Among}
use Rattle.sound_tables.specs.flow_graph.Operations.{used}
use Rattle.sound_tables.specs.flow_graph.Runs.{Memory}
use Rattle.sound_tables.specs.mutex_configs.declared.nodes.ConfiguredNode.{ConfiguredNode}
use Rattle.sound_tables.specs.mutex_configs.declared.nodes.EdgeCopy.{EdgeCopy}
use Rattle.sound_tables.specs.interfere_set.Stores.{Interferences}
use Rattle.sound_tables.specs.transfer_rows.StateForms.{State, value_of, temp_value}
use Rattle.sound_tables.specs.transfer_rows.Accesses.{is_among}
use Rattle.sound_tables.specs.transfer_rows.Covering.{HasTemp}
use Rattle.sound_tables.specs.program_reports.pointer_dom.Values.{IsValueIn, no_value}
use Rattle.sound_tables.specs.program_reports.Reports.{copy_in}
use Rattle.sound_tables.specs.temporary_types.Sorts.{types_of}
use Rattle.sound_tables.specs.task_equations.Bodies.{Body, no_edge, edge_of, live_at}
use Rattle.sound_tables.specs.task_equations.Premises.{IsCopyOf}
use Rattle.sound_tables.specs.program_equations.Programs.{ProgramBodies, body_at, IsProgram}
use Rattle.sound_tables.specs.program_equations.Solutions.{tables_of as lists_of, IsPair}
use Rattle.sound_tables.specs.Premises.{IsGraphOf}
use Rattle.sound_tables.specs.Memberships.{found_at, scalar_as}
use Rattle.sound_tables.specs.Laws.{IsFounded}
use Rattle.sound_tables.proofs.low.pointer_dom.Meaning.{value_included}
use Rattle.sound_tables.proofs.Arriving.{live_has}
use Rattle.sound_tables.proofs.Copies.{numbered}
use Rattle.alarm_contexts.specs.declared.alarm_context.AlarmContexts.{AlarmContexts}
use Rattle.alarm_contexts.specs.Contexts.{IsContextOf, AreContexts}
use Rattle.sound_core.specs.Sound.{IsProgramFrom}
use Rattle.sound_core.specs.Stops.{LiesWithin}
use Rattle.sound_core.proofs.GroupedAccesses.{good}
use Rattle.sound_notes.specs.Passes.{node_now, edge_in, ComesToAlarm, ListsOperands}
use Rattle.sound_notes.proofs.MetStates.{IsMetAt}
use Rattle.sound_notes.proofs.Coming.{all_met}

-- ## Lists

among_numbered : (g : Edges) (k : ℕ) (d : Edge) → k < length g → Among (get_or g k d) g
among_numbered [] k d lt = absurd (omega (arith, lt))
among_numbered (e ∷ g) zero d lt = inl refl
among_numbered (e ∷ g) (suc k) d lt = inr (among_numbered g k d (omega (arith, lt)))

among_at : (xs : List ℕ) (role : ℕ) → role < length xs → Among (get_or xs role 0) xs
among_at [] role lt = absurd (omega (arith, lt))
among_at (x ∷ xs) zero lt = inl refl
among_at (x ∷ xs) (suc role) lt = inr (among_at xs role (omega (arith, lt)))

some_same : (a b : State) → (let x : Option State = Some a in x) ≡ Some b → a ≡ b
some_same a b e = cc

-- ## Where a run comes before a copy of an edge

module _ (laid : LaidTree) (p : ProgramBodies) (from : IsProgramFrom laid p) (is : IsProgram p)
    (few : length laid.objects ≤ 2 ^ 32) (tables : List (List (Option State))) (store : Interferences)
    (pair : IsPair p tables store) (w : World) (told : AlarmContexts) (t k : ℕ) (m : Memory)
    (c : ComesToAlarm laid p (lists_of tables) w told t k m) where
  abbrev b : Body
  b = body_at p t

  abbrev copy : EdgeCopy
  copy = copy_in p t k

  abbrev edge : Edge
  edge = edge_of b copy

  abbrev place : ℕ
  place = (let h = c.comes in h.place)

  pub met : IsMetAt laid p is (lists_of tables) w t place m.temps
  met = all_met laid p from is few tables store pair w c.reached t c.may place m (let h = c.comes in h.comes)

  -- the state of the node is that of the context
  pub same_state : (let h = met in h.state) ≡ c.state
  same_state =
      let h = met in
      let r = (let x = c.context in x.reached) in
      let at : found_at (lists_of tables t) (Some copy.from) ≡ Some h.state =
      ap (found_at (lists_of tables t)) (sym (let x = c.comes in x.leaves)) ∙ h.at in
      some_same h.state c.state (sym at ∙ r.state)

  pub copied : IsCopyOf b copy
  copied = (let r = (let x = c.context in x.reached) in (is.each t r.body).body.copies k r.copy)

  pub edge_among : Among edge b.edges
  edge_among = (let o = copied in among_numbered b.edges copy.edge no_edge o.edge)

  -- it leaves the place to which the run comes
  pub edge_from : edge.from ≡ place
  edge_from =
      let o = copied in
      let node = numbered b.nodes (node_now laid w t place) copy.from (let x = c.comes in x.leaves) in
      sym o.leaves ∙ ap (λ (q : ConfiguredNode). q.place) node.1

  graph : IsGraphOf p t
  graph =
      let g : IsFounded p is = good laid p from is few tables store pair w c.reached in
      let r = (let x = c.context in x.reached) in g.graphs t r.body

  -- what it uses has a value
  pub lives : (u : ℕ) → Among u (used edge.op) → (let h = met in HasTemp h.state u)
  lives u among =
      let h = met in
      live_has p.laid t (types_of (is.sorts t)) (live_at b place) h.state h.fits u
      (subst (λ v. is_among (live_at b v) u ≡ true) edge_from (let g = graph in g.uses edge u edge_among among))

  operands_told : (alarms : List AlarmContexts) → AreContexts p (lists_of tables) alarms → Contains alarms told
      → LiesWithin laid p w told (edge_in p t k) m
  operands_told alarms are has role lt =
      let h = met in
      let of : IsContextOf p (lists_of tables) told = are.each told has in
      let u = get_or (used edge.op) role 0 in
      let e : HasTemp h.state u = lives u (among_at (used edge.op) role lt) in
      let own : IsValueIn (value_of h.state u) (scalar_as (m.temps u)) =
      subst (λ o. IsValueIn (temp_value o) (scalar_as (m.temps u))) (sym e.stands)
      (h.ins.in_value u e.entry e.stands) in
      value_included (value_of c.state u) (get_or told.operands.items role no_value) (scalar_as (m.temps u))
      ((of.operands role).above (value_of c.state u)
      (record { body = t; copy = k; state = c.state; context = c.context; within = lt; value = refl }))
      (subst (λ s. IsValueIn (value_of s u) (scalar_as (m.temps u))) same_state own)

pub operands_listed : (laid : LaidTree) (p : ProgramBodies) → IsProgramFrom laid p → (is : IsProgram p)
    → length laid.objects ≤ 2 ^ 32 → (tables : List (List (Option State))) (store : Interferences)
    → IsPair p tables store → (alarms : List AlarmContexts) → AreContexts p (lists_of tables) alarms
    → ListsOperands laid p (lists_of tables) alarms
operands_listed laid p from is few tables store pair alarms are w told t k m has c =
    operands_told laid p from is few tables store pair w told t k m c alarms are has
