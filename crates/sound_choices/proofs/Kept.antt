-- Where a run comes before a copy of an edge, the state of its node covers what it comes with: so what the list is of
-- there is in the list.
use Rattle.std.proofs.Common.{◌≡◌, inl, inr, refl, sym, ap, subst, ◌∙◌, ℕ, zero, suc, ◌<◌, ◌≤◌, ◌^◌, true, pos}
use Rattle.std.proofs.Common.{List, [], ◌∷◌, length, get_or, Option, Some, arith}
use Rattle.std.specs.Prelude.{Contains, slice_get, ◌*ℤ◌, not}
use Rattle.sound_tables.specs.tm_terms.declared.places.Place.{Place}
use Rattle.sound_tables.specs.tm_laid.Layouts.{LaidTree}
use Rattle.sound_tables.specs.concrete_values.declared.values.Value.{Value}
use Rattle.sound_tables.specs.concrete_values.declared.values.Value.TheVariants.{Number, Pointer as APointer}
use Rattle.sound_tables.specs.concrete_values.declared.values.Pointer.TheVariants as Pointers
use Rattle.sound_tables.specs.concrete_steps.Worlds.{World}
use Rattle.sound_tables.specs.flow_graph.declared.graphs.Edge.{Edge}
use Rattle.sound_tables.specs.flow_graph.declared.operations.Operation.{Operation}
use Rattle.sound_tables.specs.flow_graph.Graphs.{Edges, Among}
use Rattle.sound_tables.specs.flow_graph.Operations.{used}
use Rattle.sound_tables.specs.flow_graph.Runs.{Memory}
use Rattle.sound_tables.specs.mutex_configs.declared.nodes.ConfiguredNode.{ConfiguredNode}
use Rattle.sound_tables.specs.mutex_configs.declared.nodes.EdgeCopy.{EdgeCopy}
use Rattle.sound_tables.specs.interfere_set.Stores.{Interferences}
use Rattle.sound_tables.specs.transfer_rows.StateForms.{State, value_of, temp_value}
use Rattle.sound_tables.specs.transfer_rows.Accesses.{is_among}
use Rattle.sound_tables.specs.transfer_rows.Covering.{HasTemp}
use Rattle.sound_tables.specs.program_reports.pointer_dom.Values.{IsValueIn}
use Rattle.sound_tables.specs.program_reports.pointer_dom.Advances.{directed}
use Rattle.sound_tables.specs.program_reports.Reports.{copy_in}
use Rattle.sound_tables.specs.temporary_types.Sorts.{types_of}
use Rattle.sound_tables.specs.task_equations.Bodies.{Body, no_edge, edge_of, live_at}
use Rattle.sound_tables.specs.task_equations.Premises.{IsCopyOf}
use Rattle.sound_tables.specs.program_equations.Programs.{ProgramBodies, body_at, IsProgram}
use Rattle.sound_tables.specs.program_equations.Solutions.{tables_of as lists_of, IsPair}
use Rattle.sound_tables.specs.Premises.{IsGraphOf}
use Rattle.sound_tables.specs.Memberships.{found_at, scalar_as}
use Rattle.sound_tables.specs.Laws.{IsFounded}
use Rattle.sound_tables.proofs.Arriving.{live_has}
use Rattle.sound_tables.proofs.Copies.{numbered}
use Rattle.sound_core.specs.Sound.{IsProgramFrom}
use Rattle.sound_core.proofs.GroupedAccesses.{good}
use Rattle.sound_notes.specs.Passes.{node_now}
use Rattle.sound_notes.proofs.MetStates.{IsMetAt}
use Rattle.sound_notes.proofs.Coming.{all_met}
use Rattle.edge_origins.specs.declared.origins.BodyOrigins.{BodyOrigins}
use Rattle.text_choices.specs.declared.kinds.Kind.TheVariants as Kinds
use Rattle.text_choices.specs.declared.kinds.Choice.{Choice}
use Rattle.operand_orders.specs.Reached.{SolvedBody, HasState}
use Rattle.open_choices.specs.Conversions.IsOfImplementation.{converted, shifted}
use Rattle.open_choices.specs.Lifetimes.{Uses}
use Rattle.open_choices.specs.Lifetimes.Uses.{follows, compares}
use Rattle.open_choices.specs.Lifetimes.IsOfLifetime.{used as used_closed}
use Rattle.open_choices.specs.Members.IsOfMember.{moved as moved_out}
use Rattle.open_choices.specs.Choices.{IsOfBody, AreChoices}
use Rattle.sound_choices.specs.Promises.{ComesTo, body_of, origin_of, ListsConversions, ListsShifts, ListsMoves}
use Rattle.sound_choices.specs.Promises.{ListsUses, ListsChoices}

-- ## Lists

among_numbered : (g : Edges) (k : ℕ) (d : Edge) → k < length g → Among (get_or g k d) g
among_numbered [] k d lt = absurd (omega (arith, lt))
among_numbered (e ∷ g) zero d lt = inl refl
among_numbered (e ∷ g) (suc k) d lt = inr (among_numbered g k d (omega (arith, lt)))

slice_numbered : {A : Type 0} (xs : List A) (k : ℕ) (d : A) → k < length xs → slice_get xs k ≡ Some (get_or xs k d)
slice_numbered [] k d lt = absurd (omega (arith, lt))
slice_numbered (x ∷ xs) zero d lt = refl
slice_numbered (x ∷ xs) (suc k) d lt = slice_numbered xs k d (omega (arith, lt))

-- what an operation that follows, compares or tests a pointer uses
uses_pointer : (op : Operation) (pointer : ℕ) (place : Place) → Uses op pointer place → Among pointer (used op)
uses_pointer op pointer place follows = inl refl
uses_pointer op pointer place compares = inl refl

module _ (laid seen : LaidTree) (p : ProgramBodies) (from : IsProgramFrom laid p) (is : IsProgram p)
    (few : length laid.objects ≤ 2 ^ 32) (tables : List (List (Option State))) (store : Interferences)
    (pair : IsPair p tables store) (origins : List BodyOrigins) where
  abbrev pub solved : ℕ → BodyOrigins → SolvedBody
  solved t noted = body_of laid seen p (lists_of tables) store origins [] t noted

  -- ## Where a run comes before a copy of an edge

  module _ (w : World) (t k : ℕ) (op : Operation) (m : Memory) (c : ComesTo laid p w t k op m) where
    abbrev b : Body
    b = body_at p t

    abbrev copy : EdgeCopy
    copy = copy_in p t k

    abbrev pub edge : Edge
    edge = edge_of b copy

    abbrev pub place : ℕ
    place = (let h = c.comes in h.place)

    pub met : IsMetAt laid p is (lists_of tables) w t place m.temps
    met = all_met laid p from is few tables store pair w c.reached t c.may place m (let h = c.comes in h.comes)

    abbrev pub state : State
    state = (let h = met in h.state)

    pub stands : lists_of tables t copy.from ≡ Some state
    stands =
        let h = met in
        ap (found_at (lists_of tables t)) (sym (let x = c.comes in x.leaves)) ∙ h.at

    pub copied : IsCopyOf b copy
    copied = (is.each t c.body).body.copies k c.copy

    pub edge_among : Among edge b.edges
    edge_among = (let o = copied in among_numbered b.edges copy.edge no_edge o.edge)

    pub edge_from : edge.from ≡ place
    edge_from =
        let o = copied in
        let node = numbered b.nodes (node_now laid w t place) copy.from (let x = c.comes in x.leaves) in
        sym o.leaves ∙ ap (λ (q : ConfiguredNode). q.place) node.1

    pub graph : IsGraphOf p t
    graph = (let g : IsFounded p is = good laid p from is few tables store pair w c.reached in g.graphs t c.body)

    pub lives : (u : ℕ) → Among u (used op) → HasTemp state u
    lives u among =
        let h = met in
        live_has p.laid t (types_of (is.sorts t)) (live_at b place) h.state h.fits u
        (subst (λ v. is_among (live_at b v) u ≡ true) edge_from
        (let g = graph in g.uses edge u edge_among (subst (λ o. Among u (used o)) (sym c.operation) among)))

    pub covered : (u : ℕ) → Among u (used op) → IsValueIn (value_of state u) (scalar_as (m.temps u))
    covered u among =
        let h = met in
        let e : HasTemp h.state u = lives u among in
        subst (λ o. IsValueIn (temp_value o) (scalar_as (m.temps u))) (sym e.stands)
        (h.ins.in_value u e.entry e.stands)

    pub covered_as : (u : ℕ) (v : Value) → Among u (used op) → m.temps u ≡ v
        → IsValueIn (value_of state u) (scalar_as v)
    covered_as u v among same = subst (λ x. IsValueIn (value_of state u) (scalar_as x)) same (covered u among)

    pub has : (noted : BodyOrigins) → HasState (solved t noted) copy.edge op state
    has noted = record {
      number = k;
      copy = copy;
      is = slice_numbered b.copies k _ c.copy;
      of = refl;
      state = stands;
      operation = c.operation;
    }

  -- ## The list

  module _ (others : Choice → Type 0) (choices : List Choice)
      (are : AreChoices seen p (lists_of tables) store origins others choices) where
    pub listed : (t : ℕ) → t < length p.bodies → (noted : BodyOrigins) → slice_get origins t ≡ Some noted
        → (choice : Choice) → IsOfBody (solved t noted) choice → Contains choices choice
    listed t lt noted there choice opens =
        let e = are.exact choice in
        e.1 (inr (record { body = t; is = lt; noted = noted; there = there; opens = opens }))

    conversions : ListsConversions laid seen p (lists_of tables) store origins choices
    conversions w t k to from' was of m n noted there c same beyond =
        let o = origin_of laid seen p (lists_of tables) store origins choices t k noted in
        listed t c.body noted there (record { place = o.place; kind = Kinds.Implementation })
        (converted (state w t k _ m c) n (has w t k _ m c noted)
        (covered_as w t k _ m c from' (Number n) (inl refl) same) beyond refl)

    shifts : ListsShifts laid seen p (lists_of tables) store origins choices
    shifts w t k to left right of place' m n noted there c same negative =
        listed t c.body noted there (record { place = place'; kind = Kinds.Implementation })
        (shifted (state w t k _ m c) n (has w t k _ m c noted)
        (covered_as w t k _ m c left (Number n) (inl refl) same) negative)

    moves : ListsMoves laid seen p (lists_of tables) store origins choices
    moves w t k to from' cells by minus place' m target object offset n array noted there c form same_from same_by at
        leaves =
        listed t c.body noted there (record { place = place'; kind = Kinds.Member })
        (moved_out (state w t k _ m c) target object offset (n *ℤ directed (not minus) cells) array
        (has w t k _ m c noted) form
        (covered_as w t k _ m c from' (APointer (Pointers.To object offset)) (inl refl) same_from)
        (record { factor = n; in_set = covered_as w t k _ m c by (Number n) (inr (inl refl)) same_by; product = refl })
        at leaves)

    uses : ListsUses laid seen p (lists_of tables) store origins choices
    uses w t k pointer object offset op place' m noted there u c same closed =
        let from_copy = copy_in p t k in
        listed t c.body noted there (record { place = place'; kind = Kinds.Lifetime })
        (used_closed from_copy.edge pointer object (state w t k _ m c) (has w t k _ m c noted) u
        (record {
          offset = pos offset;
          has = covered_as w t k _ m c pointer (APointer (Pointers.To object offset)) (uses_pointer op pointer place' u)
              same;
        }) closed)

pub choices_listed : (laid : LaidTree) (p : ProgramBodies) → IsProgramFrom laid p → (is : IsProgram p)
    → length laid.objects ≤ 2 ^ 32 → (tables : List (List (Option State))) (store : Interferences)
    → IsPair p tables store → (seen : LaidTree) (origins : List BodyOrigins) (others : Choice → Type 0)
    (choices : List Choice) → AreChoices seen p (lists_of tables) store origins others choices
    → ListsChoices laid seen p (lists_of tables) store origins choices
choices_listed laid p from is few tables store pair seen origins others choices are = record {
  conversions = conversions laid seen p from is few tables store pair origins others choices are;
  shifts = shifts laid seen p from is few tables store pair origins others choices are;
  moves = moves laid seen p from is few tables store pair origins others choices are;
  uses = uses laid seen p from is few tables store pair origins others choices are;
}
