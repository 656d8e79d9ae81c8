-- Where a run comes to the beginning of a life, the state of the node has each pointer to the object that is left over in
-- a cell or in a temporary, and the store has what other tasks write: so LIFETIME is in the list there.
use Rattle.std.proofs.Common.{◌≡◌, inl, inr, refl, sym, ap, subst, ◌∙◌, ℕ, zero, suc, ◌<◌, ◌≤◌, ◌^◌, Bool, true}
use Rattle.std.proofs.Common.{List, [], ◌∷◌, length, get_or, Option, Some, None, arith}
use Rattle.std.specs.Prelude.{pos}
use Rattle.sound_tables.specs.tm_terms.declared.places.Place.{Place}
use Rattle.sound_tables.specs.tm_laid.declared.objects.LaidObject.{LaidObject}
use Rattle.sound_tables.specs.tm_laid.Layouts.{LaidTree, no_object, object_at, cell_at, cell_of, abstract_at}
use Rattle.sound_tables.specs.tm_typed.declared.types.Scalar.{Scalar}
use Rattle.sound_tables.specs.concrete_values.declared.values.Value.{Value}
use Rattle.sound_tables.specs.concrete_values.declared.values.Value.TheVariants.{Pointer as APointer}
use Rattle.sound_tables.specs.concrete_values.declared.values.Pointer.TheVariants as Pointers
use Rattle.sound_tables.specs.concrete_values.declared.actions.Next.{Next}
use Rattle.sound_tables.specs.concrete_values.declared.actions.Next.TheVariants as Acts
use Rattle.sound_tables.specs.concrete_values.Values.{pointer_of}
use Rattle.sound_tables.specs.concrete_values.Actions.{store_at, clear_at}
use Rattle.sound_tables.specs.concrete_steps.declared.worlds.Content.TheVariants.{Is}
use Rattle.sound_tables.specs.concrete_steps.Worlds.{World, next_at}
use Rattle.sound_tables.specs.concrete_steps.Moves.{content_of}
use Rattle.sound_tables.specs.flow_graph.declared.graphs.Edge.{Edge}
use Rattle.sound_tables.specs.flow_graph.declared.operations.Into.{Into}
use Rattle.sound_tables.specs.flow_graph.declared.operations.Operation.{Operation}
use Rattle.sound_tables.specs.flow_graph.declared.operations.Operation.TheVariants as Op
use Rattle.sound_tables.specs.flow_graph.Graphs.{Edges, Among, IsLive, by_use, by_flow}
use Rattle.sound_tables.specs.flow_graph.Operations.{Temps, given, Asks, effect}
use Rattle.sound_tables.specs.interfere_set.Stores.{Interferences}
use Rattle.sound_tables.specs.transfer_rows.StateForms.{State, value_of, own_of, temp_value}
use Rattle.sound_tables.specs.transfer_rows.Accesses.{is_among}
use Rattle.sound_tables.specs.transfer_rows.Contributions.{entry_at}
use Rattle.sound_tables.specs.transfer_rows.Covering.{HasTemp}
use Rattle.sound_tables.specs.program_reports.pointer_dom.Values.{Values, IsValueIn}
use Rattle.sound_tables.specs.temporary_types.Sorts.{types_of}
use Rattle.sound_tables.specs.task_equations.Bodies.{Body, no_edge, live_at}
use Rattle.sound_tables.specs.program_equations.Programs.{ProgramBodies, body_at, IsProgram}
use Rattle.sound_tables.specs.program_equations.Readings.{read_layout}
use Rattle.sound_tables.specs.program_equations.Solutions.{tables_of as lists_of, IsPair}
use Rattle.sound_tables.specs.program_shape.Shape.{abstract_of_cell}
use Rattle.sound_tables.specs.Programs.{parts_of}
use Rattle.sound_tables.specs.Premises.{IsGraphOf}
use Rattle.sound_tables.specs.Memberships.{scalar_as}
use Rattle.sound_tables.specs.Laws.{IsFounded}
use Rattle.sound_tables.proofs.Arriving.{live_has}
use Rattle.next_action_laws.specs.Actions.{MayUse, IsCell}
use Rattle.sound_runs.specs.Sources.{LaysCell, action_of}
use Rattle.sound_runs.proofs.Layouts.{read_lays_cells}
use Rattle.sound_runs.proofs.Stood.{abstract_is, usable_at}
use Rattle.sound_core.specs.Sound.{IsProgramFrom}
use Rattle.sound_core.proofs.GroupedAccesses.{good}
use Rattle.sound_notes.proofs.MetStates.{IsMetAt}
use Rattle.sound_notes.proofs.Members.{MayRead}
use Rattle.sound_notes.proofs.Awaiting.{IsMember, in_state, in_store as from_store, AreMembers, next_now, members_now}
use Rattle.path_origins.specs.declared.origins.Life.{Life}
use Rattle.edge_origins.specs.declared.origins.BodyOrigins.{BodyOrigins}
use Rattle.text_choices.specs.declared.kinds.Kind.TheVariants as Kinds
use Rattle.text_choices.specs.declared.kinds.Choice.{Choice}
use Rattle.operand_orders.specs.Reached.{SolvedBody, HasState, IsReached, IsOpen}
use Rattle.open_choices.specs.Lifetimes.{PointsTo, StoresThrough, IsLeftOver}
use Rattle.open_choices.specs.Lifetimes.IsLeftOver.{in_cell, in_store, in_temporary}
use Rattle.open_choices.specs.Lifetimes.IsOfLifetime.{begun}
use Rattle.open_choices.specs.Choices.{AreChoices}
use Rattle.sound_choices.specs.Promises.{ComesTo, Has}
use Rattle.sound_choices.specs.Accesses.{Accesses, Reaching}
use Rattle.sound_choices.specs.Accesses.Accesses.{loads, loads_any, stores as stores_at}
use Rattle.sound_choices.specs.Beginnings.{LeadsTo, Begins, IsHeldIn, IsToldByTask, IsBeginning, ListsBeginnings}
use Rattle.sound_choices.specs.Beginnings.Begins.{clears, stores}
use Rattle.sound_choices.proofs.Kept.{solved, edge as edge_there, place as place_there, met, state, edge_among}
use Rattle.sound_choices.proofs.Kept.{edge_from, has, listed}
use Rattle.sound_choices.proofs.Written.{IsWrittenAs, written_as}
use Rattle.sound_choices.proofs.Touched.{reached_at}
use Rattle.sound_choices.proofs.Waited.{shared_there}

-- ## Values

-- a set that has a pointer into an object points to it
points_to : (s : Values) (v : Value) (object : ℕ) → LeadsTo v object → IsValueIn s (scalar_as v) → PointsTo s object
points_to s v object leads has = record {
  offset = pos leads.offset;
  has = subst (λ u. IsValueIn s (scalar_as u)) leads.is has;
}

some_same : (a b : State) → (let x : Option State = Some a in x) ≡ Some b → a ≡ b
some_same a b e = cc

-- ## What begins a life asks

record IsAsking (laid : LaidTree) (op : Operation) (t : Temps) : Type 0 where
  action : Next
  after : Value → Temps
  asks : effect laid op t ≡ Asks action after

begins_asks : (laid : LaidTree) (op : Operation) (t : Temps) → Begins op → IsAsking laid op t
begins_asks laid op t (clears {object}) = record { action = clear_at laid object; after = λ v. t; asks = refl }
begins_asks laid op t (stores {address} {value} {scalar} {place = q}) =
    record { action = store_at (t address) scalar (t value) q; after = λ v. t; asks = refl }

-- a store through a pointer asks for a store to its cell
store_action : (v x : Value) (object offset : ℕ) (scalar : Scalar) (q : Place)
    → v ≡ APointer (Pointers.To object offset) → store_at v scalar x q ≡ Acts.Store object offset scalar x q
unfolding store_at pointer_of
store_action v x object offset scalar q e = ap (λ u. store_at u scalar x q) e

-- the address through which it stores
same_address : (op : Operation) (a : ℕ) (z : Scalar) (is_store : Bool) → Accesses op a z is_store
    → (address value : ℕ) (scalar : Scalar) (into : Into) (q : Place) → op ≡ Op.Store address value scalar into q
    → a ≡ address
same_address op a z is_store loads address value scalar into q e = absurd (cc)
same_address op a z is_store loads_any address value scalar into q e = absurd (cc)
same_address op a z is_store stores_at address value scalar into q e = cc

-- ## Objects

object_within : (objects : List LaidObject) (o offset : ℕ) → (let x = get_or objects o no_object in offset < x.cells)
    → o < length objects
object_within [] o offset lt = absurd (omega (arith, lt))
object_within (x ∷ objects) zero offset lt = omega arith
object_within (x ∷ objects) (suc o) offset lt =
    let h = object_within objects o offset lt in omega (arith, h)

-- what a body may use in a layout it may use in what is read of it
usable_read : (laid : LaidTree) (t : ℕ) (owner : Option ℕ) → MayUse laid t owner → MayUse (read_layout laid) t owner
usable_read laid t None h = tt
usable_read laid t (Some path) h = record { within = h.within; same = h.same }

-- ## Edges by their numbers

record IsEdgeAt (g : Edges) (e : Edge) : Type 0 where
  number : ℕ
  within : number < length g
  is : get_or g number no_edge ≡ e

edge_at : (g : Edges) (e : Edge) → Among e g → IsEdgeAt g e
edge_at [] e a = absurd a
edge_at (d ∷ g) e (inl same) = record { number = 0; within = omega arith; is = same }
edge_at (d ∷ g) e (inr more) =
    let h = edge_at g e more in
    record { number = suc h.number; within = (let lt = h.within in omega (arith, lt)); is = h.is }

-- ## Live temporaries

module _ (p : ProgramBodies) (is : IsProgram p) (t : ℕ) (lt : t < length p.bodies) (graph : IsGraphOf p t) where
  abbrev b : Body
  b = body_at p t

  -- what some way on uses is among what the body has as live
  live_there : (temp node : ℕ) → IsLive b.edges temp node → is_among (live_at b node) temp ≡ true
  live_there temp node (by_use e among used) = graph.uses e temp among used
  live_there temp node (by_flow e among kept more) =
      let k = edge_at b.edges e among in
      subst (λ (d : Edge). is_among (live_at b d.from) temp ≡ true) k.is
      ((is.each t lt).body.flow k.number k.within temp
      (subst (λ (d : Edge). is_among (live_at b d.to) temp ≡ true) (sym k.is) (live_there temp e.to more))
      (subst (λ (d : Edge). given d.op ≡ Some temp → ⊥) (sym k.is) kept))

module _ (laid seen : LaidTree) (p : ProgramBodies) (from : IsProgramFrom laid p) (is : IsProgram p)
    (few : length laid.objects ≤ 2 ^ 32) (tables : List (List (Option State))) (store : Interferences)
    (pair : IsPair p tables store) (read : p.laid ≡ read_layout seen) (origins : List BodyOrigins) where
  abbrev body : ℕ → BodyOrigins → SolvedBody
  body t noted = solved laid seen p from is few tables store pair origins t noted

  abbrev same : p.laid ≡ read_layout laid
  same = (let of = from.is in of.laid)

  -- ## Where a run comes to the beginning of a life

  module _ (w : World) (t : ℕ) (noted : BodyOrigins) (life : Life) (b : IsBeginning laid p origins w t noted life) where
    abbrev c : ComesTo laid p w t b.copy b.operation b.memory
    c = b.comes

    abbrev place : ℕ
    place = place_there laid seen p from is few tables store pair origins w t b.copy b.operation b.memory b.comes

    abbrev s : State
    s = state laid seen p from is few tables store pair origins w t b.copy b.operation b.memory b.comes

    abbrev here : IsMetAt laid p is (lists_of tables) w t place (let m = b.memory in m.temps)
    here = met laid seen p from is few tables store pair origins w t b.copy b.operation b.memory b.comes

    state_here : HasState (body t noted) life.begins b.operation s
    state_here =
        subst (λ e. HasState (body t noted) e b.operation s) b.edge
        (has laid seen p from is few tables store pair origins w t b.copy b.operation b.memory b.comes noted)

    reached : IsReached (body t noted) life.begins
    reached = reached_at (body t noted) life.begins life.begins b.operation s state_here refl

    -- ### What cells hold

    members : AreMembers laid p (lists_of tables) store w t place
    members =
        let m = b.memory in
        let ask : IsAsking p.laid b.operation m.temps = begins_asks p.laid b.operation m.temps b.begins in
        members_now laid p from is few tables store pair w c.reached t c.may c.body place b.memory
        (let h = c.comes in h.comes)
        (edge_there laid seen p from is few tables store pair origins w t b.copy b.operation b.memory b.comes)
        (record {
          among = edge_among laid seen p from is few tables store pair origins w t b.copy b.operation b.memory b.comes;
          from = edge_from laid seen p from is few tables store pair origins w t b.copy b.operation b.memory b.comes;
        }) ask.action ask.after (ap (λ op. effect p.laid op m.temps) c.operation ∙ ask.asks)

    module _ (holder : ℕ) (h : IsHeldIn laid w t holder life.object) where
      abbrev x : LaidTree → ℕ
      x l = abstract_of_cell l (cell_of l holder h.offset)

      -- where there is no object there is no cell
      there : holder < length laid.objects
      there = object_within laid.objects holder h.offset h.inside

      lays_read : LaysCell (read_layout laid) holder h.offset
      lays_read = read_lays_cells laid from.file holder h.offset there h.inside

      lays : LaysCell p.laid holder h.offset
      lays = subst (λ l. LaysCell l holder h.offset) (sym same) lays_read

      -- the abstract cell is one of the object
      part : (let a = abstract_at seen (x seen) in a.object ≡ holder)
      part =
          subst (λ l. (let a = abstract_at l (x l) in a.object ≡ holder)) read
          (ap (λ y. (let a = abstract_at p.laid y in a.object)) (abstract_is p.laid holder h.offset lays)
          ∙ (let l = lays in l.object))

      cell_here : IsCell p.laid t holder h.offset
          (let a = cell_at p.laid (cell_of p.laid holder h.offset) in a.scalar)
      cell_here = record {
        object = subst (λ (l : LaidTree). holder < length l.objects) (sym same) there;
        usable = subst (λ l. (let o = object_at l holder in MayUse l t o.owner)) (sym same)
            (usable_read laid t (let o = object_at laid holder in o.owner) h.usable);
        inside = subst (λ l. (let o = object_at l holder in h.offset < o.cells)) (sym same) h.inside;
        scalar = refl;
      }

      may_read : MayRead p t (cell_of p.laid holder h.offset)
      may_read =
          usable_at p.laid t holder h.offset (let a = cell_at p.laid (cell_of p.laid holder h.offset) in a.scalar) lays
          cell_here

      member : IsMember laid p (lists_of tables) store w t place (x p.laid) h.value
      member =
          members (cell_of p.laid holder h.offset) h.value
          (subst (λ l. cell_of l holder h.offset < length laid.cells) (sym same) (let l = lays_read in l.within)) may_read
          (subst (λ l. content_of w (cell_of l holder h.offset) ≡ Is h.value) (sym same) h.holds)

      held_left : IsOpen (body t noted) life.begins holder → IsLeftOver (body t noted) life
      held_left is_open = by_member member
        where
          by_member : IsMember laid p (lists_of tables) store w t place (x p.laid) h.value
              → IsLeftOver (body t noted) life
          by_member (in_state state' at inside) =
              in_cell s (x seen) state_here (
                λ e. h.apart (sym part ∙ e),
                subst (λ o. IsOpen (body t noted) life.begins o) (sym part) is_open,
              )
              (points_to (own_of s (x seen)) h.value life.object h.leads
              (subst (λ l. IsValueIn (own_of s (x l)) (scalar_as h.value)) read
              (subst (λ r. IsValueIn (own_of r (x p.laid)) (scalar_as h.value))
              (some_same state' s (sym at ∙ (let o = here in o.at))) inside)))
          by_member (from_store others) =
              in_store others.task others.held (x seen) reached others.other
              (points_to (entry_at store.weak others.task others.held (x seen)) h.value life.object h.leads
              (subst (λ l. IsValueIn (entry_at store.weak others.task others.held (x l)) (scalar_as h.value)) read
              others.entered))

    -- ### What other tasks store

    module _ (told : IsToldByTask laid p t life.object) where
      abbrev r : Reaching laid p told.world told.task told.copy told.holder told.offset true
      r = told.comes

      abbrev d : ComesTo laid p told.world told.task told.copy r.operation r.memory
      d = r.comes

      abbrev given_value : Value
      given_value = (let m = r.memory in m.temps told.value)

      abbrev z : LaidTree → ℕ
      z l = abstract_of_cell l (cell_of l told.holder told.offset)

      stores_next : next_at laid told.world told.task
          ≡ Acts.Store told.holder told.offset told.scalar given_value told.place
      stores_next =
          let m = r.memory in
          let at : m.temps told.address ≡ APointer (Pointers.To told.holder told.offset) =
          ap (λ (u : ℕ). m.temps u) (sym (same_address r.operation r.address r.scalar true r.accesses told.address
          told.value told.scalar told.into told.place told.stores)) ∙ r.points in
          next_now laid p from is few tables store pair told.world d.reached told.task d.may d.body
          (place_there laid seen p from is few tables store pair origins told.world told.task told.copy r.operation
          r.memory r.comes) r.memory (let k = d.comes in k.comes)
          (edge_there laid seen p from is few tables store pair origins told.world told.task told.copy r.operation
          r.memory r.comes)
          (record {
            among = edge_among laid seen p from is few tables store pair origins told.world told.task told.copy
                r.operation r.memory r.comes;
            from = edge_from laid seen p from is few tables store pair origins told.world told.task told.copy
                r.operation r.memory r.comes;
          }) (store_at (m.temps told.address) told.scalar given_value told.place) (λ v. m.temps)
          (ap (λ op. effect p.laid op m.temps) (d.operation ∙ told.stores))
          ∙ store_action (m.temps told.address) given_value told.holder told.offset told.scalar told.place at

      written : IsWrittenAs laid p from is few tables store pair told.world d.reached told.task (z p.laid) given_value
      written =
          written_as laid p from is few tables store pair told.world d.reached told.task told.within d.may
          (cell_of p.laid told.holder told.offset) given_value (ap (action_of (parts_of p)) stores_next)
          (shared_there laid seen p from is few tables store pair read origins told.world told.task told.copy told.holder
          told.offset true told.comes told.static)

      told_left : IsLeftOver (body t noted) life
      told_left =
          let k = written in
          in_store told.task k.held (z seen) reached told.other
          (points_to (entry_at store.weak told.task k.held (z seen)) given_value life.object told.leads
          (subst (λ l. IsValueIn (entry_at store.weak told.task k.held (z l)) (scalar_as given_value)) read k.has))

    -- ### What temporaries hold

    module _ (temp : ℕ) (live : (let g = body_at p t in IsLive g.edges temp place)) where
      has_temp : HasTemp s temp
      has_temp =
          let o = here in
          live_has p.laid t (types_of (is.sorts t)) (live_at (body_at p t) place) s o.fits temp
          (live_there p is t c.body
          (let g : IsFounded p is = good laid p from is few tables store pair w c.reached in g.graphs t c.body) temp place
          live)

      in_value : IsValueIn (value_of s temp) (scalar_as (let m = b.memory in m.temps temp))
      in_value =
          let o = here in
          let e : HasTemp s temp = has_temp in
          subst (λ a. IsValueIn (temp_value a) (scalar_as (let m = b.memory in m.temps temp))) (sym e.stands)
          (let i = o.ins in i.in_value temp e.entry e.stands)

      use_left : (StoresThrough b.operation temp → ⊥) → (let m = b.memory in LeadsTo (m.temps temp) life.object)
          → IsLeftOver (body t noted) life
      use_left apart leads =
          in_temporary s temp state_here apart
          (points_to (value_of s temp) (let m = b.memory in m.temps temp) life.object leads in_value)

  -- ## The list

  module _ (others : Choice → Type 0) (choices : List Choice)
      (are : AreChoices seen p (lists_of tables) store origins others choices) where
    in_list : (w : World) (t : ℕ) (noted : BodyOrigins) (life : Life) → IsBeginning laid p origins w t noted life
        → IsLeftOver (body t noted) life → Has laid seen p (lists_of tables) store origins choices Kinds.Lifetime life.place
    in_list w t noted life b left =
        listed laid seen p from is few tables store pair origins others choices are t (let c = b.comes in c.body) noted
        b.there (record { place = life.place; kind = Kinds.Lifetime }) (begun life b.of refl left)

    pub beginnings : ListsBeginnings laid seen p (lists_of tables) store origins choices
    beginnings = record {
      held = λ w t holder noted life b is_open h. in_list w t noted life b (held_left w t noted life b holder h is_open);
      told = λ w t noted life b told. in_list w t noted life b (told_left w t noted life b told);
      in_use = λ w t temp noted life b apart live leads.
          in_list w t noted life b (use_left w t noted life b temp live apart leads);
    }
