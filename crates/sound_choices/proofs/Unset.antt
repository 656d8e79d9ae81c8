-- Where a run comes before a load of a cell that was not stored in the present life of its object, the state of its node
-- does not say that it is stored: so UNSET is in the list there.
use Rattle.std.proofs.Common.{◌≡◌, refl, sym, ap, subst, ◌∙◌, ℕ, ◌≤◌, ◌^◌, true, false, List, length, Option, Some}
use Rattle.std.specs.Prelude.{Contains}
use Rattle.std.specs.FinMap.{get}
use Rattle.sound_tables.specs.tm_terms.declared.places.Place.{Place}
use Rattle.sound_tables.specs.tm_typed.declared.types.Scalar.{Scalar}
use Rattle.sound_tables.specs.tm_laid.Layouts.{LaidTree, cell_of, abstract_at}
use Rattle.sound_tables.specs.concrete_values.declared.values.Value.{Value}
use Rattle.sound_tables.specs.concrete_values.declared.actions.Next.{Next}
use Rattle.sound_tables.specs.concrete_values.Actions.{load_at}
use Rattle.sound_tables.specs.concrete_steps.declared.worlds.Content.TheVariants.{Open}
use Rattle.sound_tables.specs.concrete_steps.Worlds.{World}
use Rattle.sound_tables.specs.concrete_steps.Moves.{content_of}
use Rattle.sound_tables.specs.flow_graph.declared.operations.Operation.{Operation}
use Rattle.sound_tables.specs.flow_graph.Operations.{Temps, kept_with, Asks, effect}
use Rattle.sound_tables.specs.interfere_set.Stores.{Interferences}
use Rattle.sound_tables.specs.transfer_rows.StateForms.{State}
use Rattle.sound_tables.specs.transfer_rows.Rows.{is_stored}
use Rattle.sound_tables.specs.program_reports.edge_actions.Layouts.{is_shared_cell}
use Rattle.sound_tables.specs.program_reports.state_fits.Fits.{IsSeenCell}
use Rattle.sound_tables.specs.program_reports.Reports.{place_of}
use Rattle.sound_tables.specs.program_equations.Programs.{ProgramBodies, IsProgram}
use Rattle.sound_tables.specs.program_equations.Readings.{read_layout}
use Rattle.sound_tables.specs.program_equations.Solutions.{tables_of as lists_of, IsPair}
use Rattle.sound_tables.specs.program_shape.Shape.{abstract_of_cell}
use Rattle.sound_tables.proofs.Covering.{usable_reaches}
use Rattle.next_action_laws.specs.Actions.{IsCell}
use Rattle.sound_runs.specs.Sources.{LaysCell}
use Rattle.sound_runs.proofs.Stood.{abstract_is, usable_at}
use Rattle.sound_core.specs.Sound.{IsProgramFrom}
use Rattle.sound_notes.proofs.Unstored.{is_local, is_unset}
use Rattle.path_origins.specs.declared.origins.Life.{Life}
use Rattle.edge_origins.specs.declared.origins.BodyOrigins.{BodyOrigins}
use Rattle.text_choices.specs.declared.kinds.Kind.TheVariants as Kinds
use Rattle.text_choices.specs.declared.kinds.Choice.{Choice}
use Rattle.operand_orders.specs.Reached.{SolvedBody, HasState, targets}
use Rattle.open_choices.specs.Unset.{IsUninitialised, FindsUnset, IsUnset}
use Rattle.open_choices.specs.Unset.IsUnset.{a_load, a_volatile_load}
use Rattle.open_choices.specs.Choices.{AreChoices}
use Rattle.sound_choices.specs.Promises.{ComesTo}
use Rattle.sound_choices.specs.Accesses.{Accesses, Reaching, edge_of_copy, ListsUnset}
use Rattle.sound_choices.specs.Accesses.Accesses.{loads, loads_any}
use Rattle.sound_choices.proofs.Kept.{solved, edge as edge_there, place as place_there, met, state, edge_among, edge_from, listed}
use Rattle.sound_choices.proofs.Accessed.{is_cell, is_laid}
use Rattle.sound_choices.proofs.Touched.{target_among, state_there}

-- what a load asks for
record IsAsking (laid : LaidTree) (op : Operation) (t : Temps) : Type 0 where
  action : Next
  after : Value → Temps
  asks : effect laid op t ≡ Asks action after

load_asks : (laid : LaidTree) (op : Operation) (a : ℕ) (z : Scalar) (t : Temps) → Accesses op a z false
    → IsAsking laid op t
load_asks laid op a z t (loads {to} {address} {scalar} {place = q}) =
    record { action = load_at (t address) scalar false q; after = λ v. kept_with (Some to) v t; asks = refl }
load_asks laid op a z t (loads_any {to} {address} {scalar} {place = q}) =
    record { action = load_at (t address) scalar true q; after = λ v. kept_with (Some to) v t; asks = refl }

-- a load that finds an unset cell is listed
unset_at : (b : SolvedBody) (edge cell : ℕ) (s : State) (op : Operation) (a : ℕ) (z : Scalar) (place : Place)
    → Accesses op a z false → place_of op ≡ Some place → HasState b edge op s
    → Contains (targets b z a s) cell → FindsUnset b edge s cell → IsUnset b place
unfolding place_of
unset_at b edge cell s op a z place (loads {to} {address} {scalar} {place = q}) at has among finds =
    let same : q ≡ place = cc in subst (IsUnset b) same (a_load s cell has among finds)
unset_at b edge cell s op a z place (loads_any {to} {address} {scalar} {place = q}) at has among finds =
    let same : q ≡ place = cc in subst (IsUnset b) same (a_volatile_load s cell has among finds)

module _ (laid seen : LaidTree) (p : ProgramBodies) (from : IsProgramFrom laid p) (is : IsProgram p)
    (few : length laid.objects ≤ 2 ^ 32) (tables : List (List (Option State))) (store : Interferences)
    (pair : IsPair p tables store) (read : p.laid ≡ read_layout seen) (origins : List BodyOrigins) where
  abbrev body : ℕ → BodyOrigins → SolvedBody
  body t noted = solved laid seen p from is few tables store pair origins t noted

  -- the abstract cell of a cell of an object, in a layout
  abbrev cell_in : LaidTree → ℕ → ℕ → ℕ
  cell_in l object offset = abstract_of_cell l (cell_of l object offset)

  -- ## A load of a cell that is open

  module _ (w : World) (t k object offset : ℕ) (r : Reaching laid p w t k object offset false)
      (is_open : content_of w (cell_of laid object offset) ≡ Open) where
    abbrev s : State
    s = state laid seen p from is few tables store pair origins w t k r.operation r.memory r.comes

    here : IsCell p.laid t object offset r.scalar
    here =
        is_cell laid seen p from is few tables store pair origins w t k r.operation r.memory r.comes r.address r.scalar
        false object offset r.accesses r.points

    lays : LaysCell p.laid object offset
    lays =
        is_laid laid seen p from is few tables store pair origins w t k r.operation r.memory r.comes r.address r.scalar
        false object offset r.accesses r.points

    seen_here : IsSeenCell p.laid t (cell_in p.laid object offset)
    seen_here =
        let reach = usable_reaches p.laid t (cell_in p.laid object offset)
        (usable_at p.laid t object offset r.scalar lays here) in
        record { cell = reach.0; seen = reach.1 }

    part : (abstract_at p.laid (cell_in p.laid object offset)).object ≡ object
    part =
        let l = lays in
        ap (λ x. (abstract_at p.laid x).object) (abstract_is p.laid object offset l) ∙ l.object

    open_here : content_of w (cell_of p.laid object offset) ≡ Open
    open_here =
        subst (λ (l : LaidTree). content_of w (cell_of l object offset) ≡ Open) (sym (let of = from.is in of.laid))
        is_open

    local : is_shared_cell p.laid (cell_in p.laid object offset) ≡ false
    local =
        let c = r.comes in
        is_local laid p from is few tables store pair w c.reached t (cell_of p.laid object offset) seen_here open_here

    not_stored : is_stored (get s.cells (cell_in p.laid object offset)) ≡ false
    not_stored =
        let c : ComesTo laid p w t k r.operation r.memory = r.comes in
        let m = r.memory in
        let ask : IsAsking p.laid r.operation m.temps =
        load_asks p.laid r.operation r.address r.scalar m.temps r.accesses in
        is_unset laid p from is few tables store pair w c.reached t (cell_of p.laid object offset) seen_here open_here
        c.may c.body (place_there laid seen p from is few tables store pair origins w t k r.operation r.memory r.comes)
        r.memory (let h = c.comes in h.comes)
        (edge_there laid seen p from is few tables store pair origins w t k r.operation r.memory r.comes)
        (record {
          among = edge_among laid seen p from is few tables store pair origins w t k r.operation r.memory r.comes;
          from = edge_from laid seen p from is few tables store pair origins w t k r.operation r.memory r.comes;
        }) ask.action ask.after (ap (λ op. effect p.laid op m.temps) c.operation ∙ ask.asks)
        (met laid seen p from is few tables store pair origins w t k r.operation r.memory r.comes)

    finds : (noted : BodyOrigins)
        → ((life : Life) → (let l = noted.lives in Contains l.items life) → life.object ≡ object
        → IsUninitialised (edge_of_copy p t k) life)
        → FindsUnset (body t noted) (edge_of_copy p t k) s (cell_in seen object offset)
    finds noted lives = record {
      local = subst (λ (l : LaidTree). is_shared_cell l (cell_in l object offset) ≡ false) read local;
      unset = subst (λ (l : LaidTree). is_stored (get s.cells (cell_in l object offset)) ≡ false) read not_stored;
      uninitialised = λ life has of.
          lives life has
          (of ∙ subst (λ (l : LaidTree). (abstract_at l (cell_in l object offset)).object ≡ object) read part);
    }

  -- ## The list

  module _ (others : Choice → Type 0) (choices : List Choice)
      (are : AreChoices seen p (lists_of tables) store origins others choices) where
    pub unset : ListsUnset laid seen p (lists_of tables) store origins choices
    unset w t k object offset q noted there r at is_open lives =
        listed laid seen p from is few tables store pair origins others choices are t
        (let c = r.comes in c.body) noted there (record { place = q; kind = Kinds.Unset })
        (unset_at (body t noted) (edge_of_copy p t k) (cell_in seen object offset)
        (state laid seen p from is few tables store pair origins w t k r.operation r.memory r.comes) r.operation r.address
        r.scalar q r.accesses at
        (state_there laid seen p from is few tables store pair read origins w t k object offset false r noted)
        (target_among laid seen p from is few tables store pair read origins w t k object offset false r noted)
        (finds w t k object offset r is_open noted lives))
