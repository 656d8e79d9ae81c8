-- Where a run comes before a copy of an edge that loads or stores, the task does this next: so the cell is one of the
-- type, of an object that the body may use, and it is one of the spots of the access.
use Rattle.std.proofs.Common.{◌≡◌, inl, refl, sym, ap, subst, ◌∙◌, ℕ, ◌<◌, ◌≤◌, ◌^◌, Bool, true, false}
use Rattle.std.proofs.Common.{List, [], length, Option, Some, None, arith}
use Rattle.sound_tables.specs.tm_terms.declared.places.Place.{Place}
use Rattle.sound_tables.specs.tm_laid.Layouts.{LaidTree, cell_of}
use Rattle.sound_tables.specs.tm_typed.declared.types.Scalar.{Scalar}
use Rattle.sound_tables.specs.concrete_values.declared.values.Value.{Value}
use Rattle.sound_tables.specs.concrete_values.declared.values.Value.TheVariants.{Pointer as APointer}
use Rattle.sound_tables.specs.concrete_values.declared.values.Pointer.TheVariants as Pointers
use Rattle.sound_tables.specs.concrete_values.declared.actions.Next.{Next}
use Rattle.sound_tables.specs.concrete_values.declared.actions.Next.TheVariants as Acts
use Rattle.sound_tables.specs.concrete_values.Values.{pointer_of}
use Rattle.sound_tables.specs.concrete_values.Actions.{load_at, store_at}
use Rattle.sound_tables.specs.concrete_steps.Worlds.{World, next_at}
use Rattle.sound_tables.specs.concrete_steps.Occurring.{IsAccess, a_load_there, a_store_there}
use Rattle.sound_tables.specs.flow_graph.declared.graphs.Edge.{Edge}
use Rattle.sound_tables.specs.flow_graph.declared.operations.Operation.{Operation}
use Rattle.sound_tables.specs.flow_graph.Graphs.{Among}
use Rattle.sound_tables.specs.flow_graph.Operations.{Temps, used, kept_with, asks, effect_by, Asks, effect}
use Rattle.sound_tables.specs.flow_graph.Runs.{Memory}
use Rattle.sound_tables.specs.interfere_set.Stores.{Interferences}
use Rattle.sound_tables.specs.transfer_rows.StateForms.{State}
use Rattle.sound_tables.specs.program_equations.Programs.{ProgramBodies, IsProgram}
use Rattle.sound_tables.specs.program_equations.Readings.{read_layout}
use Rattle.sound_tables.specs.program_equations.Solutions.{IsPair}
use Rattle.sound_tables.specs.program_shape.Shape.{Points}
use Rattle.sound_tables.proofs.Covering.{IsSpotAt, spot_at}
use Rattle.next_action_laws.specs.Actions.{IsCell, IsProper}
use Rattle.sound_runs.proofs.Stood.{usable_at}
use Rattle.sound_runs.proofs.Readings.{proper_read}
use Rattle.sound_runs.proofs.Layouts.{read_lays_cells}
use Rattle.sound_runs.proofs.Imaged.{facts}
use Rattle.sound_runs.specs.Sources.{LaysCell}
use Rattle.sound_core.specs.Sound.{IsProgramFrom}
use Rattle.sound_core.proofs.FileBodies.{counted}
use Rattle.sound_core.proofs.Alarmed.{cells_kept}
use Rattle.sound_notes.proofs.Awaiting.{next_now}
use Rattle.edge_origins.specs.declared.origins.BodyOrigins.{BodyOrigins}
use Rattle.sound_choices.specs.Promises.{ComesTo}
use Rattle.sound_choices.specs.Accesses.{Accesses}
use Rattle.sound_choices.specs.Accesses.Accesses.{loads, loads_any, stores}
use Rattle.sound_choices.proofs.Kept.{edge as edge_there, place as place_there, edge_among, edge_from}

-- ## What an access asks for

-- an operation asks for an action that is proper only where it goes to this cell
record Asking (laid : LaidTree) (op : Operation) (t : Temps) (object offset : ℕ) (scalar : Scalar)
    (is_store : Bool) : Type 0 where
  action : Next
  after : Value → Temps
  does : effect laid op t ≡ Asks action after
  place : Place
  access : IsAccess object offset action is_store place
  proper : (l : LaidTree) (body : ℕ) → IsProper l body action → IsCell l body object offset scalar

asking : (laid : LaidTree) (op : Operation) (a : ℕ) (z : Scalar) (is_store : Bool) (t : Temps) (object offset : ℕ)
    → Accesses op a z is_store → t a ≡ APointer (Pointers.To object offset)
    → Asking laid op t object offset z is_store
unfolding load_at store_at pointer_of
asking laid op a z is_store t object offset (loads {to} {address} {scalar} {place = q}) is = record {
  action = Acts.Load object offset scalar false q;
  place = q;
  access = a_load_there;
  after = λ v. kept_with (Some to) v t;
  does = ap (λ x. effect_by (Some to) t (asks (load_at x scalar false q))) is;
  proper = λ l body h. h;
}
asking laid op a z is_store t object offset (loads_any {to} {address} {scalar} {place = q}) is = record {
  action = Acts.Load object offset scalar true q;
  place = q;
  access = a_load_there;
  after = λ v. kept_with (Some to) v t;
  does = ap (λ x. effect_by (Some to) t (asks (load_at x scalar true q))) is;
  proper = λ l body h. h;
}
asking laid op a z is_store t object offset (stores {address} {value} {scalar} {place = q}) is = record {
  action = Acts.Store object offset scalar (t value) q;
  place = q;
  access = a_store_there;
  after = λ v. t;
  does = ap (λ x. effect_by None t (asks (store_at x scalar (t value) q))) is;
  proper = λ l body h. h.0;
}

-- it uses the address
pub uses_address : (op : Operation) (a : ℕ) (z : Scalar) (is_store : Bool) → Accesses op a z is_store
    → Among a (used op)
uses_address op a z is_store loads = inl refl
uses_address op a z is_store loads_any = inl refl
uses_address op a z is_store stores = inl refl

module _ (laid seen : LaidTree) (p : ProgramBodies) (from : IsProgramFrom laid p) (is : IsProgram p)
    (few : length laid.objects ≤ 2 ^ 32) (tables : List (List (Option State))) (store : Interferences)
    (pair : IsPair p tables store) (origins : List BodyOrigins) (w : World) (t k : ℕ) (op : Operation) (m : Memory)
    (c : ComesTo laid p w t k op m) where
  abbrev edge : Edge
  edge = edge_there laid seen p from is few tables store pair origins w t k op m c

  abbrev place : ℕ
  place = place_there laid seen p from is few tables store pair origins w t k op m c

  within : t < length laid.bodies
  within = let all = counted laid p from in omega (arith, c.body, all)

  same : p.laid ≡ read_layout laid
  same = (let of = from.is in of.laid)

  -- the task does next what an edge asks for before which its run comes
  module _ (n : Next) (after : Value → Temps) (asked : effect p.laid op m.temps ≡ Asks n after) where
    next_there : next_at laid w t ≡ n
    next_there =
        let come = (let h = c.comes in h.comes) in
        next_now laid p from is few tables store pair w c.reached t c.may c.body place m come edge
        (record {
          among = edge_among laid seen p from is few tables store pair origins w t k op m c;
          from = edge_from laid seen p from is few tables store pair origins w t k op m c;
        }) n after (ap (λ z. effect p.laid z m.temps) c.operation ∙ asked)

    pub proper_now : IsProper laid t n
    proper_now = subst (λ a. IsProper laid t a) next_there ((facts laid (λ x. []) from.file few w c.reached).proper t within)

  -- and where it loads or stores a cell, that is a spot of the access
  module _ (address : ℕ) (scalar : Scalar) (is_store : Bool) (object offset : ℕ)
      (accesses : Accesses op address scalar is_store)
      (points : m.temps address ≡ APointer (Pointers.To object offset)) where
    ask : Asking p.laid op m.temps object offset scalar is_store
    ask = asking p.laid op address scalar is_store m.temps object offset accesses points

    -- the task's next action is this access
    pub record IsNext : Type 0 where
      pub at : Place
      pub access : IsAccess object offset (next_at laid w t) is_store at

    pub is_next : IsNext
    is_next =
        let a = ask in
        record {
          at = a.place;
          access = subst (λ n. IsAccess object offset n is_store a.place) (sym (next_there a.action a.after a.does))
              a.access;
        }

    cell_now : IsCell (read_layout laid) t object offset scalar
    cell_now =
        let a = ask in
        a.proper (read_layout laid) t (proper_read laid t a.action (proper_now a.action a.after a.does))

    pub is_cell : IsCell p.laid t object offset scalar
    is_cell = subst (λ l. IsCell l t object offset scalar) (sym same) cell_now

    pub is_laid : LaysCell p.laid object offset
    is_laid =
        let h = cell_now in
        subst (λ l. LaysCell l object offset) (sym same)
        (read_lays_cells laid from.file object offset h.object h.inside)

    points_there : Points p.laid (m.temps address) (cell_of p.laid object offset)
    points_there =
        let h = is_cell in
        record { object = object; offset = offset; is = points; inside = h.inside; there = refl }

    pub is_spot : IsSpotAt p.laid t scalar (m.temps address) (cell_of p.laid object offset)
    is_spot =
        let h = is_cell in
        spot_at p.laid (cells_kept laid p from) t scalar (m.temps address) (cell_of p.laid object offset) points_there
        (usable_at p.laid t object offset scalar is_laid h) h.scalar
