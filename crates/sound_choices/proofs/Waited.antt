-- Where one of two operands waits, and other tasks see what the other one does, or it sees what they do, the place is in
-- the list.
use Rattle.std.proofs.Common.{◌≡◌, ◌≢◌, inl, inr, refl, sym, subst, ℕ, ◌≤◌, ◌^◌, Bool, true, List}
use Rattle.std.proofs.Common.{false, length, Option}
use Rattle.sound_tables.specs.tm_laid.Layouts.{LaidTree, cell_of, abstract_at, abstract_of, is_shared}
use Rattle.sound_tables.specs.concrete_steps.Worlds.{World}
use Rattle.sound_tables.specs.flow_graph.declared.operations.Operation.{Operation}
use Rattle.sound_tables.specs.flow_graph.Runs.{Memory}
use Rattle.sound_tables.specs.interfere_set.Stores.{Interferences}
use Rattle.sound_tables.specs.transfer_rows.StateForms.{State}
use Rattle.sound_tables.specs.transfer_rows.Contributions.{entry_at}
use Rattle.sound_tables.specs.program_reports.pointer_dom.Values.{no_value}
use Rattle.sound_tables.specs.program_reports.edge_actions.Layouts.{is_shared_cell}
use Rattle.sound_tables.specs.program_equations.Programs.{ProgramBodies, IsProgram}
use Rattle.sound_tables.specs.program_equations.Readings.{read_layout}
use Rattle.sound_tables.specs.program_equations.Solutions.{tables_of as lists_of, IsPair}
use Rattle.sound_tables.specs.program_shape.Shape.{abstract_of_cell, IsShared}
use Rattle.sound_tables.proofs.Covering.{IsSpotAt, shared_from}
use Rattle.sound_runs.specs.Sources.{LaysCell}
use Rattle.sound_runs.proofs.Stood.{abstract_is}
use Rattle.sound_core.specs.Sound.{IsProgramFrom}
use Rattle.path_origins.specs.declared.origins.Span.{Span}
use Rattle.edge_origins.specs.declared.origins.BodyOrigins.{BodyOrigins}
use Rattle.text_choices.specs.declared.kinds.Kind.TheVariants as Kinds
use Rattle.text_choices.specs.declared.kinds.Choice.{Choice}
use Rattle.operand_orders.specs.Reached.{SolvedBody, IsWithin, IsStatic}
use Rattle.operand_orders.specs.Order.{Waits, SpanWaits, IsStoredByOthers, IsSeen}
use Rattle.operand_orders.specs.Order.IsSeen.{waiting as seen_waiting, storing, loading}
use Rattle.operand_orders.specs.Order.Matters.{waiting as matters_waiting}
use Rattle.operand_orders.specs.Order.IsOfOrder.{operands}
use Rattle.open_choices.specs.Choices.{AreChoices}
use Rattle.sound_choices.specs.Promises.{ComesTo}
use Rattle.sound_choices.specs.Accesses.{Reaching, IsStoredByTask, ActsOpenly, edge_of_copy, ListsWaiting}
use Rattle.sound_choices.specs.Accesses.ActsOpenly.{waits_there, stores_static, loads_static}
use Rattle.sound_choices.proofs.Kept.{solved, state, has, listed}
use Rattle.sound_choices.proofs.Accessed.{IsNext, is_next, is_laid, is_spot}
use Rattle.sound_choices.proofs.Written.{IsWritten, written}
use Rattle.sound_choices.proofs.Touched.{abstract_same, loads_there, stores_there}

module _ (laid seen : LaidTree) (p : ProgramBodies) (from : IsProgramFrom laid p) (is : IsProgram p)
    (few : length laid.objects ≤ 2 ^ 32) (tables : List (List (Option State))) (store : Interferences)
    (pair : IsPair p tables store) (read : p.laid ≡ read_layout seen) (origins : List BodyOrigins) where
  abbrev body : ℕ → BodyOrigins → SolvedBody
  body t noted = solved laid seen p from is few tables store pair origins t noted

  abbrev cell_at_offset : ℕ → ℕ → ℕ
  cell_at_offset object offset = abstract_of_cell seen (cell_of seen object offset)

  shared_seen : (object : ℕ) → is_shared laid object ≡ true → is_shared seen object ≡ true
  shared_seen object h =
      subst (λ l. is_shared l object ≡ true) read
      (subst (λ l. is_shared l object ≡ true) (sym (let of = from.is in of.laid)) h)

  module _ (w : World) (t k object offset : ℕ) (is_store : Bool) (r : Reaching laid p w t k object offset is_store)
      (shared : is_shared laid object ≡ true) where
    laid_there : LaysCell p.laid object offset
    laid_there =
        is_laid laid seen p from is few tables store pair origins w t k r.operation r.memory r.comes r.address r.scalar
        is_store object offset r.accesses r.points

    -- the abstract cell is one of the object
    object_in_seen : (let a = abstract_at seen (abstract_of seen object offset) in a.object ≡ object)
    object_in_seen =
        let h = laid_there in
        subst (λ l. (let a = abstract_at l (abstract_of l object offset) in a.object ≡ object)) read h.object

    static : (noted : BodyOrigins) → IsStatic (body t noted) (cell_at_offset object offset)
    static noted =
        let same = abstract_same laid seen p from is few tables store pair read origins w t k object offset is_store r in
        subst (λ x. (let a = abstract_at seen x in is_shared seen a.object ≡ true)) (sym same)
        (subst (λ o. is_shared seen o ≡ true) (sym object_in_seen) (shared_seen object shared))

    pub shared_there : IsShared p.laid (abstract_of_cell p.laid (cell_of p.laid object offset))
    shared_there =
        let h = laid_there in
        let spot : IsSpotAt p.laid t r.scalar (let m = r.memory in m.temps r.address) (cell_of p.laid object offset) =
        is_spot laid seen p from is few tables store pair origins w t k r.operation r.memory r.comes r.address r.scalar
        is_store object offset r.accesses r.points in
        let there = spot.seen in
        shared_from p.laid (abstract_of_cell p.laid (cell_of p.laid object offset)) there.cell
        (subst (λ x. is_shared_cell p.laid x ≡ true) (sym (abstract_is p.laid object offset h))
        (subst (λ o. is_shared p.laid o ≡ true) (sym h.object)
        (subst (λ l. is_shared l object ≡ true) (sym (let of = from.is in of.laid)) shared)))

    next : IsNext laid seen p from is few tables store pair origins w t k r.operation r.memory r.comes r.address
        r.scalar is_store object offset r.accesses r.points
    next =
        is_next laid seen p from is few tables store pair origins w t k r.operation r.memory r.comes r.address r.scalar
        is_store object offset r.accesses r.points

  -- another task stores the cell
  by_others : (t object offset : ℕ) → is_shared laid object ≡ true → IsStoredByTask laid p t object offset
      → (noted : BodyOrigins) → IsStoredByOthers (body t noted) (cell_at_offset object offset)
  by_others t object offset shared s noted =
      let r = s.stores in
      let c = r.comes in
      let n = next s.world s.task s.copy object offset true r shared in
      let told : IsWritten laid p from is few tables store pair s.world c.reached s.task
      (abstract_of_cell p.laid (cell_of p.laid object offset)) =
      written laid p from is few tables store pair s.world c.reached s.task s.within c.may object offset n.at n.access
      (shared_there s.world s.task s.copy object offset true r shared) in
      record {
        task = s.task;
        held = told.held;
        other = s.other;
        stored = subst (λ l. entry_at store.weak s.task told.held (abstract_of_cell l (cell_of l object offset)) ≢ no_value)
            read told.some;
      }

  span_waits : (w : World) (t k : ℕ) (op : Operation) (m : Memory) → ComesTo laid p w t k op m → Waits op
      → (noted : BodyOrigins) (span : Span) → IsWithin (edge_of_copy p t k) span → SpanWaits (body t noted) span
  span_waits w t k op m c waits noted span within = record {
    edge = edge_of_copy p t k;
    within = within;
    op = op;
    state = state laid seen p from is few tables store pair origins w t k op m c;
    has = has laid seen p from is few tables store pair origins w t k op m c noted;
    waits = waits;
  }

  acts_seen : (w : World) (t k : ℕ) → ActsOpenly laid p w t k → (noted : BodyOrigins) (span : Span)
      → IsWithin (edge_of_copy p t k) span → IsSeen (body t noted) span
  acts_seen w t k (waits_there {op} {m} c waits) noted span within =
      seen_waiting (span_waits w t k op m c waits noted span within)
  acts_seen w t k (stores_static {object} {offset} shared r) noted span within =
      storing (cell_at_offset object offset) (static w t k object offset true r shared noted)
      (record {
        edge = edge_of_copy p t k;
        within = within;
        stores = stores_there laid seen p from is few tables store pair read origins w t k object offset true r noted
            refl;
      })
  acts_seen w t k (loads_static {object} {offset} shared r others) noted span within =
      loading (cell_at_offset object offset) (static w t k object offset false r shared noted)
      (by_others t object offset shared others noted)
      (record {
        edge = edge_of_copy p t k;
        within = within;
        loads = loads_there laid seen p from is few tables store pair read origins w t k object offset false r noted
            refl;
      })

  pub waits_listed : (others : Choice → Type 0) (choices : List Choice)
      → AreChoices seen p (lists_of tables) store origins others choices
      → ListsWaiting laid seen p (lists_of tables) store origins choices
  waits_listed others choices are w v t k l op m noted both there member c waits acts apart =
      listed laid seen p from is few tables store pair origins others choices are t c.body noted there
      (record { place = both.place; kind = Kinds.Order })
      (operands both member refl
      (matters_waiting (elim apart [
        | inl h ↦ inl (
          span_waits w t k op m c waits noted both.first h.0,
          acts_seen v t l acts noted both.second h.1,
        )
        | inr h ↦ inr (
          span_waits w t k op m c waits noted both.second h.0,
          acts_seen v t l acts noted both.first h.1,
        )
      ])))
