-- The tables of a solution are a solution in terms of members: they cover each step that a task can take.
use Rattle.std.specs.Prelude.{◌≡◌, ◌⊎◌, ℕ, ◌<◌, true, false}
use Rattle.std.specs.Prelude.{length, Option, Some, None, IfSome}
use Rattle.std.proofs.Common.{refl, sym, ap, subst, ◌∙◌, inl, inr, ⊎_elim}
use Rattle.std.specs.FinMap.{get}
use Rattle.std.proofs.lemmas.Bool.{cases_Bool, false_from_ne_true}
use Rattle.program_shape.specs.tm_cint.declared.Class.{Class}
use Rattle.program_shape.specs.tm_cint.declared.Class.TheVariants as Classes
use Rattle.program_shape.specs.tm_typed.declared.types.Scalar.{Scalar}
use Rattle.program_shape.specs.tm_laid.Layouts.{cell_at, abstract_at}
use Rattle.program_shape.specs.concrete_values.declared.values.Value.{Value}
use Rattle.program_shape.specs.concrete_values.Values.{truth_value}
use Rattle.program_shape.specs.flow_graph.declared.operations.Operation.TheVariants as Op
use Rattle.program_shape.specs.flow_graph.Operations.{Temps, put_at}
use Rattle.program_shape.specs.mutex_configs.Sets.{has, leads_nowhere, IsOfSixteen}
use Rattle.program_reports.specs.pointer_dom.Pointer.{ScalarValue}
use Rattle.program_reports.specs.pointer_dom.Values.{IsValueIn}
use Rattle.program_reports.specs.interfere_set.Stores.{Interferences}
use Rattle.program_reports.specs.transfer_rows.StateForms.{Cell, State, value_of, own_of}
use Rattle.program_reports.specs.transfer_rows.Actions.{Action, Around, loads, loads_any, stores, clears, locks}
use Rattle.program_reports.specs.transfer_rows.Actions.{unlocks, yields}
use Rattle.program_reports.specs.transfer_rows.Actions.{probes}
use Rattle.program_reports.specs.transfer_rows.Accesses.{is_among, targets_at}
use Rattle.program_reports.specs.transfer_rows.Rows.{after}
use Rattle.program_reports.specs.transfer_rows.Reports.{targets_of, IsListed}
use Rattle.program_reports.specs.transfer_rows.Meanings.{Valuation, put}
use Rattle.program_reports.specs.transfer_rows.Reports.{weak_of, sync_of}
use Rattle.program_reports.specs.interfere_set.Stores.{visible, handed}
use Rattle.program_reports.specs.edge_actions.Layouts.{open_value}
use Rattle.program_shape.specs.Shape.{HasType}
use Rattle.sound_tables.proofs.MutexSets.{bit_of}
use Rattle.program_shape.specs.tm_laid.Layouts.{object_at}
use Rattle.program_shape.specs.flow_graph.Graphs.{IsOfObject}
use Rattle.program_reports.specs.transfer_rows.StateForms.{own_value}
use Rattle.program_reports.proofs.low.transfer_rows.CoverSteps.{none_has, none_some}
use Rattle.program_reports.proofs.low.transfer_rows.Covers.{clear_covers}
use Rattle.program_reports.specs.edge_actions.Layouts.{is_reachable}
use Rattle.program_reports.specs.edge_actions.Edges.{cleared_value}
use Rattle.program_shape.specs.Shape.{IsPartOf, Clears}
use Rattle.sound_tables.proofs.Shaped.{abstract_within}
use Rattle.sound_tables.proofs.Openings.{read_open, cleared_in, cleared_out}
use Rattle.sound_tables.proofs.Covering.{path_reaches}
use Rattle.sound_tables.proofs.Covering.{usable_reaches, within_small, cell_pending}
use Rattle.program_reports.specs.transfer_rows.Covering.{AreIn, HasTemp, HasCell, AreLocalsIn, LeadsTo, IsCopyOf}
use Rattle.program_reports.specs.transfer_rows.Covering.{IsPending, IsFresh}
use Rattle.program_reports.specs.transfer_rows.Covering.{IsStored}
use Rattle.program_reports.specs.transfer_rows.Covering as rows
use Rattle.program_reports.proofs.low.transfer_rows.CoverSteps.{in_temp}
use Rattle.program_reports.proofs.low.transfer_rows.Covers.{load_covers, load_any_covers, store_covers, target_found}
use Rattle.program_reports.proofs.low.transfer_rows.Covers.{lock_covers, unlock_covers, held_covers, free_covers}
use Rattle.program_reports.proofs.low.transfer_rows.Covers.{yield_covers}
use Rattle.program_reports.specs.edge_actions.Layouts.{is_shared_cell, is_smashed_cell, spots_of}
use Rattle.program_reports.specs.table_covers.Solutions.{NodeTable, IsSolution}
use Rattle.program_reports.specs.temporary_types.Sorts.{types_of}
use Rattle.program_reports.specs.state_fits.Kinds.{OfTypes}
use Rattle.program_reports.specs.state_fits.Fits.{IsSeenCell, FitsPlace}
use Rattle.program_reports.specs.task_equations.Bodies.{live_at}
use Rattle.program_reports.specs.task_equations.Equations.{equations_of, tests_pointer}
use Rattle.program_reports.specs.program_equations.Programs.{ProgramBodies, body_at, IsProgram}
use Rattle.program_reports.specs.program_equations.Systems.{states, FitsBody, FitsProgram}
use Rattle.program_shape.specs.tm_soundness.Numbered.{TaskOf}
use Rattle.program_shape.specs.tm_soundness.Shape.{Shape, calculation, load, load_any, store as a_store, clear, lock}
use Rattle.program_shape.specs.tm_soundness.Shape.{unlock, yields as a_yield, probe}
use Rattle.program_shape.specs.tm_soundness.Tables.{Tables}
use Rattle.program_shape.specs.tm_soundness.GraphWorlds.{IsAccess}
use Rattle.program_shape.specs.tm_soundness.Covers as covers
use Rattle.program_shape.specs.Shape.{Copy, Has, IsShared, shape_of, from_of, to_of, operation_of}
use Rattle.program_shape.specs.Shape.{abstract_of_cell, Does, Fails}
use Rattle.sound_tables.specs.Programs.{part_of}
use Rattle.sound_tables.specs.Premises.{LaysCells, IsGraphOf}
use Rattle.sound_tables.specs.Meanings.{Means, IsUsed, sizes_of, HaveMeanings}
use Rattle.sound_tables.specs.Memberships.{scalar_as, scalars_as, CopiesStand, state_at, around_copy}
use Rattle.sound_tables.specs.Memberships.{action_copy, action_at, tables_with}
use Rattle.sound_tables.proofs.SetsAfter.{IsQuiet, is_lock}
use Rattle.sound_tables.proofs.OperationKinds.{is_load, is_load_any, is_store, is_clear, is_unlock, is_yield, is_probe}
use Rattle.sound_tables.proofs.OperationKinds.{quiet_leads, yield_leads, lock_leads, unlock_leads, free_leads}
use Rattle.sound_tables.proofs.OperationKinds.{lock_small, unlock_small, probe_small, used_in, no_load}
use Rattle.sound_tables.proofs.Arriving.{IsCovered, covered, state_fits, are_sized, live_has, seen_has, has_seen}
use Rattle.sound_tables.proofs.Hearing.{IsHeard}
use Rattle.sound_tables.proofs.Covering.{scalar_same, put_as, got, have, owned_from, shared_test, shared_from}
use Rattle.sound_tables.proofs.Covering.{cell_within, IsSpotAt, spot_at, row_calc, row_fails}

module _ (p : ProgramBodies) (is : IsProgram p) (n : ℕ) (number : TaskOf n → ℕ) (rank : ℕ → ℕ)
    (within : (i : TaskOf n) → number i < length p.bodies) (graphs : (i : TaskOf n) → IsGraphOf p (number i))
    (tables : ℕ → NodeTable State) (store : Interferences) (store-fits : FitsProgram p store)
    (entry : TaskOf n → Option State)
    (entry-fits : (i : TaskOf n) → IfSome (entry i) (FitsBody (body_at p (number i)) 0))
    (solves : (i : TaskOf n) → IsSolution states (FitsBody (body_at p (number i)))
    (equations_of (body_at p (number i)) (entry i) store) (tables (number i)))
    (cells : LaysCells p.laid) (means : (i : TaskOf n) → HaveMeanings p (number i) (is.sorts (number i)))
    (weak sync : TaskOf n → ℕ → ℕ → Value → Type 0)
    (heard : IsHeard p n number rank tables store weak sync) where
  abbrev P : Shape
  P = shape_of (part_of p n number rank)

  abbrev T : Tables P
  T = tables_with p n number rank tables weak sync

  abbrev Edges : Type 0
  Edges = Copy (part_of p n number rank)

  abbrev at_from : Edges → Option State
  at_from e = state_at p n number rank tables (from_of (part_of p n number rank) e)

  abbrev at_to : Edges → Option State
  at_to e = state_at p n number rank tables (to_of (part_of p n number rank) e)

  abbrev around : Edges → Around
  around e = around_copy p n number rank tables e

  abbrev action : Edges → Action
  action e = action_copy p n number rank tables e

  abbrev Above : Edges → State → Type 0
  Above e s = IsCovered p is n number rank within graphs tables store store-fits entry entry-fits solves e s

  -- a state in which the temporaries lie, at the node that an edge leaves
  pub record IsHere (e : Edges) (temps : Temps) : Type 0 where
    pub state : State
    pub at : at_from e ≡ Some state
    pub ins : AreIn state (scalars_as temps)
    pub copies : CopiesStand state
    pub fits : FitsPlace p.laid (number e.actor) (OfTypes p.laid (types_of (is.sorts (number e.actor))))
        (live_at (body_at p (number e.actor)) e.edge.from) state

  here : (e : Edges) (temps : Temps) → T.inside (P.from e) temps → IsHere e temps
  here e temps h = record {
    state = h.state;
    at = h.is;
    ins = h.holds.0;
    copies = h.holds.1;
    fits = state_fits p is n number rank within graphs tables store store-fits entry entry-fits solves
        (from_of (part_of p n number rank) e) h.state h.is;
  }

  module _ (e : Edges) (temps : Temps) (h : IsHere e temps) where
    abbrev s : State
    s = h.state

    sized : rows.AreSized (sizes_of p.laid) s
    sized = are_sized p.laid (number e.actor) (types_of (is.sorts (number e.actor)))
        (live_at (body_at p (number e.actor)) e.edge.from) s h.fits

    has_cell : (x : ℕ) → IsSeenCell p.laid (number e.actor) x → HasCell s x
    has_cell = seen_has p.laid (number e.actor) (types_of (is.sorts (number e.actor)))
        (live_at (body_at p (number e.actor)) e.edge.from) s h.fits

    seen : (x : ℕ) → HasCell s x → IsSeenCell p.laid (number e.actor) x
    seen = has_seen p.laid (number e.actor) (types_of (is.sorts (number e.actor)))
        (live_at (body_at p (number e.actor)) e.edge.from) s h.fits

    copy_seen : (u x : ℕ) → IsCopyOf s u x → IsSeenCell p.laid (number e.actor) x
    copy_seen u x k = seen x (h.copies u x k)

    -- what an edge uses has a value
    lives : (a : Action) → action e ≡ a → (u : ℕ) → IsUsed a u → HasTemp s u
    lives a same u k =
        let b = body_at p (number e.actor) in
        live_has p.laid (number e.actor) (types_of (is.sorts (number e.actor))) (live_at b e.edge.from) s h.fits u
        ((graphs e.actor).uses e.edge u e.among
        (used_in p.laid (number e.actor) (tests_pointer b.pointers e.edge.op) e.answer e.edge.op u
        (subst (λ z. IsUsed z u) (sym same) k)))

    led : leads_nowhere e.edge.op e.answer e.held ≡ false → (a : Action) → action e ≡ a → (K : State → Type 0)
        → (l : LeadsTo (after (around e) a s store) K) → Above e l.state
    led leads a same K l =
        covered p is n number rank within graphs tables store store-fits entry entry-fits solves e s h.at leads a same
        l.state l.is

    -- the copies of own local cells
    locals : covers.HasLocals P T e temps → AreLocalsIn (around e).is_shared s (scalars_as temps)
    locals k = record {
      in_own = λ t x copy local.
          got (at_from e) s h.at (k.own t x (have (at_from e) s h.at copy)
          (owned_from p.laid (number e.actor) x (copy_seen t x copy) local));
      agree = λ t u x copy other local.
          ap scalar_as (k.agree t u x (have (at_from e) s h.at copy) (have (at_from e) s h.at other)
          (owned_from p.laid (number e.actor) x (copy_seen t x copy) local));
    }

    -- a calculation
    calc_covered : (temps' : Temps) → leads_nowhere e.edge.op e.answer e.held ≡ false → (a : Action) → action e ≡ a
        → LeadsTo (after (around e) a s store)
        (λ s'. rows.CoversCalculation s s' (scalars_as temps) (scalars_as temps'))
        → covers.CoversCalc P T e temps temps'
    calc_covered temps' leads a same l =
        let c = led leads a same (λ s'. rows.CoversCalculation s s' (scalars_as temps) (scalars_as temps')) l in
        let r = l.covers in record {
          inside = have (at_to e) c.state c.stands (
            c.in_raised (scalars_as temps') r.inside,
            λ u x k. c.cells x (copy_seen u x (r.copies u x (c.copy_lowered u x k)).0),
          );
          own = λ x v k agree. have (at_to e) c.state c.stands (c.own_raised x (scalar_as v)
              (r.own x (scalar_as v) (got (at_from e) s h.at k)
              (λ t copy. ap scalar_as (agree t (have (at_from e) s h.at copy)))));
          copies = λ t x k.
              let z = r.copies t x (c.copy_lowered t x (got (at_to e) c.state c.stands k)) in
              (have (at_from e) s h.at z.0, scalar_same (temps' t) (temps t) z.1);
          pending = λ x m k. have (at_to e) c.state c.stands
              (c.pending_raised x m (r.pending x m (got (at_from e) s h.at k)));
          fresh = λ x k. have (at_from e) s h.at
              (r.fresh x (c.fresh_lowered x (got (at_to e) c.state c.stands k)));
          stored = λ x k. have (at_from e) s h.at
              (r.stored x (c.stored_lowered x (got (at_to e) c.state c.stands k)));
        }

    -- own values and pending mutexes are passed on
    kept : (s' : State) → Above e s' → rows.Keeps s s' → covers.Keeps P T (P.from e) (P.to e)
    kept s' c r = record {
      own = λ x v k. have (at_to e) c.state c.stands
          (c.own_raised x (scalar_as v) (r.own x (scalar_as v) (got (at_from e) s h.at k)));
      pending = λ x m k. have (at_to e) c.state c.stands
          (c.pending_raised x m (r.pending x m (got (at_from e) s h.at k)));
      fresh = λ x k. have (at_from e) s h.at (r.fresh x (c.fresh_lowered x (got (at_to e) c.state c.stands k)));
      stored = λ x k. have (at_from e) s h.at (r.stored x (c.stored_lowered x (got (at_to e) c.state c.stands k)));
    }

    -- the cell of an access
    accessed : (a c : ℕ) (scalar : Scalar) → IsAccess P e temps a c → (cell_at p.laid c).scalar ≡ scalar
        → IsSpotAt p.laid (number e.actor) scalar (temps a) c
    accessed a c scalar access typed =
        spot_at p.laid cells (number e.actor) scalar (temps a) c access.points access.usable typed

    reached : (a c : ℕ) (scalar : Scalar) (k : IsSpotAt p.laid (number e.actor) scalar (temps a) c) → HasTemp s a
        → is_among (targets_at (spots_of p.laid (number e.actor) scalar) (value_of s a).pointers)
        (abstract_of_cell p.laid c) ≡ true
    reached a c scalar k live =
        let spots = spots_of p.laid (number e.actor) scalar in
        subst (λ x. is_among (targets_at spots (value_of s a).pointers) x ≡ true) k.cell
        (target_found spots (value_of s a).pointers k.spot k.among
        (subst (λ w. IsValueIn (value_of s a) w) k.address (in_temp s (scalars_as temps) a h.ins live)))

    -- a cell that shares its abstract cell with another is smashed
    other_smashed : (c d x : ℕ) → c < length p.laid.cells → abstract_of_cell p.laid c ≡ x
        → x < length p.laid.abstract_cells → (d ≡ c → ⊥) → abstract_of_cell p.laid d ≡ x
        → is_smashed_cell p.laid x ≡ true
    other_smashed c d x c-in at lt differ same = by_case (cases_Bool (is_smashed_cell p.laid x))
      where
        by_case : (is_smashed_cell p.laid x ≡ true) ⊎ (is_smashed_cell p.laid x ≡ false)
            → is_smashed_cell p.laid x ≡ true
        by_case (inl yes-smashed) = yes-smashed
        by_case (inr whole) =
            let d-at = cell_within p.laid d x same lt in
            let c-at = cell_within p.laid c x at lt in
            absurd (differ (cells.one d c d-at.0 c-in (d-at.1 ∙ sym c-at.1)
            (ap (λ z. is_smashed_cell p.laid z) d-at.1 ∙ whole)))

    value_found : (x : ℕ) (v : Value) (cell : HasCell s x) → T.own (P.from e) x v
        ⊎ (P.shared x × covers.IsVisible P T (P.actor e) (P.from e) x v)
        → IsValueIn (own_of s x) (scalar_as v) ⊎ ((is_shared_cell p.laid x ≡ true)
        × IsValueIn (visible (around e).reader cell.entry.fresh x store) (scalar_as v))
    value_found x v cell (inl k) = inl (got (at_from e) s h.at k)
    value_found x v cell (inr k) =
        let z : covers.IsVisible P T (P.actor e) (P.from e) x v = k.1 in
        inr (
          shared_test p.laid x k.0,
          heard.weak_out e.actor z.writer e.held e.found x z.under cell.entry.fresh v z.other z.apart
              (⊎_elim (λ above. inl above)
              (λ old. inr (
                false_from_ne_true cell.entry.fresh (λ t. old.0 (have (at_from e) s h.at
                    (record { entry = cell.entry; stands = cell.stands; fresh = t }))),
                old.1,
              )) z.why) z.entered,
        )

    -- the one cell that was read
    copied : (c y : ℕ) (a : ℕ) (scalar : Scalar) → IsSpotAt p.laid (number e.actor) scalar (temps a) c
        → rows.IsCopied (around e) s (abstract_of_cell p.laid c) y → covers.IsCopied P T e c y
    copied c y a scalar k r =
        let lt : y < length p.laid.abstract_cells =
        subst (λ z. z < length p.laid.abstract_cells) (sym r.is) k.seen.cell in
        record {
          is = r.is;
          one = λ d same.
              let d-at = cell_within p.laid d y same lt in
              let c-at = cell_within p.laid c y (sym r.is) lt in
              cells.one d c d-at.0 k.within (d-at.1 ∙ sym c-at.1) (ap (λ z. is_smashed_cell p.laid z) d-at.1 ∙ r.whole);
          known = ⊎_elim (λ shared. inl (shared_from p.laid y lt shared))
              (λ stored. inr (have (at_from e) s h.at stored)) r.known;
        }

    load_copy_seen : (x : ℕ) → IsSeenCell p.laid (number e.actor) x → (s' : State) (t : ℕ) (w : ScalarValue)
        → rows.CoversLoad (around e) s s' (scalars_as temps) t x w → (u y : ℕ) → IsCopyOf s' u y
        → IsSeenCell p.laid (number e.actor) y
    load_copy_seen x x-seen s' t w r u y k =
        ⊎_elim (λ old. copy_seen u y old.0)
        (λ new. subst (IsSeenCell p.laid (number e.actor)) (sym (let z = new.1 in z.is)) x-seen) (r.copies u y k)

    load_covered : (a t c : ℕ) (v : Value) → operation_of e.edge.op e.answer ≡ load a t → IsAccess P e temps a c
        → T.own (P.from e) (P.abstract_cell c) v
        ⊎ (P.shared (P.abstract_cell c)
        × covers.IsVisible P T (P.actor e) (P.from e) (P.abstract_cell c) v) → covers.CoversLoad P T e temps t c v
    load_covered a t c v is-load access found =
        let form = is_load e.edge.op e.answer a t is-load in
        let scalar = form.0 in
        let op : e.edge.op ≡ Op.Load t a scalar form.1 = form.2 in
        let row : Action = loads (spots_of p.laid (number e.actor) scalar) t a in
        let same : action e ≡ row = ap (λ z. action_at p (number e.actor) e.answer z) op in
        let k = accessed a c scalar access (subst (λ z. HasType z (cell_at p.laid c).scalar) op access.fits) in
        let x = abstract_of_cell p.laid c in
        let cell = has_cell x k.seen in
        let live = lives row same a refl in
        let l = load_covers (around e) s (scalars_as temps) h.ins h.fits.form store store-fits.form
        (spots_of p.laid (number e.actor) scalar) t a x (scalar_as v) (reached a c scalar k live) cell
        (value_found x v cell found) in
        let leads = quiet_leads e.edge.op e.answer e.held (subst IsQuiet (sym is-load) tt) in
        let up = led leads row same
        (λ s'. rows.CoversLoad (around e) s s' (scalars_as temps) t x (scalar_as v)) l in
        let r = l.covers in
        let after-put = put_as temps t v in
        record {
          inside = have (at_to e) up.state up.stands (
            subst (AreIn up.state) (sym after-put)
                (up.in_raised (put (scalars_as temps) t (scalar_as v)) r.inside),
            λ u y z. up.cells y (load_copy_seen x k.seen l.state t (scalar_as v) r u y (up.copy_lowered u y z)),
          );
          keeps = kept l.state up r.keeps;
          copies = λ u y z.
              ⊎_elim (λ old. inl (
                have (at_from e) s h.at old.0,
                scalar_same (put_at t v temps u) (temps u) (ap (λ (f : Valuation). f u) after-put ∙ old.1),
              ))
              (λ new. inr (
                scalar_same (put_at t v temps u) v (ap (λ (f : Valuation). f u) after-put ∙ new.0),
                copied c y a scalar k new.1,
              ))
              (r.copies u y (up.copy_lowered u y (got (at_to e) up.state up.stands z)));
        }

    store_covered : (a v c : ℕ) → operation_of e.edge.op e.answer ≡ a_store a v → IsAccess P e temps a c
        → covers.CoversStore P T e temps (temps v) c
    store_covered a v c is-store access =
        let form = is_store e.edge.op e.answer a v is-store in
        let scalar = form.0 in
        let op : e.edge.op ≡ Op.Store a v scalar form.1 form.2 = form.3 in
        let row : Action = stores (spots_of p.laid (number e.actor) scalar) a v in
        let same : action e ≡ row = ap (λ z. action_at p (number e.actor) e.answer z) op in
        let k = accessed a c scalar access (subst (λ z. HasType z (cell_at p.laid c).scalar) op access.fits) in
        let x = abstract_of_cell p.laid c in
        let cell = has_cell x k.seen in
        let live = lives row same a (inl refl) in
        let l = store_covers (around e) s (scalars_as temps) h.ins h.fits.form
        (spots_of p.laid (number e.actor) scalar) a v x (scalar_as (temps v)) store (reached a c scalar k live)
        cell (in_temp s (scalars_as temps) v h.ins (lives row same v (inr refl))) in
        let leads = quiet_leads e.edge.op e.answer e.held (subst IsQuiet (sym is-store) tt) in
        let up = led leads row same
        (λ s'. rows.CoversStore (around e) s s' (scalars_as temps) x (scalar_as (temps v))
        (weak_of (around e) row s x)) l in
        let r = l.covers in
        record {
          inside = have (at_to e) up.state up.stands (
            up.in_raised (scalars_as temps) r.inside,
            λ u y z. up.cells y (copy_seen u y (r.copies u y (up.copy_lowered u y z)).0),
          );
          own = have (at_to e) up.state up.stands (up.own_raised x (scalar_as (temps v)) r.own);
          own_other = λ d w differ z. have (at_to e) up.state up.stands
              (up.own_raised (abstract_of_cell p.laid d) (scalar_as w) (r.own_other (abstract_of_cell p.laid d)
              (scalar_as w) (other_smashed c d x k.within refl k.seen.cell differ) (got (at_from e) s h.at z)));
          pending = λ m shared has-m. have (at_to e) up.state up.stands
              (up.pending_raised x m (r.pending m (shared_test p.laid x shared) (bit_of e.held m has-m.is)));
          pending_other = λ d m differ z. have (at_to e) up.state up.stands
              (up.pending_raised (abstract_of_cell p.laid d) m (r.pending_other (abstract_of_cell p.laid d) m
              (other_smashed c d x k.within refl k.seen.cell differ) (got (at_from e) s h.at z)));
          fresh_other = λ d differ z. have (at_from e) s h.at
              (r.fresh_other (abstract_of_cell p.laid d) (other_smashed c d x k.within refl k.seen.cell differ)
              (up.fresh_lowered (abstract_of_cell p.laid d) (got (at_to e) up.state up.stands z)));
          stored_other = λ d differ z. have (at_from e) s h.at
              (r.stored_other (abstract_of_cell p.laid d) (other_smashed c d x k.within refl k.seen.cell differ)
              (up.stored_lowered (abstract_of_cell p.laid d) (got (at_to e) up.state up.stands z)));
          copies = λ t y z.
              let old = r.copies t y (up.copy_lowered t y (got (at_to e) up.state up.stands z)) in
              (have (at_from e) s h.at old.0, old.1);
          added = λ shared. heard.weak_in e s x (temps v) h.at
              (subst (λ z. IsValueIn (weak_of (around e) z s x) (scalar_as (temps v))) (sym same)
              (r.added (shared_test p.laid x shared)));
        }

    -- ## Mutexes

    static_seen : (x : ℕ) → IsShared p.laid x → IsSeenCell p.laid (number e.actor) x
    static_seen x shared =
        let k = usable_reaches p.laid (number e.actor) x (inl shared) in record { cell = k.0; seen = k.1 }

    handed_over : (m x : ℕ) (v : Value) → covers.IsHanded P T e.actor m x v
        → IsValueIn (handed (number e.actor) m x store) (scalar_as v)
    handed_over m x v z = heard.sync_out e.actor z.writer m x v z.other z.entered

    not_held : (m : ℕ) → m < 16 → (Has e.held m → ⊥) → has e.held m ≡ false
    not_held m small free = false_from_ne_true (has e.held m) (λ t. free (record { small = small; is = t }))

    lock_covered : (m : ℕ) → operation_of e.edge.op e.answer ≡ lock m → (Has e.held m → ⊥)
        → covers.CoversLock P T e temps m
    lock_covered m is-lock free =
        let form = is_lock e.edge.op e.answer m is-lock in
        let op : e.edge.op ≡ Op.Lock m form.0 = form.1 in
        let row : Action = locks m in
        let same : action e ≡ row = ap (λ z. action_at p (number e.actor) e.answer z) op in
        let small = lock_small m form.0 (subst IsOfSixteen op ((graphs e.actor).mutexes e.edge e.among)) in
        let none = not_held m small free in
        let l = lock_covers (around e) s (scalars_as temps) h.ins h.fits.form store store-fits.form m none in
        let leads : leads_nowhere e.edge.op e.answer e.held ≡ false =
        ap (λ z. leads_nowhere z e.answer e.held) op ∙ lock_leads m e.held form.0 e.answer none in
        let up = led leads row same (λ s'. rows.CoversLock (around e) s s' store (scalars_as temps) m) l in
        let r = l.covers in
        record {
          inside = have (at_to e) up.state up.stands (
            up.in_raised (scalars_as temps) r.inside,
            λ u y z. absurd (r.copies u y (up.copy_lowered u y z)),
          );
          keeps = kept l.state up r.keeps;
          handed = λ x v shared z. have (at_to e) up.state up.stands (up.own_raised x (scalar_as v)
              (r.handed x (scalar_as v) (shared_test p.laid x shared) (has_cell x (static_seen x shared))
              (handed_over m x v z)));
          fresh = λ x z. r.fresh x (up.fresh_lowered x (got (at_to e) up.state up.stands z));
          copies = λ t x z. r.copies t x (up.copy_lowered t x (got (at_to e) up.state up.stands z));
        }

    unlock_covered : (m : ℕ) → operation_of e.edge.op e.answer ≡ unlock m → Has e.held m
        → covers.CoversUnlock P T e temps m
    unlock_covered m is-unlock mine =
        let form = is_unlock e.edge.op e.answer m is-unlock in
        let op : e.edge.op ≡ Op.Unlock m form.0 = form.1 in
        let row : Action = unlocks m in
        let same : action e ≡ row = ap (λ z. action_at p (number e.actor) e.answer z) op in
        let l = unlock_covers (around e) s (scalars_as temps) h.ins m store mine.is in
        let leads : leads_nowhere e.edge.op e.answer e.held ≡ false =
        ap (λ z. leads_nowhere z e.answer e.held) op ∙ unlock_leads m e.held form.0 e.answer mine.is in
        let up = led leads row same (λ s'. rows.CoversUnlock (around e) s s' (scalars_as temps) m
        (λ x. sync_of (around e) row s m x)) l in
        let r = l.covers in
        record {
          inside = have (at_to e) up.state up.stands (
            up.in_raised (scalars_as temps) r.inside,
            λ u y z. up.cells y (copy_seen u y (r.copies u y (up.copy_lowered u y z))),
          );
          own = λ x v z. have (at_to e) up.state up.stands
              (up.own_raised x (scalar_as v) (r.own x (scalar_as v) (got (at_from e) s h.at z)));
          pending = λ x k differ z.
              let was = got (at_from e) s h.at z in
              have (at_to e) up.state up.stands
              (up.pending_raised x k (r.pending x k differ mine.small (pending_small x k was) was));
          fresh = λ x z. have (at_from e) s h.at
              (r.fresh x (up.fresh_lowered x (got (at_to e) up.state up.stands z)));
          stored = λ x z. have (at_from e) s h.at
              (r.stored x (up.stored_lowered x (got (at_to e) up.state up.stands z)));
          copies = λ t x z. have (at_from e) s h.at
              (r.copies t x (up.copy_lowered t x (got (at_to e) up.state up.stands z)));
          added = λ x v shared pending own. heard.sync_in e s m x v h.at
              (subst (λ z. IsValueIn (sync_of (around e) z s m x) (scalar_as v)) (sym same)
              (r.added x (scalar_as v) (shared_test p.laid x shared) (got (at_from e) s h.at pending)
              (got (at_from e) s h.at own)));
        }
      where
        pending_small : (x k : ℕ) → IsPending s x k → k < 16
        pending_small x k z =
            within_small z.entry.pending k
            (cell_pending p.laid (number e.actor) x (get s.cells x) z.entry (h.fits.cells x) z.stands) z.pending

    yield_covered : operation_of e.edge.op e.answer ≡ a_yield → covers.CoversYield P T e temps
    yield_covered is =
        let op : e.edge.op ≡ Op.Yield = is_yield e.edge.op e.answer is in
        let row : Action = yields in
        let same : action e ≡ row = ap (λ z. action_at p (number e.actor) e.answer z) op in
        let l = yield_covers (around e) s (scalars_as temps) h.ins store in
        let leads : leads_nowhere e.edge.op e.answer e.held ≡ false =
        ap (λ z. leads_nowhere z e.answer e.held) op ∙ yield_leads e.answer e.held in
        let up = led leads row same (λ s'. rows.CoversYield s s' (scalars_as temps)) l in
        let r = l.covers in
        record {
          inside = have (at_to e) up.state up.stands (
            up.in_raised (scalars_as temps) r.inside,
            λ u y z. up.cells y (copy_seen u y (r.copies u y (up.copy_lowered u y z))),
          );
          keeps = kept l.state up r.keeps;
          fresh = λ x z. r.fresh x (up.fresh_lowered x (got (at_to e) up.state up.stands z));
          copies = λ t x z. have (at_from e) s h.at
              (r.copies t x (up.copy_lowered t x (got (at_to e) up.state up.stands z)));
        }

    held_covered : (m t : ℕ) → operation_of e.edge.op e.answer ≡ probe m t true
        → covers.CoversHeld P T e temps (put_at t (truth_value true) temps)
    held_covered m t is-probe-of =
        let form = is_probe e.edge.op e.answer m t true is-probe-of in
        let op : e.edge.op ≡ Op.Probe t m form.0 = form.1 in
        let row : Action = probes m t true in
        let same : action e ≡ row =
        ap (λ z. action_at p (number e.actor) e.answer z) op
        ∙ ap (λ b. action_at p (number e.actor) b (Op.Probe t m form.0)) form.2 in
        let l = held_covers (around e) s (scalars_as temps) h.ins m t store in
        let leads = quiet_leads e.edge.op e.answer e.held (subst IsQuiet (sym is-probe-of) tt) in
        let v = truth_value true in
        let up = led leads row same
        (λ s'. rows.CoversHeld s s' (scalars_as temps) (put (scalars_as temps) t (scalar_as v))) l in
        let r = l.covers in
        let after-put = put_as temps t v in
        record {
          inside = have (at_to e) up.state up.stands (
            subst (AreIn up.state) (sym after-put)
                (up.in_raised (put (scalars_as temps) t (scalar_as v)) r.inside),
            λ u y z. up.cells y (copy_seen u y (r.copies u y (up.copy_lowered u y z)).0),
          );
          keeps = kept l.state up r.keeps;
          copies = λ u y z.
              let old = r.copies u y (up.copy_lowered u y (got (at_to e) up.state up.stands z)) in (
                have (at_from e) s h.at old.0,
                scalar_same (put_at t v temps u) (temps u) (ap (λ (f : Valuation). f u) after-put ∙ old.1),
              );
        }

    free_covered : (m t : ℕ) → operation_of e.edge.op e.answer ≡ probe m t false → (Has e.held m → ⊥)
        → covers.CoversFree P T e (put_at t (truth_value false) temps) m
    free_covered m t is-probe-of free =
        let form = is_probe e.edge.op e.answer m t false is-probe-of in
        let op : e.edge.op ≡ Op.Probe t m form.0 = form.1 in
        let row : Action = probes m t false in
        let same : action e ≡ row =
        ap (λ z. action_at p (number e.actor) e.answer z) op
        ∙ ap (λ b. action_at p (number e.actor) b (Op.Probe t m form.0)) form.2 in
        let small = probe_small t m form.0 (subst IsOfSixteen op ((graphs e.actor).mutexes e.edge e.among)) in
        let none = not_held m small free in
        let l = free_covers (around e) s (scalars_as temps) h.ins h.fits.form store store-fits.form m t none in
        let leads : leads_nowhere e.edge.op e.answer e.held ≡ false =
        ap (λ z. leads_nowhere z e.answer e.held) op
        ∙ ap (λ b. leads_nowhere (Op.Probe t m form.0) b e.held) form.2 ∙ free_leads t m e.held form.0 none in
        let v = truth_value false in
        let up = led leads row same
        (λ s'. rows.CoversFree (around e) s s' store (put (scalars_as temps) t (scalar_as v)) m) l in
        let r = l.covers in
        let after-put = put_as temps t v in
        record {
          inside = have (at_to e) up.state up.stands (
            subst (AreIn up.state) (sym after-put)
                (up.in_raised (put (scalars_as temps) t (scalar_as v)) r.inside),
            λ u y z. absurd (r.copies u y (up.copy_lowered u y z)),
          );
          keeps = kept l.state up r.keeps;
          handed = λ x w shared z. have (at_to e) up.state up.stands (up.own_raised x (scalar_as w)
              (r.handed x (scalar_as w) (shared_test p.laid x shared) (has_cell x (static_seen x shared))
              (handed_over m x w z)));
          copies = λ u x z. r.copies u x (up.copy_lowered u x (got (at_to e) up.state up.stands z));
        }

    -- ## Calculations

    calculated : (temps' : Temps) → operation_of e.edge.op e.answer ≡ calculation → covers.HasLocals P T e temps
        → Does p.laid e.edge.op temps temps' → covers.CoversCalc P T e temps temps'
    calculated temps' is-calc own does =
        let b = body_at p (number e.actor) in
        calc_covered temps' (quiet_leads e.edge.op e.answer e.held (subst IsQuiet (sym is-calc) tt)) (action e) refl
        (row_calc (around e) (sizes_of p.laid) s (scalars_as temps) store h.ins sized (locals own) (action e)
        (scalars_as temps') (lives (action e) refl)
        (λ spots t address range same. no_load p.laid (number e.actor) (tests_pointer b.pointers e.edge.op) e.answer
        e.edge.op is-calc spots t address range same)
        ((means e.actor).does e.edge e.among s h.fits temps temps' h.ins does e.answer))

    loaded_any : (temps' : Temps) (a c : ℕ) → operation_of e.edge.op e.answer ≡ load_any a → IsAccess P e temps a c
        → Does p.laid e.edge.op temps temps' → covers.CoversCalc P T e temps temps'
    loaded_any temps' a c is-any access does =
        let form = is_load_any e.edge.op e.answer a is-any in
        let t = form.0 in
        let scalar = form.1 in
        let op : e.edge.op ≡ Op.LoadAny t a scalar form.2 = form.3 in
        let spots = spots_of p.laid (number e.actor) scalar in
        let range = open_value scalar in
        let row : Action = loads_any spots t a range in
        let same : action e ≡ row = ap (λ z. action_at p (number e.actor) e.answer z) op in
        let k = accessed a c scalar access (subst (λ z. HasType z (cell_at p.laid c).scalar) op access.fits) in
        let live = lives row same a refl in
        let mean : Means (sizes_of p.laid) row (scalars_as temps) (scalars_as temps') =
        subst (λ z. Means (sizes_of p.laid) z (scalars_as temps) (scalars_as temps')) same
        ((means e.actor).does e.edge e.among s h.fits temps temps' h.ins does e.answer) in
        calc_covered temps' (quiet_leads e.edge.op e.answer e.held (subst IsQuiet (sym is-any) tt)) row same
        (subst (λ z. LeadsTo (after (around e) row s store)
        (λ s'. rows.CoversCalculation s s' (scalars_as temps) z)) (sym mean.2)
        (load_any_covers (around e) s (scalars_as temps) h.ins spots t a (abstract_of_cell p.laid c) range mean.0
        store (reached a c scalar k live) mean.1))

    pub failed : (class : Class) → Fails p.laid e.edge.op temps class → IsListed (around e) (action e) s class
    failed class k =
        row_fails (around e) (sizes_of p.laid) s (scalars_as temps) store h.ins sized (action e) class
        (lives (action e) refl) ((means e.actor).fails e.edge e.among s h.fits temps class h.ins k e.answer)

    -- ## Clearings

    own_cell : (x : ℕ) (w : ScalarValue) → IsValueIn (own_of s x) w → HasCell s x
    own_cell x w k = by_case (get s.cells x) refl k
      where
        by_case : (a : Option Cell) → get s.cells x ≡ a → IsValueIn (own_value a) w → HasCell s x
        by_case None at z = absurd (none_has w z)
        by_case (Some c) at z = record { entry = c; stands = at }

    clear_covered : operation_of e.edge.op e.answer ≡ clear → covers.CoversClear P T e temps
    clear_covered is-clear-of =
        let form = is_clear e.edge.op e.answer is-clear-of in
        let o = form.0 in
        let op : e.edge.op ≡ Op.Clear o = form.1 in
        let row : Action = clears (cleared_value p.laid o) in
        let same : action e ≡ row = ap (λ z. action_at p (number e.actor) e.answer z) op in
        let owns = (graphs e.actor).clears e.edge o e.among op in
        let l = clear_covers (around e) s (scalars_as temps) h.ins (cleared_value p.laid o) store in
        let leads = quiet_leads e.edge.op e.answer e.held (subst IsQuiet (sym is-clear-of) tt) in
        let up = led leads row same
        (λ s'. rows.CoversClear (around e) s s' (scalars_as temps) (cleared_value p.laid o)) l in
        let r = l.covers in
        record {
          inside = have (at_to e) up.state up.stands (
            up.in_raised (scalars_as temps) r.inside,
            λ u y z. up.cells y (copy_seen u y (r.copies u y (up.copy_lowered u y z)).0),
          );
          own = λ c v k reads.
              let part : IsPartOf p.laid o c = subst (λ z. Clears p.laid z c) op k in
              let laid-cell = cells.parts o c part.within part.part in
              let at = abstract_within p.laid c part.within in
              let x = abstract_of_cell p.laid c in
              let lt : x < length p.laid.abstract_cells =
              subst (λ z. z < length p.laid.abstract_cells) (sym at) laid-cell.abstract in
              let object : (abstract_at p.laid x).object ≡ o =
              ap (λ z. (abstract_at p.laid z).object) at ∙ laid-cell.part in
              let seen-cell : IsSeenCell p.laid (number e.actor) x = record {
                cell = lt;
                seen = subst (λ z. is_reachable p.laid (number e.actor) z ≡ true) (sym object)
                    (path_reaches p.laid (number e.actor) (object_at p.laid o).owner owns.1.path owns.1.owner
                    owns.1.own);
              } in
              let scalar : (abstract_at p.laid x).scalar ≡ (cell_at p.laid c).scalar =
              ap (λ z. (abstract_at p.laid z).scalar) at ∙ cells.scalars c part.within in
              have (at_to e) up.state up.stands (up.own_raised x (scalar_as v)
              (r.own x (open_value (abstract_at p.laid x).scalar) (scalar_as v)
              (cleared_in p.laid o x (subst (λ z. IsOfObject p.laid o z) (sym at) laid-cell.range))
              (has_cell x seen-cell)
              (subst (λ z. IsValueIn (open_value z) (scalar_as v)) (sym scalar)
              (read_open (part_of p n number rank) x (cell_at p.laid c).scalar v reads scalar))));
          own_other = λ c v other k.
              let x = abstract_of_cell p.laid c in
              let was = got (at_from e) s h.at k in
              let lt = (seen x (own_cell x (scalar_as v) was)).cell in
              let there = cell_within p.laid c x refl lt in
              let out = cleared_out p.laid o x (λ range.
              other (subst (λ z. Clears p.laid z c) (sym op) (record {
                within = there.0;
                part = cells.ranges o c owns.0 there.0 (subst (λ z. IsOfObject p.laid o z) (sym there.1) range);
              }))) in
              have (at_to e) up.state up.stands
              (up.own_raised x (scalar_as v) (r.own_other x (scalar_as v) out was));
          pending = λ x m k. have (at_to e) up.state up.stands
              (up.pending_raised x m (r.pending x m (got (at_from e) s h.at k)));
          fresh = λ x k. have (at_from e) s h.at
              (r.fresh x (up.fresh_lowered x (got (at_to e) up.state up.stands k)));
          stored = λ c k.
              let x = abstract_of_cell p.laid c in
              let old = r.stored x (up.stored_lowered x (got (at_to e) up.state up.stands k)) in
              (have (at_from e) s h.at old.0, λ clear-c. not_cleared o op c clear-c old.1);
          copies = λ c t k.
              let x = abstract_of_cell p.laid c in
              let old = r.copies t x (up.copy_lowered t x (got (at_to e) up.state up.stands k)) in
              (have (at_from e) s h.at old.0, λ clear-c. not_cleared o op c clear-c old.1);
        }
      where
        not_cleared : (o : ℕ) → e.edge.op ≡ Op.Clear o → (c : ℕ) → Clears p.laid e.edge.op c
            → cleared_value p.laid o (abstract_of_cell p.laid c) ≡ None → ⊥
        not_cleared o op c k none =
            let part : IsPartOf p.laid o c = subst (λ z. Clears p.laid z c) op k in
            let laid-cell = cells.parts o c part.within part.part in
            let at = abstract_within p.laid c part.within in
            none_some (cleared_value p.laid o (abstract_of_cell p.laid c))
            (open_value (abstract_at p.laid (abstract_of_cell p.laid c)).scalar) none
            (cleared_in p.laid o (abstract_of_cell p.laid c)
            (subst (λ z. IsOfObject p.laid o z) (sym at) laid-cell.range))

    -- ## Classes and targets

    relocked : (m : ℕ) → operation_of e.edge.op e.answer ≡ lock m → Has e.held m
        → IsListed (around e) (action e) s Classes.Lock
    unfolding IsListed
    relocked m is-lock mine =
        let form = is_lock e.edge.op e.answer m is-lock in
        let same : action e ≡ locks m = ap (λ z. action_at p (number e.actor) e.answer z) form.1 in
        let k : IsListed (around e) (locks m) s Classes.Lock = (refl, mine.is) in
        subst (λ z. IsListed (around e) z s Classes.Lock) (sym same) k

    unlocked : (m : ℕ) → operation_of e.edge.op e.answer ≡ unlock m → (Has e.held m → ⊥)
        → IsListed (around e) (action e) s Classes.Lock
    unfolding IsListed
    unlocked m is-unlock foreign =
        let form = is_unlock e.edge.op e.answer m is-unlock in
        let same : action e ≡ unlocks m = ap (λ z. action_at p (number e.actor) e.answer z) form.1 in
        let small = unlock_small m form.0 (subst IsOfSixteen form.1 ((graphs e.actor).mutexes e.edge e.among)) in
        let k : IsListed (around e) (unlocks m) s Classes.Lock = (refl, not_held m small foreign) in
        subst (λ z. IsListed (around e) z s Classes.Lock) (sym same) k

    load_reaches : (a t c : ℕ) → operation_of e.edge.op e.answer ≡ load a t → IsAccess P e temps a c
        → is_among (targets_of (action e) s) (abstract_of_cell p.laid c) ≡ true
    unfolding targets_of
    load_reaches a t c is-load access =
        let form = is_load e.edge.op e.answer a t is-load in
        let row : Action = loads (spots_of p.laid (number e.actor) form.0) t a in
        let same : action e ≡ row = ap (λ z. action_at p (number e.actor) e.answer z) form.2 in
        let k = accessed a c form.0 access (subst (λ z. HasType z (cell_at p.laid c).scalar) form.2 access.fits) in
        let at : is_among (targets_of row s) (abstract_of_cell p.laid c) ≡ true =
        reached a c form.0 k (lives row same a refl) in
        subst (λ z. is_among (targets_of z s) (abstract_of_cell p.laid c) ≡ true) (sym same) at

    load_any_reaches : (a c : ℕ) → operation_of e.edge.op e.answer ≡ load_any a → IsAccess P e temps a c
        → is_among (targets_of (action e) s) (abstract_of_cell p.laid c) ≡ true
    unfolding targets_of
    load_any_reaches a c is-any access =
        let form = is_load_any e.edge.op e.answer a is-any in
        let row : Action = loads_any (spots_of p.laid (number e.actor) form.1) form.0 a (open_value form.1) in
        let same : action e ≡ row = ap (λ z. action_at p (number e.actor) e.answer z) form.3 in
        let k = accessed a c form.1 access (subst (λ z. HasType z (cell_at p.laid c).scalar) form.3 access.fits) in
        let at : is_among (targets_of row s) (abstract_of_cell p.laid c) ≡ true =
        reached a c form.1 k (lives row same a refl) in
        subst (λ z. is_among (targets_of z s) (abstract_of_cell p.laid c) ≡ true) (sym same) at

    store_reaches : (a v c : ℕ) → operation_of e.edge.op e.answer ≡ a_store a v → IsAccess P e temps a c
        → is_among (targets_of (action e) s) (abstract_of_cell p.laid c) ≡ true
    unfolding targets_of
    store_reaches a v c is-store access =
        let form = is_store e.edge.op e.answer a v is-store in
        let row : Action = stores (spots_of p.laid (number e.actor) form.0) a v in
        let same : action e ≡ row = ap (λ z. action_at p (number e.actor) e.answer z) form.3 in
        let k = accessed a c form.0 access (subst (λ z. HasType z (cell_at p.laid c).scalar) form.3 access.fits) in
        let at : is_among (targets_of row s) (abstract_of_cell p.laid c) ≡ true =
        reached a c form.0 k (lives row same a (inl refl)) in
        subst (λ z. is_among (targets_of z s) (abstract_of_cell p.laid c) ≡ true) (sym same) at

  -- The tables cover each edge.
  pub covers_all : covers.IsSolution P T
  covers_all = record {
    calcs = λ e temps temps' is-calc inside own does. calculated e temps (here e temps inside) temps' is-calc own does;
    loads = λ e temps a t c v is-load inside access found.
        load_covered e temps (here e temps inside) a t c v is-load access found;
    loads_any = λ e temps temps' a c is-any inside own access does.
        loaded_any e temps (here e temps inside) temps' a c is-any access does;
    stores = λ e temps a v c is-store inside access.
        store_covered e temps (here e temps inside) a v c is-store access;
    clears = λ e temps is-clear-of inside. clear_covered e temps (here e temps inside) is-clear-of;
    locks = λ e temps m is-lock-of inside free. lock_covered e temps (here e temps inside) m is-lock-of free;
    unlocks = λ e temps m is-unlock-of inside mine. unlock_covered e temps (here e temps inside) m is-unlock-of mine;
    waits = λ e temps is-yield-of inside. yield_covered e temps (here e temps inside) is-yield-of;
    finds_held = λ e temps m t is-probe-of inside. held_covered e temps (here e temps inside) m t is-probe-of;
    finds_free = λ e temps m t is-probe-of inside free.
        free_covered e temps (here e temps inside) m t is-probe-of free;
    listed_calc = λ e temps class is-calc inside k. let h = here e temps inside in
        have (at_from e) h.state h.at (failed e temps h class k);
    listed_lock = λ e temps m is-lock-of inside mine. let h = here e temps inside in
        have (at_from e) h.state h.at (relocked e temps h m is-lock-of mine);
    listed_unlock = λ e temps m is-unlock-of inside foreign. let h = here e temps inside in
        have (at_from e) h.state h.at (unlocked e temps h m is-unlock-of foreign);
    load_target = λ e temps a t c is-load inside access. let h = here e temps inside in
        have (at_from e) h.state h.at (load_reaches e temps h a t c is-load access);
    load_any_target = λ e temps a c is-any inside access. let h = here e temps inside in
        have (at_from e) h.state h.at (load_any_reaches e temps h a c is-any access);
    store_target = λ e temps a v c is-store inside access. let h = here e temps inside in
        have (at_from e) h.state h.at (store_reaches e temps h a v c is-store access);
  }
