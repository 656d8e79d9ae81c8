-- The equations of a body are a system of equations.
use Rattle.std.specs.Prelude.{◌≡◌, ℕ, ◌<◌, Bool, true, false, ℤ, List, length, map, get_or, is_some, unwrap_or}
use Rattle.std.specs.Prelude.{Option, Some, None, IfSome, refl}
use Rattle.std.proofs.Common.{sym, ap, subst, ◌∙◌, arith}
use Rattle.std.proofs.lemmas.List.{get_or-map, length-map}
use Rattle.std.proofs.lemmas.Bool.{true≢false}
use Rattle.table_covers.specs.tm_lattice.Tables.{IsBelow}
use Rattle.state_fits.specs.temporary_types.Sorts.{Sort}
use Rattle.state_fits.specs.temporary_extents.declared.extents.Extent.{Extent}
use Rattle.state_fits.specs.temporary_extents.Extents.{extents_in}
use Rattle.mutex_configs.specs.declared.nodes.EdgeCopy.{EdgeCopy}
use Rattle.state_fits.specs.pointer_dom.Values.{Values, joined_values, rounded_values}
use Rattle.state_fits.specs.cell_env.States.{joined_state}
use Rattle.state_fits.specs.interfere_set.Stores.{Interferences, IsStoreBelow}
use Rattle.state_fits.specs.interfere_set.laws.StoreLaws.{store_order}
use Rattle.state_fits.specs.transfer_rows.Accesses.{is_among}
use Rattle.state_fits.specs.transfer_rows.StateForms.{State, IsStateForm, IsStateUnder}
use Rattle.state_fits.specs.transfer_rows.Rows.{after}
use Rattle.state_fits.proofs.low.transfer_rows.RowsRise.{after_rises}
use Rattle.state_fits.proofs.low.edge_actions.ActionForms.{edge_is}
use Rattle.table_covers.specs.declared.links.Link.{Link}
use Rattle.table_covers.specs.Systems.{IsLawfulSystem, no_link, from_of, to_of}
use Rattle.state_fits.specs.temporary_types.Sorts.{types_of}
use Rattle.state_fits.specs.Fits.{AreKinds, FitsPlace, FitsStore}
use Rattle.state_fits.specs.Kinds.{InExtents}
use Rattle.state_fits.specs.Edges.{FitsEdge}
use Rattle.state_fits.specs.laws.ExtentKinds.{extents_are_kinds}
use Rattle.state_fits.specs.laws.AfterFits.{edge_fits}
use Rattle.state_fits.specs.laws.PlacesFit.{states_order, states_round, joined_fits, rounded_fits}
use Rattle.state_fits.specs.laws.TopStates.{heights, fits_within}
use Rattle.task_equations.specs.Bodies.{Body, no_copy, edge_of, node_at, copy_at, live_at}
use Rattle.task_equations.specs.Equations.{tests_pointer, action_along, around_along, led, after_along, link_of}
use Rattle.task_equations.specs.Equations.{cells_at, rounded_at, equations_of}
use Rattle.task_equations.specs.Premises.{IsCopyOf, IsBody, FitsBody}
use Rattle.task_equations.specs.laws.Extents.{in_sorts, are_closed, node_typed}

-- ## Links

module _ (b : Body) where
  link_is : (k : ℕ) → k < length b.copies → get_or (map link_of b.copies) k no_link ≡ link_of (copy_at b k)
  link_is k lt = get_or-map link_of b.copies k no_copy no_link lt

  from_is : (k : ℕ) → k < length b.copies
      → (let c = copy_at b k in from_of (map link_of b.copies) k ≡ c.from)
  from_is k lt = ap (λ (l : Link). l.from) (link_is k lt)

  to_is : (k : ℕ) → k < length b.copies
      → (let c = copy_at b k in to_of (map link_of b.copies) k ≡ unwrap_or c.to c.from)
  to_is k lt = ap (λ (l : Link). l.to) (link_is k lt)

  in_copies : (k : ℕ) → k < length (map link_of b.copies) → k < length b.copies
  in_copies k lt = subst (λ n. k < n) (length-map b.copies link_of) lt

module _ (b : Body) (sorts : List Sort) (is : IsBody b sorts) (tasks : ℕ) (store : Interferences)
    (store-fits : FitsStore b.laid tasks store) where
  abbrev extents : List Extent
  extents = extents_in b.edges

  abbrev Holds : ℕ → Values → Type 0
  Holds = InExtents b.laid extents

  abbrev kinds : AreKinds b.laid Holds
  kinds = extents_are_kinds b.laid extents

  -- ## What a copy brings

  edge_along : (c : EdgeCopy) → IsCopyOf b c → (let q = node_at b c.from in let e = edge_of b c in
      FitsEdge b.laid b.task sorts (around_along b c) e.op (live_at b q.place) (live_at b e.to))
  edge_along c h =
      let q = node_at b c.from in
      let e = edge_of b c in record {
        operation = is.operations c.edge h.edge;
        objects = is.objects c.edge h.edge;
        spots = is.spots;
        seen = is.seen;
        held = is.held c.from h.from;
        shares = λ x. refl;
        arrives = λ t. refl;
        flow = λ t live other.
            subst (λ p. is_among (live_at b p) t ≡ true) (sym h.leaves) (is.flow c.edge h.edge t live other);
      }

  led_fits : (c : EdgeCopy) → IsCopyOf b c → (s : State) → FitsBody b c.from s
      → (to : Option ℕ) → c.to ≡ to → (a : Option State)
      → after (around_along b c) (action_along b c) s store ≡ a
      → IfSome (led to a) (FitsBody b (unwrap_or to c.from))
  led_fits c h s fits None e a at = tt
  led_fits c h s fits (Some n) e None at = tt
  led_fits c h s fits (Some n) e (Some t) at =
      let edge = edge_of b c in
      let q = node_at b c.from in
      subst (λ p. FitsPlace b.laid b.task Holds (live_at b p) t) (sym (h.leads n e))
      (edge_fits b.laid b.task tasks sorts extents (around_along b c) edge.op (live_at b q.place) (live_at b edge.to)
      (edge_along c h) store store-fits (in_sorts b sorts is) (are_closed b sorts is c.edge h.edge)
      (tests_pointer b.pointers edge.op) c.answer s fits t at)

  along_fits : (c : EdgeCopy) → IsCopyOf b c → (s : State) → FitsBody b c.from s
      → IfSome (after_along b store c s) (FitsBody b (unwrap_or c.to c.from))
  along_fits c h s fits =
      led_fits c h s fits c.to refl (after (around_along b c) (action_along b c) s store) refl

  led_rises : (to : Option ℕ) (x y : Option State) → IsBelow IsStateUnder x y
      → IsBelow IsStateUnder (led to x) (led to y)
  led_rises None x y le = tt
  led_rises (Some n) x y le = le

  along_rises : (c : EdgeCopy) (s t : State) → IsStateForm s → IsStateForm t → IsStateUnder s t
      → IsBelow IsStateUnder (after_along b store c s) (after_along b store c t)
  along_rises c s t s-is t-is le =
      let edge = edge_of b c in
      led_rises c.to
      (after (around_along b c) (action_along b c) s store) (after (around_along b c) (action_along b c) t store)
      (after_rises (around_along b c) s t s-is t-is le store store store-fits.form store-fits.form
      (store_order.reflexive store store-fits.form) (action_along b c)
      (edge_is b.laid b.task (tests_pointer b.pointers edge.op) c.answer edge.op))

  -- ## Rounding

  round_fits : (live : List ℕ) (cells : Option (List ℕ)) (s : State) → FitsPlace b.laid b.task Holds live s
      → FitsPlace b.laid b.task Holds live (rounded_at b.marks cells s)
  round_fits live None s h = h
  round_fits live (Some cells) s h = rounded_fits b.laid b.task Holds kinds live b.marks cells s is.marks h

  round_extensive : (cells : Option (List ℕ)) (s : State) → IsStateForm s
      → IsStateUnder s (rounded_at b.marks cells s)
  round_extensive None s h = states_order.reflexive s h
  round_extensive (Some cells) s h = (states_round cells).extensive b.marks s tt h

  round_rises : (cells : Option (List ℕ)) (s t : State) → IsStateForm s → IsStateForm t → IsStateUnder s t
      → IsStateUnder (rounded_at b.marks cells s) (rounded_at b.marks cells t)
  round_rises None s t h k le = le
  round_rises (Some cells) s t h k le = (states_round cells).monotone b.marks s t tt h k le

  round_again : (cells : Option (List ℕ)) (s : State) → IsStateForm s
      → rounded_at b.marks cells (rounded_at b.marks cells s) ≡ rounded_at b.marks cells s
  round_again None s h = refl
  round_again (Some cells) s h = (states_round cells).idempotent b.marks s tt h

  round_plain : (cells : Option (List ℕ)) (s : State) → is_some cells ≡ false → rounded_at b.marks cells s ≡ s
  round_plain None s e = refl
  round_plain (Some cells) s e = absurd (true≢false e)

  -- ## The system

  module _ (entry : Option State) (entry-fits : IfSome entry (FitsBody b 0)) where
    pub equations_are_lawful : IsLawfulSystem IsStateForm IsStateUnder (joined_state joined_values)
        (FitsBody b) (equations_of b entry store)
    equations_are_lawful = record {
      some_node = is.some;
      from_node = λ e lt. (let k = in_copies b e lt in
          subst (λ n. n < length b.nodes) (sym (from_is b e k)) (is.copies e k).from);
      to_node = λ e lt. (let k = in_copies b e lt in
          subst (λ n. n < length b.nodes) (sym (to_is b e k)) (to_in (copy_at b e) (is.copies e k) (copy_to e) refl));
      value = λ n s h. h.form;
      entry_fits = entry-fits;
      after_fits = λ e s lt h.
          let k = in_copies b e lt in
          let c = copy_at b e in
          subst (λ n. IfSome (after_along b store c s) (FitsBody b n)) (sym (to_is b e k))
          (along_fits c (is.copies e k) s (subst (λ n. FitsBody b n s) (from_is b e k) h));
      joined_fits = λ n s t h k. (let q = node_at b n in
          joined_fits b.laid b.task Holds kinds (live_at b q.place) s t h k);
      outward_fits = λ n s h. (let q = node_at b n in round_fits (live_at b q.place) (cells_at b n) s h);
      monotone = λ e s t lt h k le. along_rises (copy_at b e) s t h.form k.form le;
      extensive = λ n s h. round_extensive (cells_at b n) s h.form;
      rising = λ n s t h k le. round_rises (cells_at b n) s t h.form k.form le;
      idempotent = λ n s h. round_again (cells_at b n) s h.form;
      plain = λ n s e h. round_plain (cells_at b n) s e;
      first_plain = ap is_some is.entry;
      within = λ n s h. (let q = node_at b n in
          fits_within b.laid b.task (types_of sorts) (live_at b q.place) s (node_typed b sorts is n s h));
      climbs = λ s t s-is t-is le. heights.climbs s t s-is t-is le;
      strictly = λ s t s-is t-is le flat. heights.strictly s t s-is t-is le flat;
    }
      where
        copy_to : ℕ → Option ℕ
        copy_to e = let c = copy_at b e in c.to

        to_in : (c : EdgeCopy) → IsCopyOf b c → (to : Option ℕ) → c.to ≡ to → unwrap_or to c.from < length b.nodes
        to_in c h None e = h.from
        to_in c h (Some n) e = h.to n e
