-- Two operands: what the tables tell of them is what the definitions say.
use Rattle.std.proofs.Common.{◌≡◌, ◌↔◌, ◌⊎◌, ℕ, refl, sym, subst, inl, inr, List}
use Rattle.std.specs.Prelude.{Contains}
use Rattle.tm_terms.specs.declared.places.Place.{Place}
use Rattle.path_origins.specs.declared.origins.Form.{Form}
use Rattle.path_origins.specs.declared.origins.Form.TheVariants as Forms
use Rattle.path_origins.specs.declared.origins.Span.{Span}
use Rattle.operand_orders.specs.declared.pairs.Pair.{Pair}
use Rattle.operand_orders.specs.declared.accesses.Accesses.{Accesses}
use Rattle.operand_orders.specs.declared.touches.Touches.{Touches as Tables}
use Rattle.operand_orders.specs.Reached.{SolvedBody, IsWithin, operation_at, origin_at}
use Rattle.operand_orders.specs.Order.{SpanLoads, SpanStores, SpanWaits, IsInitialising, IsSeen, Touches, Acts}
use Rattle.operand_orders.specs.Order.{ReadsMore}
use Rattle.operand_orders.specs.Order.{Waits, Matters, IsOfOrder}
use Rattle.operand_orders.specs.Order.IsSeen.{waiting, storing, loading}
use Rattle.operand_orders.specs.Order.Touches.{loaded, stored}
use Rattle.operand_orders.specs.Order.Matters.{touching, waiting as one_waits, reading}
use Rattle.operand_orders.specs.Order.IsOfOrder.{operands, reloaded, overwritten}
use Rattle.access_races.specs.reading.Ways.{HasOne}
use Rattle.operand_orders.specs.reading.Pairs.{pair}
use Rattle.operand_orders.specs.reading.Touches.{WaitsAt, IsSeenAt, HasAccess}
use Rattle.operand_orders.specs.reading.Touches.{IsTouched}
use Rattle.operand_orders.specs.reading.Touches.{IsMarkedIn, AreTouches}
use Rattle.operand_orders.specs.reading.Operands.{DoMeet, DoOverlap, AreSeen, IsReloaded, IsOverwritten}
use Rattle.operand_orders.specs.reading.Operands.{IsOfOperands, IsOfReloads, IsOfOverwrites}
use Rattle.access_races.proofs.Joins.{either}

-- ## Tables

pub meet_is : (a : Accesses) (one : Span) (b : Accesses) (other : Span) (ws : List Pair)
    → ((p : Pair) → Contains ws p ↔ (Contains a.by_edge.items p × IsWithin p.first one))
    → HasOne (λ (p : Pair). IsTouched b other p.second) ws ↔ DoMeet a one b other
meet_is a one b other ws exact = (
  λ h. let w = (exact h.one).0 h.has in record {
    cell = h.one.second;
    here = record { edge = h.one.first; within = w.1; has = w.0 };
    there = h.is;
  },
  λ d. record {
    one = pair d.here.edge d.cell;
    has = (exact (pair d.here.edge d.cell)).1 (d.here.has, d.here.within);
    is = d.there;
  },
)

module _ (t : Tables) where
  meet_back : (a b : Accesses) (one other : Span) → DoMeet a one b other → DoMeet b other a one
  meet_back a b one other d = record { cell = d.cell; here = d.there; there = d.here }

  pub overlap_back : (one other : Span) → DoOverlap t one other → DoOverlap t other one
  overlap_back one other (inl (inl (inl d))) = inl (inl (inr (meet_back t.stores t.loads one other d)))
  overlap_back one other (inl (inl (inr d))) = inl (inl (inl (meet_back t.loads t.stores one other d)))
  overlap_back one other (inl (inr d)) = inr (meet_back t.changes t.stores one other d)
  overlap_back one other (inr d) = inl (inr (meet_back t.stores t.changes one other d))

  pub reloaded_is : (load : ℕ) (right : Span) (ws : List Pair)
      → ((p : Pair) → Contains ws p ↔ (Contains (let a = t.loads in a.by_edge.items) p × (p.first ≡ load)))
      → HasOne (λ (p : Pair). IsTouched t.stores right p.second) ws ↔ IsReloaded t load right
  reloaded_is load right ws exact = (
    λ h. let w = (exact h.one).0 h.has in record {
      cell = h.one.second;
      loads = subst (λ e. HasAccess t.loads e h.one.second) w.1 w.0;
      stores = h.is;
    },
    λ r. record { one = pair load r.cell; has = (exact (pair load r.cell)).1 (r.loads, refl); is = r.stores },
  )

  pub overwritten_is : (store earlier : ℕ) (ws : List Pair)
      → ((p : Pair) → Contains ws p ↔ (Contains (let a = t.stores in a.by_edge.items) p × (p.first ≡ store)))
      → HasOne (λ (p : Pair). HasAccess t.stores earlier p.second) ws ↔ IsOverwritten t store earlier
  overwritten_is store earlier ws exact = (
    λ h. let w = (exact h.one).0 h.has in record {
      cell = h.one.second;
      stores = subst (λ e. HasAccess t.stores e h.one.second) w.1 w.0;
      before = h.is;
    },
    λ r. record { one = pair store r.cell; has = (exact (pair store r.cell)).1 (r.stores, refl); is = r.before },
  )

-- ## By the definitions

form_case : (f : Form) → (f ≡ Forms.Initialise) ⊎ (f ≡ Forms.Initialise → ⊥)
form_case Forms.Initialise = inl refl
form_case _ = inr (λ e. absurd cc)

module _ (b : SolvedBody) (t : Tables) (are : AreTouches b t) where
  loads_in : (span : Span) (cell : ℕ) → IsTouched t.loads span cell → SpanLoads b span cell
  loads_in span cell h = record { edge = h.edge; within = h.within; loads = (are.loads.exact h.edge cell).0 h.has }

  loads_back : (span : Span) (cell : ℕ) → SpanLoads b span cell → IsTouched t.loads span cell
  loads_back span cell h = record { edge = h.edge; within = h.within; has = (are.loads.exact h.edge cell).1 h.loads }

  stores_in : (span : Span) (cell : ℕ) → IsTouched t.stores span cell → SpanStores b span cell
  stores_in span cell h = record { edge = h.edge; within = h.within; stores = (are.stores.exact h.edge cell).0 h.has }

  stores_back : (span : Span) (cell : ℕ) → SpanStores b span cell → IsTouched t.stores span cell
  stores_back span cell h = record { edge = h.edge; within = h.within; has = (are.stores.exact h.edge cell).1 h.stores }

  -- ### Touching

  overlap_in : (one other : Span) → DoOverlap t one other → Touches b one other ⊎ Touches b other one
  overlap_in one other (inl (inl (inl d))) =
      inl (loaded d.cell (stores_in one d.cell d.here) (loads_in other d.cell d.there))
  overlap_in one other (inl (inl (inr d))) =
      inr (loaded d.cell (stores_in other d.cell d.there) (loads_in one d.cell d.here))
  overlap_in one other (inl (inr d)) =
      let c = (are.changes.exact d.here.edge d.cell).0 d.here.has in
      inl (stored d.cell d.here.edge d.there.edge d.here.within c.0 d.there.within
      ((are.stores.exact d.there.edge d.cell).0 d.there.has) (λ i j. c.1 i))
  overlap_in one other (inr d) =
      let c = (are.changes.exact d.there.edge d.cell).0 d.there.has in
      inl (stored d.cell d.here.edge d.there.edge d.here.within ((are.stores.exact d.here.edge d.cell).0 d.here.has)
      d.there.within c.0 (λ i j. c.1 j))

  touches_back : (one other : Span) → Touches b one other → DoOverlap t one other
  touches_back one other (loaded cell s l) =
      inl (inl (inl (record { cell = cell; here = stores_back one cell s; there = loads_back other cell l })))
  touches_back one other (stored cell edge edge' within s within' s' not) =
      either
      (λ (i : IsInitialising b edge). inr (record {
        cell = cell;
        here = record { edge = edge; within = within; has = (are.stores.exact edge cell).1 s };
        there = record {
          edge = edge';
          within = within';
          has = (are.changes.exact edge' cell).1 (s', λ j. not i j);
        };
      }))
      (λ (n : IsInitialising b edge → ⊥). inl (inr (record {
        cell = cell;
        here = record { edge = edge; within = within; has = (are.changes.exact edge cell).1 (s, n) };
        there = record { edge = edge'; within = within'; has = (are.stores.exact edge' cell).1 s' };
      }))) (form_case (let o = origin_at b edge in o.form))

  -- ### Waiting

  waits_in : (span : Span) → IsMarkedIn t.waits span → SpanWaits b span
  waits_in span h =
      let w = (are.waits.exact h.edge).0 h.marked in record {
        edge = h.edge;
        within = h.within;
        op = operation_at b h.edge;
        state = w.state;
        has = w.has;
        waits = w.waits;
      }

  waits_at : (span : Span) (h : SpanWaits b span) → WaitsAt b h.edge
  waits_at span h = record {
    state = h.state;
    has = record {
      number = h.has.number;
      copy = h.has.copy;
      is = h.has.is;
      of = h.has.of;
      state = h.has.state;
      operation = refl;
    };
    waits = subst Waits (sym h.has.operation) h.waits;
  }

  waits_back : (span : Span) → SpanWaits b span → IsMarkedIn t.waits span
  waits_back span h = record {
    edge = h.edge;
    within = h.within;
    marked = (are.waits.exact h.edge).1 (waits_at span h);
  }

  seen_by : (span : Span) (edge : ℕ) → IsWithin edge span → IsSeenAt b edge → IsSeen b span
  seen_by span edge within (inl w) = waiting (record {
    edge = edge;
    within = within;
    op = operation_at b edge;
    state = w.state;
    has = w.has;
    waits = w.waits;
  })
  seen_by span edge within (inr (inl s)) =
      storing s.cell s.static (record { edge = edge; within = within; stores = s.stores })
  seen_by span edge within (inr (inr l)) =
      loading l.cell l.static l.others (record { edge = edge; within = within; loads = l.loads })

  seen_in : (span : Span) → IsMarkedIn t.seen span → IsSeen b span
  seen_in span h = seen_by span h.edge h.within ((are.seen.exact h.edge).0 h.marked)

  seen_back : (span : Span) → IsSeen b span → IsMarkedIn t.seen span
  seen_back span (waiting w) = record {
    edge = w.edge;
    within = w.within;
    marked = (are.seen.exact w.edge).1 (inl (waits_at span w));
  }
  seen_back span (storing cell static s) = record {
    edge = s.edge;
    within = s.within;
    marked = (are.seen.exact s.edge).1 (inr (inl (record { cell = cell; static = static; stores = s.stores })));
  }
  seen_back span (loading cell static others l) = record {
    edge = l.edge;
    within = l.within;
    marked = (are.seen.exact l.edge).1
        (inr (inr (record { cell = cell; static = static; others = others; loads = l.loads })));
  }

  pub acts_are : (span : Span) → IsMarkedIn t.acting span ↔ Acts b span
  acts_are span = (
    λ h. record { edge = h.edge; within = h.within; placed = (are.acting.exact h.edge).0 h.marked },
    λ h. record { edge = h.edge; within = h.within; marked = (are.acting.exact h.edge).1 h.placed },
  )

  -- ### What matters

  pub matters_by : (one other : Span) → DoOverlap t one other ⊎ AreSeen t one other → Matters b one other
  matters_by one other (inl o) = touching (overlap_in one other o)
  matters_by one other (inr (inl (w, s))) = one_waits (inl (waits_in one w, seen_in other s))
  matters_by one other (inr (inr (w, s))) = one_waits (inr (waits_in other w, seen_in one s))

  pub matters_back : (one other : Span) → (DoOverlap t one other → ⊥) → (AreSeen t one other → ⊥)
      → Matters b one other → ReadsMore b one other
  matters_back one other apart none (touching (inl o)) = absurd (apart (touches_back one other o))
  matters_back one other apart none (touching (inr o)) =
      absurd (apart (overlap_back t other one (touches_back other one o)))
  matters_back one other apart none (one_waits (inl (w, s))) = absurd (none (inl (waits_back one w, seen_back other s)))
  matters_back one other apart none (one_waits (inr (w, s))) = absurd (none (inr (waits_back other w, seen_back one s)))
  matters_back one other apart none (reading r) = r

  -- ### Places

  pub order_is : (place : Place)
      → ((IsOfOperands b (let o = b.origins in o.operands.items) place
      ⊎ IsOfReloads t (let o = b.origins in o.reloads.items) place)
      ⊎ IsOfOverwrites t (let o = b.origins in o.overwrites.items) place) ↔ IsOfOrder b place
  order_is place = (there, back)
    where
      there : (IsOfOperands b (let o = b.origins in o.operands.items) place
          ⊎ IsOfReloads t (let o = b.origins in o.reloads.items) place)
          ⊎ IsOfOverwrites t (let o = b.origins in o.overwrites.items) place → IsOfOrder b place
      there (inl (inl h)) = operands h.one h.has h.is.0 h.is.1
      there (inl (inr h)) =
          let r = h.is.1 in
          reloaded r.cell h.one h.has h.is.0 ((are.loads.exact h.one.load r.cell).0 r.loads)
          (stores_in h.one.right r.cell r.stores)
      there (inr h) =
          let o = h.is.1 in
          overwritten o.cell h.one h.has h.is.0 ((are.stores.exact h.one.store o.cell).0 o.stores)
          ((are.stores.exact h.one.earlier o.cell).0 o.before)

      back : IsOfOrder b place → (IsOfOperands b (let o = b.origins in o.operands.items) place
          ⊎ IsOfReloads t (let o = b.origins in o.reloads.items) place)
          ⊎ IsOfOverwrites t (let o = b.origins in o.overwrites.items) place
      back (operands u has e m) = inl (inl (record { one = u; has = has; is = (e, m) }))
      back (reloaded cell r has e l s) = inl (inr (record {
        one = r;
        has = has;
        is = (
          e,
          record {
            cell = cell;
            loads = (are.loads.exact r.load cell).1 l;
            stores = stores_back r.right cell s;
          },
        );
      }))
      back (overwritten cell o has e s s') = inr (record {
        one = o;
        has = has;
        is = (
          e,
          record {
            cell = cell;
            stores = (are.stores.exact o.store cell).1 s;
            before = (are.stores.exact o.earlier cell).1 s';
          },
        );
      })
