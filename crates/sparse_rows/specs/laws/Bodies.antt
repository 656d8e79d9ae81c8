-- The law for the equations of a body: a sparse table whose edges were checked is the least solution.
use Rattle.std.specs.Prelude.{◌≡◌, ℕ, ℤ, ◌<◌, Bool, true, false, cond, List, Option, Some, None, IfSome, refl}
use Rattle.std.proofs.Common.{sym, subst}
use Rattle.std.proofs.lemmas.Bool.{cond_both}
use Rattle.std.specs.FinMap.{get}
use Rattle.std.specs.Option.{option_map}
use Rattle.sparse_tables.specs.table_covers.tm_lattice.LatticeLaws.{IsOrder, IsJoin}
use Rattle.sparse_tables.specs.table_covers.tm_lattice.Tables.{Table, IsBelow}
use Rattle.sparse_tables.specs.table_covers.Systems.{System, IsLawfulSystem, from_of}
use Rattle.sparse_tables.specs.table_covers.Solutions.{NodeTable, edge_count, IsLeastSolution}
use Rattle.transfer_rows.specs.cell_env.States.{rounded_state_at}
use Rattle.transfer_rows.specs.interfere_set.pointer_dom.Values.{rounded_values}
use Rattle.transfer_rows.specs.interfere_set.Stores.{Interferences}
use Rattle.transfer_rows.specs.StateForms.{Cell, Temp, State, IsStateForm, IsStateUnder}
use Rattle.transfer_rows.specs.Actions.{Around, Action}
use Rattle.transfer_rows.specs.Rows.{after}
use Rattle.sparse_tables.specs.Sparse.{Placing, AreParts, IsPlaced, IsFramed, IsFramedIn, IsSparseLeast}
use Rattle.sparse_tables.specs.Sparse.{Parts, CarriesCell, carried}
use Rattle.sparse_tables.specs.laws.Bounded as bounded
use Rattle.sparse_tables.specs.laws.Bounded.{IsKept, IsKeptUnder}
use Rattle.sparse_rows.specs.Carried.{carry_of}
use Rattle.sparse_rows.specs.Checks.{AreChecked}
use Rattle.sparse_rows.specs.StateParts.{states, state_parts}
use Rattle.sparse_rows.specs.Touched.{IfSame}
use Rattle.sparse_rows.specs.Traces.{IsTraced}
use Rattle.sparse_rows.specs.laws.Parts.{are_parts}
use Rattle.sparse_rows.specs.laws.Frames.{rows_frame, rows_carry}
use Rattle.sparse_rows.specs.laws.Traced.{after_traced, joined_traced, rounded_traced}
use Rattle.sparse_rows.specs.laws.Checked.{checked_leaves, checked_passes, checked_makes}

-- the state rounded at these cells, if the node is a head
abbrev pub rounded_to : List ℤ → Option (List ℕ) → State → State
rounded_to marks None s = s
rounded_to marks (Some keys) s = rounded_state_at (rounded_values marks) keys s

-- The equations are those of rows over a store: an edge that leads somewhere brings what its row says.
pub record AreRows (suits : ℕ → State → Type 0) (sys : System State) (around : ℕ → Around) (action : ℕ → Action)
    (leads : ℕ → Bool) (store : Interferences) (marks : List ℤ) (keys : ℕ → Option (List ℕ)) : Type 0 where
  pub after_is : (e : ℕ) (s : State) → e < edge_count states suits sys
      → sys.after e s ≡ cond (leads e) (after (around e) (action e) s store) None
  pub outward_is : (n : ℕ) (s : State) → sys.outward n s ≡ rounded_to marks (keys n) s
  pub form : (n : ℕ) (s : State) → suits n s → IsStateForm s

module _ (suits : ℕ → State → Type 0) (sys : System State) (around : ℕ → Around) (action : ℕ → Action)
    (leads : ℕ → Bool) (store : Interferences) (marks : List ℤ) (keys : ℕ → Option (List ℕ))
    (rows : AreRows suits sys around action leads store marks keys) (place : Placing) (copies : ℕ → ℕ → Bool)
    (fresh : ℕ → Bool) (pending : ℕ → ℕ) (order : IsOrder states.is_value states.leq)
    (join : IsJoin states.is_value states.leq states.joined)
    (law : IsLawfulSystem states.is_value states.leq states.joined suits sys)
    (placed : IsPlaced states suits sys (state_parts (carry_of around action store)) place) where
  abbrev parts : Parts State (Table Temp) (Option Cell)
  parts = state_parts (carry_of around action store)

  abbrev from : ℕ → ℕ
  from e = from_of sys.links e

  abbrev Traced : State → Type 0
  Traced s = IsTraced copies fresh pending s

  pub same_temps : (marks : List ℤ) (cells : Option (List ℕ)) (s : State)
      → (let t = rounded_to marks cells s in t.temps ≡ s.temps)
  same_temps marks None s = refl
  same_temps marks (Some cells) s = refl

  rounded_is : (cells : Option (List ℕ)) (s : State) → Traced s → Traced (rounded_to marks cells s)
  rounded_is None s h = h
  rounded_is (Some cells) s h = rounded_traced copies fresh pending marks cells s h

  led_carries : (b : Bool) (e x : ℕ) (s : State) (y : Option State)
      → IfSame (carried states suits sys parts place e x (get s.cells x)) x y
      → CarriesCell states suits sys parts place e x s (cond b y None)
  led_carries false e x s y h = tt
  led_carries true e x s None h = tt
  led_carries true e x s (Some t) h = h

  led_traced : (b : Bool) (y : Option State) → IfSome y Traced → IfSome (cond b y None) Traced
  led_traced true y h = h
  led_traced false y h = tt

  module _ (table : NodeTable State) (checked : AreChecked suits sys around action store place copies fresh pending table) where
    -- a traced state below the table's is framed
    framed_at : (e : ℕ) → e < edge_count states suits sys → (s : State) → Traced s → suits (from e) s
        → (y : Option State) → table (from e) ≡ y → IfSome y (suits (from e)) → IsBelow IsStateUnder (Some s) y
        → IsFramed states suits sys parts place e s
    framed_at e lt s traced s-fits None is d-fits le = absurd le
    framed_at e lt s traced s-fits (Some d) is d-fits le = λ x other.
        subst (CarriesCell states suits sys parts place e x s) (sym (rows.after_is e s lt))
        (led_carries (leads e) e x s (after (around e) (action e) s store)
        (cond_both (place.carries e x) (option_map (carry_of around action store e x) (get s.cells x)) (get s.cells x)
        (λ a. IfSame a x (after (around e) (action e) s store))
        (λ carries. rows_carry x (around e) (action e) s store
        (checked_passes (around e) (place.touches e) (place.carries e) (place.looks e) copies fresh pending s d
        (rows.form (from e) s s-fits) (rows.form (from e) d d-fits) le traced.copied (action e) store
        (checked e lt d is) x other))
        (λ still. rows_frame x (around e) (action e) s store
        (checked_leaves (around e) (place.touches e) (place.carries e) (place.looks e) copies fresh pending s d
        (rows.form (from e) s s-fits) (rows.form (from e) d d-fits) le traced (action e) store (checked e lt d is) x
        other still))))

    makes_at : (e : ℕ) → e < edge_count states suits sys → (s : State) → Traced s → suits (from e) s
        → (y : Option State) → table (from e) ≡ y → IfSome y (suits (from e)) → IsBelow IsStateUnder (Some s) y
        → IfSome (sys.after e s) Traced
    makes_at e lt s traced s-fits None is d-fits le = absurd le
    makes_at e lt s traced s-fits (Some d) is d-fits le =
        subst (λ a. IfSome a Traced) (sym (rows.after_is e s lt))
        (led_traced (leads e) (after (around e) (action e) s store)
        (after_traced copies fresh pending (around e) (action e) s store traced
        (checked_makes (around e) (place.touches e) (place.carries e) (place.looks e) copies fresh pending s d
        (rows.form (from e) s s-fits) (rows.form (from e) d d-fits) le (action e) store (checked e lt d is))))

    -- where the table's own states are traced, its edges are framed in them
    pub own_framed : ((n : ℕ) → n < sys.node_count → IfSome (table n) Traced)
        → ((n : ℕ) → n < sys.node_count → IfSome (table n) (suits n))
        → IsFramedIn states suits sys parts place table
    own_framed traced fits e lt s at =
        let n-lt = law.from_node e lt in
        let s-fits : suits (from e) s = subst (λ a. IfSome a (suits (from e))) at (fits (from e) n-lt) in
        framed_at e lt s (subst (λ a. IfSome a Traced) at (traced (from e) n-lt)) s-fits (table (from e)) refl
        (fits (from e) n-lt)
        (subst (λ a. IsBelow IsStateUnder (Some s) a) (sym at) (order.reflexive s (law.value (from e) s s-fits)))

    abbrev Fitting : Type 0
    Fitting = (n : ℕ) → n < sys.node_count → IfSome (table n) (suits n)

    abbrev pub made : AreParts states suits sys parts place
    made = are_parts suits sys (carry_of around action store) place rows.form
        (λ n s fits. subst (λ (t : State). t.temps ≡ s.temps) (sym (rows.outward_is n s)) (same_temps marks (keys n) s))

    -- what makes up the least solution is traced
    pub traces_kept : IfSome sys.entry Traced → Fitting → IsKept states suits sys (λ n s. Traced s) table
    traces_kept entry fits = record {
      entry = entry;
      after = λ e s lt s-fits traced le. makes_at e lt s traced s-fits (table (from e)) refl
          (fits (from e) (law.from_node e lt)) le;
      joined = λ n s t s-fits t-fits h k. joined_traced copies fresh pending s t h k;
      outward = λ n s s-fits h. subst Traced (sym (rows.outward_is n s)) (rounded_is (keys n) s h);
    }

    -- and edges are framed in traced states below
    pub traced_framed : Fitting
        → bounded.IsFramedKept states suits sys parts place (λ n s. Traced s) table order join law made placed
    traced_framed fits e lt s h =
        framed_at e lt s h.is h.fits (table (from e)) refl (fits (from e) (law.from_node e lt)) h.under

    -- A table that is the least sparse one, and of which each edge was checked, is the least solution.
    pub checked_is_least : IfSome sys.entry Traced
        → IsSparseLeast states suits sys parts place table → IsLeastSolution states suits sys table
    checked_is_least entry sparse =
        bounded.sparse_is_least_kept states suits sys parts place (λ n s. Traced s) table order join law made
        placed sparse (traces_kept entry sparse.closed.fits) (traced_framed sparse.closed.fits)
