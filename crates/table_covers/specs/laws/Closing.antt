-- Solutions and closed tables.
use Rattle.std.proofs.Common.{◌≡◌, ℕ, zero, suc, ◌<◌, ◌≤◌, ◌⊎◌, Option, Some, None, IfSome, sym, ap}
use Rattle.std.proofs.Common.{subst, inl, inr, refl, arith}
use Rattle.std.proofs.lemmas.Bool.{cases_lt}
use Rattle.std.specs.Option.{option_map}
use Rattle.tm_lattice.specs.declared.lattices.Lattice as lattice
use Rattle.tm_lattice.specs.LatticeLaws.{IsOrder, IsJoin}
use Rattle.tm_lattice.specs.Tables.{IsBelow}
use Rattle.table_covers.specs.Systems.{System, IsLawfulSystem, from_of, to_of}
use Rattle.table_covers.specs.Solutions.{NodeTable, brought, entry_at, edge_count, along, AreFitting, IsNodewiseBelow}
use Rattle.table_covers.specs.Solutions.{IsSolution, IsLeastSolution}
use Rattle.table_covers.specs.Solutions.{IsClosedTable}

module _ {V M : Type 0} (states : lattice.Ghosts V M) (suits : ℕ → V → Type 0) (sys : System V)
    (order : IsOrder states.is_value states.leq) (join : IsJoin states.is_value states.leq states.joined)
    (law : IsLawfulSystem states.is_value states.leq states.joined suits sys) where
  abbrev Below : Option V → Option V → Type 0
  Below x y = IsBelow states.leq x y

  abbrev Fits : ℕ → Option V → Type 0
  Fits n x = IfSome x (suits n)

  abbrev pub outward : ℕ → Option V → Option V
  outward n x = option_map (sys.outward n) x

  abbrev from : ℕ → ℕ
  from e = from_of (sys.links) e

  abbrev to : ℕ → ℕ
  to e = to_of (sys.links) e

  pub reflexive : (n : ℕ) (x : Option V) → Fits n x → Below x x
  reflexive n None x-fits = tt
  reflexive n (Some v) x-fits = order.reflexive v (law.value n v x-fits)

  pub transitive : (n : ℕ) (x y z : Option V) → Fits n x → Fits n y → Fits n z → Below x y → Below y z → Below x z
  transitive n None y z x-fits y-fits z-fits le le' = tt
  transitive n (Some u) None z x-fits y-fits z-fits le le' = absurd le
  transitive n (Some u) (Some v) None x-fits y-fits z-fits le le' = absurd le'
  transitive n (Some u) (Some v) (Some w) x-fits y-fits z-fits le le' = order.transitive u v w (law.value n u x-fits)
      (law.value n v y-fits) (law.value n w z-fits) le le'

  pub outward_fits : (n : ℕ) (x : Option V) → Fits n x → Fits n (outward n x)
  outward_fits n None x-fits = tt
  outward_fits n (Some v) x-fits = law.outward_fits n v x-fits

  pub extensive : (n : ℕ) (x : Option V) → Fits n x → Below x (outward n x)
  extensive n None x-fits = tt
  extensive n (Some v) x-fits = law.extensive n v x-fits

  pub rising : (n : ℕ) (x y : Option V) → Fits n x → Fits n y → Below x y → Below (outward n x) (outward n y)
  rising n None y x-fits y-fits le = tt
  rising n (Some v) None x-fits y-fits le = absurd le
  rising n (Some v) (Some w) x-fits y-fits le = law.rising n v w x-fits y-fits le

  pub round_outward : (n : ℕ) (x : Option V) → Fits n x → IfSome (outward n x) (λ v. sys.outward n v ≡ v)
  round_outward n None x-fits = tt
  round_outward n (Some v) x-fits = law.idempotent n v x-fits

  pub outward_round : (n : ℕ) (x : Option V) → IfSome x (λ v. sys.outward n v ≡ v) → outward n x ≡ x
  outward_round n None round = refl
  outward_round n (Some v) round = ap Some round

  pub brought_fits : (e : ℕ) (x : Option V) → e < edge_count states suits sys → Fits (from e) x
      → Fits (to e) (brought (sys.after e) x)
  brought_fits e None lt x-fits = tt
  brought_fits e (Some v) lt x-fits = law.after_fits e v lt x-fits

  pub brought_rises : (e : ℕ) (x y : Option V) → e < edge_count states suits sys → Fits (from e) x → Fits (from e) y
      → Below x y → Below (brought (sys.after e) x) (brought (sys.after e) y)
  brought_rises e None y lt x-fits y-fits le = tt
  brought_rises e (Some v) None lt x-fits y-fits le = absurd le
  brought_rises e (Some v) (Some w) lt x-fits y-fits le = law.monotone e v w lt x-fits y-fits le

  pub entry_fits : (n : ℕ) → Fits n (entry_at (sys.entry) n)
  entry_fits zero = law.entry_fits
  entry_fits (suc n) = tt

  -- the rounded bounds of a solution make a closed table below it
  module _ (table : NodeTable V) (solution : IsSolution states suits sys table) where
    pub picked : (n : ℕ) → (n < sys.node_count) ⊎ (sys.node_count ≤ n) → Option V
    picked n (inl lt) = outward n (solution.covers n lt).bound
    picked n (inr ge) = None

    abbrev pub inner : NodeTable V
    inner n = picked n (cases_lt n (sys.node_count))

    picked_fits : (n : ℕ) (x : (n < sys.node_count) ⊎ (sys.node_count ≤ n)) → n < sys.node_count → Fits n (picked n x)
    unfolding picked
    picked_fits n (inl lt') lt = outward_fits n (solution.covers n lt').bound (solution.covers n lt').is_bound.fits
    picked_fits n (inr ge) lt = absurd (omega arith)

    picked_round : (n : ℕ) (x : (n < sys.node_count) ⊎ (sys.node_count ≤ n)) → n < sys.node_count
        → IfSome (picked n x) (λ v. sys.outward n v ≡ v)
    unfolding picked
    picked_round n (inl lt') lt = round_outward n (solution.covers n lt').bound (solution.covers n lt').is_bound.fits
    picked_round n (inr ge) lt = absurd (omega arith)

    picked_below : (n : ℕ) (x : (n < sys.node_count) ⊎ (sys.node_count ≤ n)) → n < sys.node_count
        → Below (picked n x) (table n)
    unfolding picked
    picked_below n (inl lt') lt = (solution.covers n lt').rounding
    picked_below n (inr ge) lt = absurd (omega arith)

    -- what lies below the bound lies below the rounding
    picked_above : (n : ℕ) (x : (n < sys.node_count) ⊎ (sys.node_count ≤ n)) → n < sys.node_count → (y : Option V)
        → Fits n y
        → ((lt : n < sys.node_count) → Below y (solution.covers n lt).bound) → Below y (picked n x)
    unfolding picked
    picked_above n (inl lt') lt y y-fits le =
        let c = solution.covers n lt' in
        transitive n y c.bound (outward n c.bound) y-fits c.is_bound.fits (outward_fits n c.bound c.is_bound.fits)
        (le lt') (extensive n c.bound c.is_bound.fits)
    picked_above n (inr ge) lt y y-fits le = absurd (omega arith)

    pub inner_below : IsNodewiseBelow states suits sys inner table
    inner_below n lt = picked_below n _ lt

    inner_fits : AreFitting states suits sys inner
    inner_fits n lt = picked_fits n _ lt

    pub inner_closed : IsClosedTable states suits sys inner
    inner_closed = record {
      started = record {
        fits = inner_fits;
        round = λ n lt. picked_round n _ lt;
        entry = λ n lt. picked_above n _ lt _ (entry_fits n) (λ lt'. (solution.covers n lt').is_bound.entry);
      };
      edges = λ e lt.
          let at_from = law.from_node e lt in
          let at_to = law.to_node e lt in
          let x = inner (from e) in
          let y = table (from e) in
          let f = sys.after e in
          picked_above (to e) _ at_to (brought f x) (brought_fits e x lt (inner_fits (from e) at_from)) (λ lt'.
          let c = solution.covers (to e) lt' in
          transitive (to e) (brought f x) (brought f y) c.bound
          (brought_fits e x lt (inner_fits (from e) at_from))
          (brought_fits e y lt (solution.fits (from e) at_from)) c.is_bound.fits
          (brought_rises e x y lt (inner_fits (from e) at_from) (solution.fits (from e) at_from)
          (inner_below (from e) at_from))
          (c.is_bound.edges e lt refl));
    }

  -- a closed table is a solution
  pub closed_solves : (table : NodeTable V) → IsClosedTable states suits sys table → IsSolution states suits sys table
  closed_solves table closed = record {
    fits = closed.started.fits;
    covers = λ n lt. record {
      bound = table n;
      is_bound = record {
        fits = closed.started.fits n lt;
        entry = closed.started.entry n lt;
        edges = λ e within same. subst (λ m. Below (along states suits sys e table) (table m)) same
            (closed.edges e within);
      };
      rounding = subst (λ x. Below x (table n)) (sym (outward_round n (table n) (closed.started.round n lt)))
          (reflexive n (table n) (closed.started.fits n lt));
    };
  }

  pub closed_is_least : (table : NodeTable V) → IsClosedTable states suits sys table
      → ((other : NodeTable V) → IsClosedTable states suits sys other → IsNodewiseBelow states suits sys table other)
      → IsLeastSolution states suits sys table
  closed_is_least table closed below = record {
    solves = closed_solves table closed;
    below = λ other solution n lt.
        transitive n (table n) (inner other solution n) (other n) (closed.started.fits n lt)
        (inner_fits other solution n lt) (solution.fits n lt)
        (below (inner other solution) (inner_closed other solution) n lt) (inner_below other solution n lt);
  }

  antisymmetric : (n : ℕ) (x y : Option V) → Fits n x → Fits n y → Below x y → Below y x → x ≡ y
  antisymmetric n None None x-fits y-fits le le' = refl
  antisymmetric n None (Some v) x-fits y-fits le le' = absurd le'
  antisymmetric n (Some u) None x-fits y-fits le le' = absurd le
  antisymmetric n (Some u) (Some v) x-fits y-fits le le' = ap Some
      (order.antisymmetric u v (law.value n u x-fits) (law.value n v y-fits) le le')

  -- the least solution is closed
  pub least_is_closed : (table : NodeTable V) → IsLeastSolution states suits sys table
      → IsClosedTable states suits sys table
  least_is_closed table least =
      let low = inner table least.solves in
      let closed = inner_closed table least.solves in
      let same : (n : ℕ) → n < sys.node_count → low n ≡ table n = λ n lt.
      antisymmetric n (low n) (table n) (closed.started.fits n lt) (least.solves.fits n lt)
      (inner_below table least.solves n lt) (least.below low (closed_solves low closed) n lt) in
      record {
        started = record {
          fits = least.solves.fits;
          round = λ n lt. subst (λ x. IfSome x (λ v. sys.outward n v ≡ v)) (same n lt) (closed.started.round n lt);
          entry = λ n lt. subst (Below (entry_at sys.entry n)) (same n lt) (closed.started.entry n lt);
        };
        edges = λ e lt.
            subst (λ x. Below (brought (sys.after e) x) (table (to e))) (same (from e) (law.from_node e lt))
            (subst (Below (brought (sys.after e) (low (from e)))) (same (to e) (law.to_node e lt)) (closed.edges e lt));
      }
