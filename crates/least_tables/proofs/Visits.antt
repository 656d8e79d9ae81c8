-- Edges that are applied, and how many.
use Rattle.std.proofs.Common.{◌≡◌, ◌≢◌, ℕ, zero, suc, ◌+◌, ◌-◌, ◌^◌, ◌<◌, ◌==◌, min, cond, List, length, get_or, set}
use Rattle.std.proofs.Common.{Option, Some, None, IfSome, Bool, true, false, refl, sym, ap, subst, ◌∙◌, arith, eq-eqb}
use Rattle.std.proofs.Common.{eqb-true}
use Rattle.std.proofs.lemmas.Bool.{false≢true}
use Rattle.std.proofs.lemmas.List.{get_or-set_same, get_or-set_other}
use Rattle.std.specs.Option.{option_map}
use Rattle.tm_lattice.specs.declared.lattices.Lattice as lattice
use Rattle.tm_lattice.specs.LatticeLaws.{IsOrder, IsJoin}
use Rattle.tm_lattice.specs.Tables.{IsBelow, joined_value, joined_at}
use Rattle.table_covers.specs.declared.links.Link.{Link}
use Rattle.table_covers.specs.Systems.{System, IsLawfulSystem, from_of, to_of}
use Rattle.table_covers.specs.Solutions.{NodeTable, at, edge_count, along, IsStarted, IsEdgeMet}
use Rattle.table_covers.specs.laws.Closing as closing
use Rattle.least_tables.specs.Settling.{applied, IsVisit, IsReachedBy, IsVisited}

module _ {V M : Type 0} (states : lattice.Ghosts V M) (suits : ℕ → V → Type 0) (sys : System V) where
  -- no edge was applied
  pub none_visited : (table : NodeTable V) → IsVisited states suits sys 0 table table
  none_visited table = record { count = 0; told = omega arith; reached = λ n lt. refl }

  -- one edge more was
  pub one_more : (visits visits' : ℕ) (before earlier table : NodeTable V) → visits' ≡ min (visits + 1) (2 ^ 64 - 1)
      → IsVisit states suits sys earlier table → IsVisited states suits sys visits before earlier
      → IsVisited states suits sys visits' before table
  one_more visits visits' before earlier table more visit so_far = record {
    count = suc so_far.count;
    told = (let told = so_far.told in omega arith);
    reached = (earlier, (so_far.reached, visit));
  }

  -- from a table that is equal at each node
  reached_from : (k : ℕ) (before before' table : NodeTable V)
      → ((n : ℕ) → n < sys.node_count → before n ≡ before' n) → IsReachedBy states suits sys k before table
      → IsReachedBy states suits sys k before' table
  reached_from zero before before' table same reached = λ n lt. reached n lt ∙ same n lt
  reached_from (suc k) before before' table same reached =
      (reached.0, (reached_from k before before' reached.0 same reached.1.0, reached.1.1))

  pub visited_from : (visits : ℕ) (before before' table : NodeTable V)
      → ((n : ℕ) → n < sys.node_count → before n ≡ before' n) → IsVisited states suits sys visits before table
      → IsVisited states suits sys visits before' table
  visited_from visits before before' table same visited = record {
    count = visited.count;
    told = visited.told;
    reached = reached_from visited.count before before' table same visited.reached;
  }

module _ {V M : Type 0} (states : lattice.Ghosts V M) (suits : ℕ → V → Type 0) (sys : System V)
    (order : IsOrder states.is_value states.leq) (join : IsJoin states.is_value states.leq states.joined)
    (law : IsLawfulSystem states.is_value states.leq states.joined suits sys) where
  abbrev to : ℕ → ℕ
  to e = to_of (sys.links) e

  abbrev from : ℕ → ℕ
  from e = from_of (sys.links) e

  abbrev both_at : ℕ → Option V → Option V → Option V
  both_at n x y = option_map (sys.outward n) (joined_at states.joined x y)

  -- what lies below a state that is its own rounding changes nothing there
  keeps : (n : ℕ) (x y : Option V) → IfSome x (suits n) → IfSome y (suits n) → IfSome x (λ v. sys.outward n v ≡ v)
      → IsBelow states.leq y x → both_at n x y ≡ x
  keeps n None None x-fits y-fits round le = refl
  keeps n None (Some w) x-fits y-fits round le = absurd le
  keeps n (Some v) None x-fits y-fits round le = ap Some round
  keeps n (Some v) (Some w) x-fits y-fits round le =
      let v-is = law.value n v x-fits in
      let w-is = law.value n w y-fits in
      let same : states.joined v w ≡ v = order.antisymmetric (states.joined v w) v (join.value v w v-is w-is) v-is
      (join.least v w v v-is w-is v-is (order.reflexive v v-is) le) (join.left v w v-is w-is) in
      ap Some (ap (sys.outward n) same ∙ round)

  raises : (n : ℕ) (x : Option V) (v : V)
      → both_at n x (Some v) ≡ Some (sys.outward n (joined_value states.joined x v))
  raises n None v = refl
  raises n (Some u) v = refl

  -- where the edge leads, and elsewhere
  at_each : (e : ℕ) (earlier table : NodeTable V)
      → table (to e) ≡ both_at (to e) (earlier (to e)) (along states suits sys e earlier)
      → ((n : ℕ) → n ≢ to e → table n ≡ earlier n) → (n : ℕ) → table n ≡ applied states suits sys e earlier n
  at_each e earlier table here there n =
      let split : (b : Bool) → (to e == n) ≡ b
      → table n ≡ cond b (both_at n (earlier n) (along states suits sys e earlier)) (earlier n) = λ b.
      elim b as (λ c. (to e == n) ≡ c
      → table n ≡ cond c (both_at n (earlier n) (along states suits sys e earlier)) (earlier n)) [
        | true ↦ λ is. subst (λ m. table m ≡ both_at m (earlier m) (along states suits sys e earlier))
            (eqb-true (to e) n is) here
        | false ↦ λ is. there n (λ same. false≢true (sym is ∙ eq-eqb (to e) n (sym same)))
      ] in
      split (to e == n) refl

  -- an edge that is met changes nothing
  pub met_visit : (table : NodeTable V) (e : ℕ) → e < edge_count states suits sys → IsStarted states suits sys table
      → IsEdgeMet states suits sys table e → IsVisit states suits sys table table
  met_visit table e lt started met =
      let n-lt = law.to_node e lt in
      let brings = closing.brought_fits states suits sys order join law e (table (from e)) lt
      (started.fits (from e) (law.from_node e lt)) in
      record {
        edge = e;
        within = lt;
        after = λ n _. at_each e table table (sym (keeps (to e) (table (to e)) (along states suits sys e table)
            (started.fits (to e) n-lt) brings (started.round (to e) n-lt) met)) (λ m differ. refl) n;
      }

  -- an edge that is not met raises the node where it leads
  pub raised_visit : (table : List (Option V)) (e : ℕ) (v : V) → length table ≡ sys.node_count
      → e < edge_count states suits sys → along states suits sys e (at table) ≡ Some v
      → IsVisit states suits sys (at table)
      (at (set table (to e) (Some (sys.outward (to e) (joined_value states.joined (get_or table (to e) None) v)))))
  raised_visit table e v nodes lt brings =
      let n-lt = law.to_node e lt in
      let new = Some (sys.outward (to e) (joined_value states.joined (get_or table (to e) None) v)) in
      let here : at (set table (to e) new) (to e)
      ≡ both_at (to e) (at table (to e)) (along states suits sys e (at table)) =
      get_or-set_same table (to e) new None (omega arith)
      ∙ sym (raises (to e) (at table (to e)) v)
      ∙ ap (both_at (to e) (at table (to e))) (sym brings) in
      record {
        edge = e;
        within = lt;
        after = λ n _. at_each e (at table) (at (set table (to e) new)) here
            (λ m differ. get_or-set_other table (to e) m new None differ) n;
      }

  -- as `raised_visit`, for the list of edges that the code has read
  pub raised_along : (links : List Link) (table table' : List (Option V)) (e : ℕ) (a : Option V) (v : V)
      → links ≡ sys.links → length table ≡ sys.node_count → e < edge_count states suits sys
      → along states suits sys e (at table) ≡ a → a ≡ Some v
      → table' ≡ set table (to_of links e)
      (Some (sys.outward (to_of links e) (joined_value states.joined (get_or table (to_of links e) None) v)))
      → IsVisit states suits sys (at table) (at table')
  raised_along links table table' e a v same nodes lt is some written =
      let written' = subst (λ ls. table' ≡ set table (to_of ls e)
      (Some (sys.outward (to_of ls e) (joined_value states.joined (get_or table (to_of ls e) None) v)))) same written in
      subst (λ t. IsVisit states suits sys (at table) (at t)) (sym written')
      (raised_visit table e v nodes lt (is ∙ some))
