-- States below a closed table that keep a further property are closed under the equations, so the least solution has it.
use Rattle.std.proofs.Common.{◌≡◌, ℕ, ◌<◌, Option, Some, None, IfSome, subst}
use Rattle.table_covers.specs.tm_lattice.declared.lattices.Lattice as lattice
use Rattle.table_covers.specs.tm_lattice.LatticeLaws.{IsOrder, IsJoin}
use Rattle.table_covers.specs.tm_lattice.Tables.{IsBelow}
use Rattle.table_covers.specs.Systems.{System, IsLawfulSystem, from_of, to_of}
use Rattle.table_covers.specs.Solutions.{NodeTable, brought, edge_count, IsClosedTable, IsLeastSolution}
use Rattle.table_covers.specs.laws.Closing as closing
use Rattle.table_covers.specs.laws.Iterates as iterates
use Rattle.sparse_tables.specs.Sparse.{Parts, Placing, AreParts, IsPlaced, IsFramed, IsSparseLeast}
use Rattle.sparse_tables.specs.laws.Closed as closed
use Rattle.sparse_tables.specs.laws.Least as least

module _ {V M : Type 0} (states : lattice.Ghosts V M) (suits : ℕ → V → Type 0) (sys : System V)
    (kept : ℕ → V → Type 0) (table : NodeTable V) where
  -- the state fits, keeps the property, and lies below the table
  pub record IsKeptUnder (n : ℕ) (s : V) : Type 0 where
    pub node : n < sys.node_count
    pub fits : suits n s
    pub is : kept n s
    pub under : IsBelow states.leq (Some s) (table n)

  -- the property is kept by what makes up the least solution, as far as states lie below the table
  pub record IsKept : Type 0 where
    pub entry : IfSome sys.entry (kept 0)
    pub after : (e : ℕ) (s : V) → e < edge_count states suits sys → suits (from_of sys.links e) s
        → kept (from_of sys.links e) s → IsBelow states.leq (Some s) (table (from_of sys.links e))
        → IfSome (sys.after e s) (kept (to_of sys.links e))
    pub joined : (n : ℕ) (s t : V) → suits n s → suits n t → kept n s → kept n t → kept n (states.joined s t)
    pub outward : (n : ℕ) (s : V) → suits n s → kept n s → kept n (sys.outward n s)

  module _ (order : IsOrder states.is_value states.leq)
      (join : IsJoin states.is_value states.leq states.joined)
      (law : IsLawfulSystem states.is_value states.leq states.joined suits sys)
      (keeps : IsKept) (solved : IsClosedTable states suits sys table) where
    both : (n : ℕ) → n < sys.node_count → (a : Option V) → IfSome a (suits n) → IfSome a (kept n) → IsBelow states.leq a (table n)
        → IfSome a (IsKeptUnder n)
    both n lt None fits is under = tt
    both n lt (Some s) fits is under = record { node = lt; fits = fits; is = is; under = under }

    after_kept : (e : ℕ) (s : V) → e < edge_count states suits sys → IsKeptUnder (from_of sys.links e) s
        → IfSome (sys.after e s) (IsKeptUnder (to_of sys.links e))
    after_kept e s lt h =
        let from = from_of sys.links e in
        let to = to_of sys.links e in
        both to (law.to_node e lt) (sys.after e s) (law.after_fits e s lt h.fits) (keeps.after e s lt h.fits h.is h.under)
        (closing.transitive states suits sys order join law to (sys.after e s) (brought (sys.after e) (table from))
        (table to) (law.after_fits e s lt h.fits)
        (closing.brought_fits states suits sys order join law e (table from) lt
        (solved.started.fits from (law.from_node e lt)))
        (solved.started.fits to (law.to_node e lt))
        (closing.brought_rises states suits sys order join law e (Some s) (table from) lt h.fits
        (solved.started.fits from (law.from_node e lt)) h.under) (solved.edges e lt))

    joined_under : (n : ℕ) (s t : V) → suits n s → suits n t → (y : Option V) → IfSome y (suits n)
        → IsBelow states.leq (Some s) y → IsBelow states.leq (Some t) y
        → IsBelow states.leq (Some (states.joined s t)) y
    joined_under n s t s-fits t-fits None y-fits le le' = absurd le
    joined_under n s t s-fits t-fits (Some u) y-fits le le' =
        join.least s t u (law.value n s s-fits) (law.value n t t-fits) (law.value n u y-fits) le le'

    outward_under : (n : ℕ) (s : V) → suits n s → (y : Option V) → IfSome y (suits n)
        → IfSome y (λ v. sys.outward n v ≡ v)
        → IsBelow states.leq (Some s) y → IsBelow states.leq (Some (sys.outward n s)) y
    outward_under n s s-fits None y-fits round le = absurd le
    outward_under n s s-fits (Some u) y-fits round le =
        subst (λ v. states.leq (sys.outward n s) v) round (law.rising n s u s-fits y-fits le)

    pub lawful_under : IsLawfulSystem states.is_value states.leq states.joined IsKeptUnder sys
    lawful_under = record {
      some_node = law.some_node;
      from_node = law.from_node;
      to_node = law.to_node;
      value = λ n v h. law.value n v h.fits;
      entry_fits = both 0 law.some_node sys.entry law.entry_fits keeps.entry (solved.started.entry 0 law.some_node);
      after_fits = after_kept;
      joined_fits = λ n v w h k. record {
        node = h.node;
        fits = law.joined_fits n v w h.fits k.fits;
        is = keeps.joined n v w h.fits k.fits h.is k.is;
        under = joined_under n v w h.fits k.fits (table n) (solved.started.fits n h.node) h.under k.under;
      };
      outward_fits = λ n v h. record {
        node = h.node;
        fits = law.outward_fits n v h.fits;
        is = keeps.outward n v h.fits h.is;
        under = outward_under n v h.fits (table n) (solved.started.fits n h.node)
            (solved.started.round n h.node) h.under;
      };
      monotone = λ e v w lt h k le. law.monotone e v w lt h.fits k.fits le;
      extensive = λ n v h. law.extensive n v h.fits;
      rising = λ n v w h k le. law.rising n v w h.fits k.fits le;
      idempotent = λ n v h. law.idempotent n v h.fits;
      plain = λ n v e h. law.plain n v e h.fits;
      first_plain = law.first_plain;
      within = λ n v h. law.within n v h.fits;
      climbs = law.climbs;
      strictly = law.strictly;
    }

-- The law where edges are framed in states that keep a property.
module _ {V F C M : Type 0} (states : lattice.Ghosts V M) (suits : ℕ → V → Type 0) (sys : System V)
    (parts : Parts V F C) (place : Placing) (kept : ℕ → V → Type 0) (table : NodeTable V)
    (order : IsOrder states.is_value states.leq) (join : IsJoin states.is_value states.leq states.joined)
    (law : IsLawfulSystem states.is_value states.leq states.joined suits sys)
    (made : AreParts states suits sys parts place) (placed : IsPlaced states suits sys parts place) where
  abbrev pub IsFramedKept : Type 0
  IsFramedKept = (e : ℕ) → e < edge_count states suits sys → (s : V)
      → IsKeptUnder states suits sys kept table (from_of sys.links e) s → IsFramed states suits sys parts place e s

  pub sparse_is_least_kept : IsSparseLeast states suits sys parts place table
      → IsKept states suits sys kept table → IsFramedKept → IsLeastSolution states suits sys table
  sparse_is_least_kept sparse keeps framed =
      let solved = closed.sparse_is_closed states suits sys parts place order law made placed table sparse.closed in
      let under = lawful_under states suits sys kept table order join law keeps solved in
      let low = iterates.least_is_least states (IsKeptUnder states suits sys kept table) sys order join under in
      least.sparse_is_least_where states suits sys parts place order join law made placed table sparse
      (λ e lt s at. framed e lt s
      (subst (λ a. IfSome a (IsKeptUnder states suits sys kept table (from_of sys.links e))) at
      (low.solves.fits (from_of sys.links e) (law.from_node e lt))))
