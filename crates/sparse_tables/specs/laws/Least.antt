-- The least sparse table is the least solution.
use Rattle.std.proofs.Common.{◌≡◌, ℕ, ◌<◌, true, Option, Some, None, IfSome, sym, subst}
use Rattle.std.proofs.Common.{refl}
use Rattle.table_covers.specs.tm_lattice.declared.lattices.Lattice as lattice
use Rattle.table_covers.specs.tm_lattice.LatticeLaws.{IsOrder, IsJoin}
use Rattle.table_covers.specs.tm_lattice.Tables.{IsBelow}
use Rattle.table_covers.specs.Systems.{System, IsLawfulSystem, from_of, to_of}
use Rattle.table_covers.specs.Solutions.{NodeTable, brought, edge_count, along, IsClosedTable, IsLeastSolution, AreFitting}
use Rattle.table_covers.specs.Solutions.{IsNodewiseBelow, least_of}
use Rattle.table_covers.specs.laws.Closing as closing
use Rattle.table_covers.specs.laws.Iterates as iterates
use Rattle.sparse_tables.specs.Sparse.{Parts, Placing, AreParts, IsPlaced, IsFramedIn, IsFramedBelow, IsFlowing}
use Rattle.sparse_tables.specs.Sparse.{CellBelow, SameCell, IsThin, IsSparseLeast, IsOwnBelow}
use Rattle.sparse_tables.specs.Sparse.{AreOwnBelow, IsFramed}
use Rattle.sparse_tables.specs.laws.Closed as closed
use Rattle.sparse_tables.specs.laws.Flowing as flowing

module _ {V F C M : Type 0} (states : lattice.Ghosts V M) (suits : ℕ → V → Type 0) (sys : System V)
    (parts : Parts V F C) (place : Placing)
    (order : IsOrder states.is_value states.leq) (join : IsJoin states.is_value states.leq states.joined)
    (law : IsLawfulSystem states.is_value states.leq states.joined suits sys)
    (made : AreParts states suits sys parts place) (placed : IsPlaced states suits sys parts place) where
  abbrev Below : Option V → Option V → Type 0
  Below x y = IsBelow states.leq x y

  abbrev from : ℕ → ℕ
  from e = from_of sys.links e

  abbrev to : ℕ → ℕ
  to e = to_of sys.links e

  abbrev edges : ℕ
  edges = edge_count states suits sys

  abbrev Flows : ℕ → Option V → Option V → Type 0
  Flows x r s = CellBelow states suits sys parts place x r s

  abbrev Same : ℕ → Option V → Option V → Type 0
  Same x s t = SameCell states suits sys parts place x s t

  abbrev OwnBelow : ℕ → Option V → Option V → Type 0
  OwnBelow n s t = IsOwnBelow states suits sys parts place n s t

  -- ## What nodes own decides

  -- a thin table lies below a flowing one where it does in what nodes own
  module _ (table other : NodeTable V) (fits : AreFitting states suits sys table)
      (other-fits : AreFitting states suits sys other) (thin : IsThin states suits sys parts place table)
      (flows : IsFlowing states suits sys parts place other)
      (own : AreOwnBelow states suits sys parts place table other) where
    cell_below : (n k x : ℕ) → n < sys.node_count → k < sys.node_count → place.owns k x ≡ true → (d s : V)
        → suits n d → suits n s
        → (r q : Option V) → IfSome r (suits k) → IfSome q (suits k)
        → Same x (Some d) r → OwnBelow k r q → Flows x q (Some s)
        → parts.cell_leq (parts.cell d x) (parts.cell s x)
    cell_below n k x lt k-lt owns d s d-fits s-fits None q r-fits q-fits same under flow = absurd same
    cell_below n k x lt k-lt owns d s d-fits s-fits (Some r) None r-fits q-fits same under flow = absurd under
    cell_below n k x lt k-lt owns d s d-fits s-fits (Some r) (Some q) r-fits q-fits same under flow =
        subst (λ c. parts.cell_leq c (parts.cell s x)) (sym same)
        (made.cell_transitive k k n r q s r-fits q-fits s-fits x (under.cells x owns) flow)

    state_below : (n : ℕ) → n < sys.node_count → (a b : Option V) → table n ≡ a → other n ≡ b
        → IfSome a (suits n) → IfSome b (suits n) → OwnBelow n a b → Below a b
    state_below n lt None b at other-at a-fits b-fits under = tt
    state_below n lt (Some d) None at other-at a-fits b-fits under = absurd under
    state_below n lt (Some d) (Some s) at other-at a-fits b-fits under =
        made.below n d s a-fits b-fits under.front
        (λ x. let k = place.kept_at n x in let k-lt = placed.within n x lt in
        cell_below n k x lt k-lt (placed.kept n x lt) d s a-fits b-fits (table k) (other k) (fits k k-lt)
        (other-fits k k-lt)
        (subst (λ v. Same x v (table k)) at (thin n x lt)) (own k k-lt)
        (subst (λ v. Flows x (other k) v) other-at (flows n x lt)))

    pub own_suffices : IsNodewiseBelow states suits sys table other
    own_suffices n lt = state_below n lt (table n) (other n) refl refl (fits n lt) (other-fits n lt) (own n lt)

    -- so what an edge brings to a thin table lies below each closed flowing table above it
    pub brought_below : IsClosedTable states suits sys other → (e : ℕ) → e < edges
        → Below (along states suits sys e table) (other (to e))
    brought_below solved e lt =
        let a = table (from e) in
        let b = other (from e) in
        let at = law.from_node e lt in
        closing.transitive states suits sys order join law (to e) (brought (sys.after e) a) (brought (sys.after e) b)
        (other (to e))
        (closing.brought_fits states suits sys order join law e a lt (fits (from e) at))
        (closing.brought_fits states suits sys order join law e b lt (other-fits (from e) at))
        (other-fits (to e) (law.to_node e lt))
        (closing.brought_rises states suits sys order join law e a b lt (fits (from e) at) (other-fits (from e) at)
        (own_suffices (from e) at)) (solved.edges e lt)

  -- ## The law

  framed_under : (table least : NodeTable V) → AreFitting states suits sys table → AreFitting states suits sys least
      → IsFramedBelow states suits sys parts place table
      → IsNodewiseBelow states suits sys least table → IsFramedIn states suits sys parts place least
  framed_under table least fits least-fits framed below e lt s at =
      by (table (from e)) refl (fits (from e) n-lt)
      (subst (λ a. Below a (table (from e))) at (below (from e) n-lt))
    where
      n-lt : from e < sys.node_count
      n-lt = law.from_node e lt

      s-fits : suits (from e) s
      s-fits = subst (λ a. IfSome a (suits (from e))) at (least-fits (from e) n-lt)

      by : (y : Option V) → table (from e) ≡ y → IfSome y (suits (from e)) → Below (Some s) y
          → IsFramed states suits sys parts place e s
      by None is y-fits le = absurd le
      by (Some d) is y-fits le = framed e lt s d is s-fits y-fits le

  -- The least solution flows where its edges are framed, so the sparse table lies below it; and it is closed, so it
  -- lies above.
  pub sparse_is_least_where : (table : NodeTable V) → IsSparseLeast states suits sys parts place table
      → IsFramedIn states suits sys parts place (least_of states suits sys) → IsLeastSolution states suits sys table
  sparse_is_least_where table sparse framed =
      let solved = closed.sparse_is_closed states suits sys parts place order law made placed table sparse.closed in
      let low = least_of states suits sys in
      let least = iterates.least_is_least states suits sys order join law in
      let flows = flowing.least_flows states suits sys parts place order join law made placed low least framed in
      let low-closed = closing.least_is_closed states suits sys order join law low least in
      let below = own_suffices table low sparse.closed.fits least.solves.fits sparse.closed.thin flows
      (sparse.below low low-closed flows) in
      record {
        solves = closing.closed_solves states suits sys order join law table solved;
        below = λ other other-solves n lt.
            closing.transitive states suits sys order join law n (table n) (low n) (other n)
            (sparse.closed.fits n lt) (least.solves.fits n lt) (other-solves.fits n lt) (below n lt)
            (least.below other other-solves n lt);
      }

  pub sparse_is_least : (table : NodeTable V) → IsSparseLeast states suits sys parts place table
      → IsFramedBelow states suits sys parts place table → IsLeastSolution states suits sys table
  sparse_is_least table sparse framed =
      let solved = closed.sparse_is_closed states suits sys parts place order law made placed table sparse.closed in
      let solution = closing.closed_solves states suits sys order join law table solved in
      let low = least_of states suits sys in
      let least = iterates.least_is_least states suits sys order join law in
      sparse_is_least_where table sparse
      (framed_under table low sparse.closed.fits least.solves.fits framed (least.below table solution))

  -- a least solution is thin where a sparse table is least
  pub least_is_thin : (table least : NodeTable V) → IsSparseLeast states suits sys parts place table
      → IsFramedBelow states suits sys parts place table → IsLeastSolution states suits sys least
      → (n : ℕ) → n < sys.node_count → table n ≡ least n
  least_is_thin table least sparse framed solves n lt =
      iterates.least_is_one states suits sys order join law table least (sparse_is_least table sparse framed) solves
      n lt
