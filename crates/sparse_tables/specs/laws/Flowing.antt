-- In the least solution each cell flows on from where it is kept.
use Rattle.std.proofs.Common.{◌≡◌, ℕ, ◌<◌, true, false, Option, Some, None, IfSome, sym, subst}
use Rattle.std.proofs.Common.{◌∙◌, refl}
use Rattle.table_covers.specs.tm_lattice.declared.lattices.Lattice as lattice
use Rattle.table_covers.specs.tm_lattice.LatticeLaws.{IsOrder, IsJoin}
use Rattle.table_covers.specs.tm_lattice.Tables.{IsBelow}
use Rattle.table_covers.specs.Systems.{System, IsLawfulSystem, from_of, to_of}
use Rattle.table_covers.specs.Solutions.{NodeTable, brought, edge_count, IsClosedTable, IsLeastSolution, AreFitting}
use Rattle.table_covers.specs.laws.Closing as closing
use Rattle.sparse_tables.specs.Sparse.{Parts, Placing, AreParts, IsPlaced, IsFramedIn, IsFlowing, CellBelow}
use Rattle.sparse_tables.specs.Sparse.{CarriesCell}
use Rattle.sparse_tables.specs.laws.Closed as closed
use Rattle.sparse_tables.specs.laws.Reached as reached

module _ {V F C M : Type 0} (states : lattice.Ghosts V M) (suits : ℕ → V → Type 0) (sys : System V)
    (parts : Parts V F C) (place : Placing)
    (order : IsOrder states.is_value states.leq) (join : IsJoin states.is_value states.leq states.joined)
    (law : IsLawfulSystem states.is_value states.leq states.joined suits sys)
    (made : AreParts states suits sys parts place) (placed : IsPlaced states suits sys parts place) where
  abbrev Below : Option V → Option V → Type 0
  Below x y = IsBelow states.leq x y

  abbrev from : ℕ → ℕ
  from e = from_of sys.links e

  abbrev to : ℕ → ℕ
  to e = to_of sys.links e

  abbrev edges : ℕ
  edges = edge_count states suits sys

  abbrev Flows : ℕ → Option V → Option V → Type 0
  Flows x r s = CellBelow states suits sys parts place x r s

  itself : (n x : ℕ) (s : Option V) → IfSome s (suits n) → Flows x s s
  itself n x None fits = tt
  itself n x (Some v) fits = closed.cell_reflexive states suits sys parts place order law made placed n v fits x

  module _ (table : NodeTable V) (fits : AreFitting states suits sys table)
      (framed : IsFramedIn states suits sys parts place table) where
    abbrev FlowsAt : ℕ → Type 0
    FlowsAt n = (x : ℕ) → Flows x (table (place.kept_at n x)) (table n)

    at_owner : (n x : ℕ) → n < sys.node_count → place.owns n x ≡ true → Flows x (table (place.kept_at n x)) (table n)
    at_owner n x lt own = subst (λ m. Flows x (table m) (table n)) (sym (placed.own n x own))
        (itself n x (table n) (fits n lt))

    -- an edge that does not touch the cell hands it on
    on : (e x k : ℕ) → e < edges → k < sys.node_count → (s t u : V) → suits (from e) s → suits (to e) t → suits (to e) u
        → parts.cell t x ≡ parts.cell s x → states.leq t u → (r : Option V) → IfSome r (suits k) → Flows x r (Some s)
        → Flows x r (Some u)
    on e x k lt k-lt s t u s-fits t-fits u-fits same le None r-fits flows = flows
    on e x k lt k-lt s t u s-fits t-fits u-fits same le (Some r) r-fits flows =
        made.cell_transitive k (from e) (to e) r s u r-fits s-fits u-fits x flows
        (subst (λ c. parts.cell_leq c (parts.cell u x)) same (made.cell_rises (to e) t u t-fits u-fits le x))

    along_to : (e x : ℕ) → e < edges → place.owns (to e) x ≡ false → (s t : V) → suits (from e) s → suits (to e) t
        → parts.cell t x ≡ parts.cell s x → Flows x (table (place.kept_at (from e) x)) (Some s)
        → (y : Option V) → IfSome y (suits (to e)) → Below (Some t) y
        → Flows x (table (place.kept_at (to e) x)) y
    along_to e x lt other s t s-fits t-fits same flows None y-fits le = tt
    along_to e x lt other s t s-fits t-fits same flows (Some u) y-fits le =
        subst (λ m. Flows x (table m) (Some u)) (placed.same e x lt other)
        (on e x (place.kept_at (from e) x) lt (placed.within (from e) x (law.from_node e lt)) s t u s-fits t-fits
        y-fits same le (table (place.kept_at (from e) x))
        (fits (place.kept_at (from e) x) (placed.within (from e) x (law.from_node e lt))) flows)

    goes_on : IsClosedTable states suits sys table → (e : ℕ) → e < edges → (s t : V) → table (from e) ≡ Some s
        → sys.after e s ≡ Some t → FlowsAt (from e) → FlowsAt (to e)
    goes_on solved e lt s t at brings flows x =
        let s-fits : suits (from e) s = subst (λ a. IfSome a (suits (from e))) at (fits (from e) (law.from_node e lt)) in
        let t-fits : suits (to e) t = subst (λ a. IfSome a (suits (to e))) brings (law.after_fits e s lt s-fits) in
        let met : Below (Some t) (table (to e)) =
        subst (λ a. Below a (table (to e))) brings
        (subst (λ a. Below (brought (sys.after e) a) (table (to e))) at (solved.edges e lt)) in
        closed.by_ownership states suits sys parts place order law made placed (to e) x
        (Flows x (table (place.kept_at (to e) x)) (table (to e)))
        (at_owner (to e) x (law.to_node e lt))
        (λ other. along_to e x lt other s t s-fits t-fits
        (subst (λ a. CarriesCell states suits sys parts place e x s a) brings
        (framed e lt s at x (placed.untouched e x lt other))
        ∙ closed.uncarried states suits sys parts place order law made placed e x (parts.cell s x)
        (placed.uncarried e x lt other))
        (subst (λ a. Flows x (table (place.kept_at (from e) x)) a) at (flows x))
        (table (to e)) (fits (to e) (law.to_node e lt)) met)

    anywhere : (n : ℕ) → (y : Option V) → table n ≡ y → IfSome y (λ s. FlowsAt n) → FlowsAt n
    anywhere n None is flows = λ x. subst (λ a. Flows x (table (place.kept_at n x)) a) (sym is) tt
    anywhere n (Some s) is flows = flows

  pub least_flows : (table : NodeTable V) → IsLeastSolution states suits sys table
      → IsFramedIn states suits sys parts place table → IsFlowing states suits sys parts place table
  least_flows table least framed n x lt =
      let fits = least.solves.fits in
      anywhere table fits framed n (table n) refl
      (reached.reached states suits sys order join law table least (FlowsAt table fits framed)
      (λ c. at_owner table fits framed 0 c law.some_node (placed.entry c))
      (goes_on table fits framed (closing.least_is_closed states suits sys order join law table least)) n lt) x
