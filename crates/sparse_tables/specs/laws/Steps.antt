-- The solver's step: what an edge brings to a table in the making stays below each closed table in which cells flow.
use Rattle.std.proofs.Common.{◌≡◌, ℕ, ◌<◌, true, false, Option, Some, None, IfSome, sym, subst}
use Rattle.table_covers.specs.tm_lattice.declared.lattices.Lattice as lattice
use Rattle.table_covers.specs.tm_lattice.LatticeLaws.{IsOrder, IsJoin}
use Rattle.table_covers.specs.tm_lattice.Tables.{IsBelow}
use Rattle.table_covers.specs.Systems.{System, IsLawfulSystem, from_of, to_of}
use Rattle.table_covers.specs.Solutions.{NodeTable, brought, edge_count, IsClosedTable, AreFitting}
use Rattle.sparse_tables.specs.Sparse.{Parts, Placing, AreParts, IsPlaced, IsFramed, IsFlowing, IsThin, AreOwnBelow}
use Rattle.sparse_tables.specs.Sparse.{AgreeOn, GiveAlike, IsLocal, CarriesCell, carried}
use Rattle.sparse_tables.specs.laws.Least as least

module _ {V F C M : Type 0} (states : lattice.Ghosts V M) (suits : ℕ → V → Type 0) (sys : System V)
    (parts : Parts V F C) (place : Placing)
    (order : IsOrder states.is_value states.leq) (join : IsJoin states.is_value states.leq states.joined)
    (law : IsLawfulSystem states.is_value states.leq states.joined suits sys)
    (made : AreParts states suits sys parts place) (placed : IsPlaced states suits sys parts place) where
  abbrev from : ℕ → ℕ
  from e = from_of sys.links e

  abbrev to : ℕ → ℕ
  to e = to_of sys.links e

  -- What is joined into the front and the slots at the end of the edge lies below the state there: of what the row
  -- gives the front and the touched cells, and of the other cells what the edge carries of what they were.
  pub record IsArrived (e : ℕ) (s t u : V) : Type 0 where
    pub front : parts.front_leq (parts.front t) (parts.front u)
    pub touched : (x : ℕ) → place.touches e x ≡ true → parts.cell_leq (parts.cell t x) (parts.cell u x)
    pub passed : (x : ℕ) → place.touches e x ≡ false
        → parts.cell_leq (carried states suits sys parts place e x (parts.cell s x)) (parts.cell u x)

  abbrev pub ArrivesBelow : ℕ → V → Option V → Option V → Type 0
  ArrivesBelow e s None y = Unit {0}
  ArrivesBelow e s (Some t) None = ⊥
  ArrivesBelow e s (Some t) (Some u) = IsArrived e s t u

  by_states : (e : ℕ) → e < edge_count states suits sys → (s : V) (a b y : Option V)
      → GiveAlike states suits sys parts place e a b
      → ((x : ℕ) → place.touches e x ≡ false → CarriesCell states suits sys parts place e x s b)
      → IfSome b (suits (to e)) → IfSome y (suits (to e)) → IsBelow states.leq b y → ArrivesBelow e s a y
  by_states e lt s None b y alike framed b-fits y-fits le = tt
  by_states e lt s (Some t) None y alike framed b-fits y-fits le = absurd alike
  by_states e lt s (Some t) (Some v) None alike framed b-fits y-fits le = absurd le
  by_states e lt s (Some t) (Some v) (Some u) alike framed b-fits y-fits le = record {
    front = subst (λ f. parts.front_leq f (parts.front u)) (sym alike.front)
        (made.front_rises (to e) v u b-fits y-fits le);
    touched = λ x touches. subst (λ c. parts.cell_leq c (parts.cell u x))
        (sym (alike.cells x (placed.looked e x lt touches))) (made.cell_rises (to e) v u b-fits y-fits le x);
    passed = λ x passes. subst (λ c. parts.cell_leq c (parts.cell u x)) (framed x passes)
        (made.cell_rises (to e) v u b-fits y-fits le x);
  }

  pub step_stays_below : (table other : NodeTable V) → AreFitting states suits sys table
      → AreFitting states suits sys other → IsThin states suits sys parts place table
      → IsFlowing states suits sys parts place other → IsClosedTable states suits sys other
      → AreOwnBelow states suits sys parts place table other
      → (e : ℕ) → e < edge_count states suits sys → (small s : V) → table (from e) ≡ Some s
      → AgreeOn states suits sys parts place e small s → IsLocal states suits sys parts place e small s
      → IsFramed states suits sys parts place e s → ArrivesBelow e s (sys.after e small) (other (to e))
  step_stays_below table other fits other-fits thin flows solved own e lt small s at agree local framed =
      by_states e lt s (sys.after e small) (sys.after e s) (other (to e)) (local agree) framed
      (law.after_fits e s lt (subst (λ a. IfSome a (suits (from e))) at (fits (from e) (law.from_node e lt))))
      (other-fits (to e) (law.to_node e lt))
      (subst (λ a. IsBelow states.leq (brought (sys.after e) a) (other (to e))) at
      (least.brought_below states suits sys parts place order join law made placed table other fits other-fits thin
      flows own solved e lt))
