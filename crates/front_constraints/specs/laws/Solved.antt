-- The least assignment of the constraints, read back, is the least solution of the equations.
use Rattle.std.proofs.Common.{◌≡◌, ℕ, ◌<◌, true, Option, Some, None, IfSome, sym, ap, ◌∙◌}
use Rattle.std.specs.Prelude.{MatchOption, false}
use Rattle.std.specs.Option.{option_map}
use Rattle.sparse_tables.specs.table_covers.tm_lattice.declared.lattices.Lattice as lattice
use Rattle.sparse_tables.specs.table_covers.Solutions.{NodeTable, IsLeastSolution}
use Rattle.sparse_tables.specs.Sparse.{Parts, IsFramedIn}
use Rattle.sparse_tables.specs.Fronts.{AreFitted, IsRoundKept, IsExpanded}
use Rattle.sparse_tables.specs.laws.Bounded as bounded
use Rattle.sparse_tables.specs.laws.Bounded.{IsKept}
use Rattle.sparse_tables.specs.laws.LeastFronts as fronts_law
use Rattle.least_assignments.specs.Constraints.{Assignment}
use Rattle.least_assignments.specs.Solutions.{IsLeast, AreAllowed}
use Rattle.front_constraints.specs.declared.standings.Standing.{Standing}
use Rattle.front_constraints.specs.Standings.{standings}
use Rattle.front_constraints.specs.Systems.{SparseSystem, nodes, parts_of}
use Rattle.front_constraints.specs.Rules.{front_constraints, FitsVariable, Allows, fronts_of}
use Rattle.front_constraints.specs.Premises.{IsSparseSystem, AreLocal, IsKeptFront, IsRoundCell}
use Rattle.front_constraints.specs.laws.LeastFronts.{least_is_least_fronts, same_some}

module _ {V F D L M N : Type 0} (states : lattice.Ghosts V L) (fronts : lattice.Ghosts F M) (cells : lattice.Ghosts D N)
    (suits : ℕ → V → Type 0) (fits_front : ℕ → F → Type 0) (fits_cell : ℕ → D → Type 0) (sys : SparseSystem V F D)
    (keeps : ℕ → F → Type 0) (checks : ℕ → V → Type 0)
    (is : IsSparseSystem states fronts cells suits fits_front fits_cell sys)
    (local : AreLocal states fronts cells suits fits_front fits_cell sys keeps checks) (kept : ℕ → V → Type 0)
    (keeps_front : (n : ℕ) (s : V) → kept n s → keeps n (sys.front s)) where
  abbrev parts : Parts V F (Option D)
  parts = parts_of sys fronts cells

  abbrev Keeps : ℕ → F → Type 0
  Keeps n f = IsKeptFront states fronts cells suits fits_front fits_cell sys keeps n f

  abbrev Round : ℕ → ℕ → D → Type 0
  Round n x d = IsRoundCell states fronts cells suits fits_front fits_cell sys n x d

  round_cell : (n x : ℕ) (y : Option D)
      → MatchOption y (sys.is_cell x ≡ false) (λ d. (sys.is_cell x ≡ true) × fits_cell x d)
      → option_map (sys.outward n x) y ≡ y → IfSome y (Round n x)
  round_cell n x None h same = tt
  round_cell n x (Some d) h same = (h.0, h.1, same_some (sys.outward n x d) d same)

  -- what stands in kept states that are their own roundings fits
  pub kept_fit : AreFitted states suits sys.equations parts sys.place sys.is_cell Keeps Round
      (IsRoundKept states suits sys.equations parts sys.place sys.is_cell kept)
  kept_fit = record {
    front_reflexive = λ n f h. is.front_order.reflexive f ((is.front_values n).value f h.0);
    cell_reflexive = λ n x d h. is.cell_order.reflexive d ((is.cell_values x).value d h.1);
    front = λ n s h. (is.made.front_fits n s h.fits, keeps_front n s h.is);
    cell = λ n x s h. round_cell n x (sys.cell s x) (is.made.cell_fits n x s h.fits)
        (sym (is.made.rounded n x s h.fits) ∙ ap (λ t. sys.cell t x) h.round);
  }

  -- The table of the least assignment, of which each constraint is allowed and the fronts are kept, is the least
  -- solution of the equations, where its edges are framed in states below that are kept.
  pub least_assignment_solves : (a : Assignment (Standing F D))
      → IsLeast (standings fronts cells) (FitsVariable sys fits_front fits_cell) (Allows sys checks)
      (front_constraints sys) a
      → AreAllowed (standings fronts cells) (FitsVariable sys fits_front fits_cell) (Allows sys checks)
      (front_constraints sys) a
      → ((n : ℕ) → n < nodes sys → (let b = fronts_of sys a in IfSome (b.front_of n) (keeps n)))
      → (table : NodeTable V)
      → IsExpanded states suits sys.equations parts sys.place sys.is_cell (fronts_of sys a) table
      → IsFramedIn states suits sys.equations parts sys.place table → IsKept states suits sys.equations kept table
      → bounded.IsFramedKept states suits sys.equations parts sys.place kept table is.state_order is.state_join is.law
      is.pieces is.placed
      → IsLeastSolution states suits sys.equations table
  least_assignment_solves a least allowed keeps-all table expanded framed keeps-table kept-framed =
      fronts_law.least_fronts_are_least_kept states suits sys.equations parts sys.place sys.is_cell is.state_order
      is.state_join is.law is.pieces is.placed is.filled Keeps Round kept (fronts_of sys a)
      (least_is_least_fronts states fronts cells suits fits_front fits_cell sys keeps checks is local a least allowed
      keeps-all)
      table expanded framed keeps-table kept-framed kept_fit
