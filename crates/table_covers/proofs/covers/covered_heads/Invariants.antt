use Rattle.std.proofs.Common.{◌≡◌, ◌↔◌, ℕ, ◌<◌, IsTrue, length, get_or, true, false}
use Rattle.table_covers.specs.Solutions.{at, IsCovered}
use Rattle.table_covers.proofs.covers.covered_heads.Given as goal

abbrev pub invariant-loop-node : goal.invariant-loop-node
invariant-loop-node g l =
    (length l.covered.items ≡ l.node)
    × ((n : ℕ) → n < l.node → (g.E.Equations.system_of l.system).heads n ≡ true → (IsTrue (get_or l.covered.items n false) ↔ IsCovered g.E.State.Lattice (g.E.Equations.fits l.system) (g.E.Equations.system_of l.system) (at l.table) n))
