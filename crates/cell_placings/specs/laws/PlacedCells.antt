-- Cells that are placed on the graph of a system are placed for its states, where roundings leave what is not listed.
use Rattle.std.specs.Prelude.{◌≡◌, ℕ, ◌<◌, true, false, List, length}
use Rattle.std.proofs.Common.{subst, sym}
use Rattle.table_covers.specs.tm_lattice.declared.lattices.Lattice as lattice
use Rattle.table_covers.specs.declared.links.Link.{Link}
use Rattle.table_covers.specs.Systems.{System, from_of, to_of}
use Rattle.sparse_tables.specs.Sparse.{Parts, Placing, IsPlaced}
use Rattle.cell_placings.specs.declared.cell_graphs.CellGraph.{CellGraph}
use Rattle.cell_placings.specs.CellLists.{is_in, cells_at}
use Rattle.cell_placings.specs.Placed.{IsCellPlaced}

module _ {V F C M : Type 0} (states : lattice.Ghosts V M) (suits : ℕ → V → Type 0) (sys : System V)
    (parts : Parts V F C) (place : Placing) (graph : CellGraph) where
  -- the graph is that of the system
  pub record IsGraphOf : Type 0 where
    pub nodes : graph.nodes ≡ sys.node_count
    pub links : graph.links.items ≡ sys.links

  -- the rounding at a node leaves each cell that is not listed there
  abbrev pub LeavesUnlisted : Type 0
  LeavesUnlisted = (n x : ℕ) (s : V) → n < sys.node_count → suits n s
      → is_in (cells_at graph.rounded.items n) x ≡ false → parts.cell (sys.outward n s) x ≡ parts.cell s x

  module _ (g : IsGraphOf) (p : IsCellPlaced graph place) where
    counted : (n : ℕ) → n < sys.node_count → n < graph.nodes
    counted n lt = subst (λ m. n < m) (sym g.nodes) lt

    looked : (e x : ℕ) → e < length sys.links → place.touches e x ≡ true → place.looks e x ≡ true
    looked =
        subst (λ (l : List Link). (e x : ℕ) → e < length l → place.touches e x ≡ true → place.looks e x ≡ true)
        g.links p.looked

    untouched : (e x : ℕ) → e < length sys.links → place.owns (to_of sys.links e) x ≡ false
        → place.touches e x ≡ false
    untouched =
        subst (λ (l : List Link). (e x : ℕ) → e < length l → place.owns (to_of l e) x ≡ false
        → place.touches e x ≡ false) g.links p.untouched

    uncarried : (e x : ℕ) → e < length sys.links → place.owns (to_of sys.links e) x ≡ false
        → place.carries e x ≡ false
    uncarried =
        subst (λ (l : List Link). (e x : ℕ) → e < length l → place.owns (to_of l e) x ≡ false
        → place.carries e x ≡ false) g.links p.uncarried

    same : (e x : ℕ) → e < length sys.links → place.owns (to_of sys.links e) x ≡ false
        → place.kept_at (from_of sys.links e) x ≡ place.kept_at (to_of sys.links e) x
    same =
        subst (λ (l : List Link). (e x : ℕ) → e < length l → place.owns (to_of l e) x ≡ false
        → place.kept_at (from_of l e) x ≡ place.kept_at (to_of l e) x) g.links p.same

    pub is_placed : LeavesUnlisted → IsPlaced states suits sys parts place
    is_placed leaves = record {
      within = λ n x lt. subst (λ m. place.kept_at n x < m) g.nodes (p.within n x (counted n lt));
      kept = λ n x lt. p.kept n x (counted n lt);
      own = p.own;
      entry = p.entry;
      looked = looked;
      untouched = untouched;
      uncarried = uncarried;
      same = same;
      plain = λ n x s lt fits other. leaves n x s lt fits (p.unrounded n x (counted n lt) other);
    }
