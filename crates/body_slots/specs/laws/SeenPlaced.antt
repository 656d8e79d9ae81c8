-- Where the owners of a tree are well placed, they are so for the cells that pass a test.
use Rattle.std.specs.Prelude.{◌≡◌, ℕ, ◌<◌, Bool, true, false, ◌||◌, not, cond, length, refl}
use Rattle.std.proofs.lemmas.Bool.{true≢false}
use Rattle.table_covers.specs.Systems.{from_of, to_of}
use Rattle.cell_placings.specs.declared.cell_graphs.CellGraph.{CellGraph}
use Rattle.cell_placings.specs.OwnerTrees.{OwnerTree, owns_in, kept_in, placing_of}
use Rattle.cell_placings.specs.Placed.{IsCellPlaced}
use Rattle.body_slots.specs.Placed.{seen_placing}

-- what nobody owns passes the test
passes : (t o : Bool) → (not t || o) ≡ false → t ≡ true
passes true o h = refl
passes false o h = absurd (true≢false h)

not_owned : (t o : Bool) → (not t || o) ≡ false → o ≡ false
not_owned true o h = h
not_owned false o h = absurd (true≢false h)

owned : (t o : Bool) → o ≡ true → (not t || o) ≡ true
owned true o h = h
owned false o h = refl

module _ (is_cell : ℕ → Bool) (graph : CellGraph) (tree : OwnerTree)
    (p : IsCellPlaced graph (placing_of graph tree)) where
  abbrev from : ℕ → ℕ
  from e = from_of graph.links.items e

  abbrev to : ℕ → ℕ
  to e = to_of graph.links.items e

  within : (n x : ℕ) → n < graph.nodes → (t : Bool) → cond t (kept_in tree n x) n < graph.nodes
  within n x lt true = p.within n x lt
  within n x lt false = lt

  kept : (n x : ℕ) → n < graph.nodes → (t : Bool) → (not t || owns_in tree (cond t (kept_in tree n x) n) x) ≡ true
  kept n x lt true = p.kept n x lt
  kept n x lt false = refl

  own : (n x : ℕ) → (t : Bool) → (not t || owns_in tree n x) ≡ true → cond t (kept_in tree n x) n ≡ n
  own n x true h = p.own n x h
  own n x false h = refl

  same : (e x : ℕ) → e < length graph.links.items → (t : Bool) → (not t || owns_in tree (to e) x) ≡ false
      → cond t (kept_in tree (from e) x) (from e) ≡ cond t (kept_in tree (to e) x) (to e)
  same e x lt true h = p.same e x lt h
  same e x lt false h = absurd (true≢false h)

  pub is_seen_placed : IsCellPlaced graph (seen_placing is_cell graph tree)
  is_seen_placed = record {
    some_node = p.some_node;
    from_node = p.from_node;
    to_node = p.to_node;
    within = λ n x lt. within n x lt (is_cell x);
    kept = λ n x lt. kept n x lt (is_cell x);
    own = λ n x h. own n x (is_cell x) h;
    entry = λ x. owned (is_cell x) (owns_in tree 0 x) (p.entry x);
    beyond = λ n x le. owned (is_cell x) (owns_in tree n x) (p.beyond n x le);
    looked = p.looked;
    untouched = λ e x lt h. p.untouched e x lt (not_owned (is_cell x) (owns_in tree (to e) x) h);
    uncarried = λ e x lt h. p.uncarried e x lt (not_owned (is_cell x) (owns_in tree (to e) x) h);
    same = λ e x lt h. same e x lt (is_cell x) h;
    unrounded = λ n x lt h. p.unrounded n x lt (not_owned (is_cell x) (owns_in tree n x) h);
  }
