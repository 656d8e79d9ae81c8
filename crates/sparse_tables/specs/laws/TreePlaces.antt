-- A placing by a tree keeps each cell that a node does not own where it is kept before each edge to the node.
use Rattle.std.proofs.Common.{◌≡◌, ℕ, zero, suc, ◌<◌, Bool, true, false, sym, subst, ◌∙◌, refl, arith}
use Rattle.table_covers.specs.Systems.{System, from_of, to_of}
use Rattle.sparse_tables.specs.Sparse.{Placing}
use Rattle.sparse_tables.specs.Trees.{climbed, IsTreePlaced}

module _ {V : Type 0} (sys : System V) (place : Placing) (up : ℕ → ℕ) (steps : ℕ → ℕ) (edges : ℕ)
    (tree : IsTreePlaced sys place up steps edges) where
  -- where nothing on the way owns the cell, it is kept at one node all along
  climbs : (x : ℕ) (k n : ℕ) → ((j : ℕ) → j < k → place.owns (climbed up j n) x ≡ false)
      → place.kept_at n x ≡ place.kept_at (climbed up k n) x
  climbs x zero n free = refl
  climbs x (suc k) n free =
      tree.nearest n x (free 0 (omega arith)) ∙ climbs x k (up n) (λ j lt. free (suc j) (omega arith))

  not_owned : (b : Bool) → (b ≡ true → true ≡ false) → b ≡ false
  not_owned true h = h refl
  not_owned false h = refl

  pub kept_alike : (e x : ℕ) → e < edges → place.owns (to_of sys.links e) x ≡ false
      → place.kept_at (from_of sys.links e) x ≡ place.kept_at (to_of sys.links e) x
  kept_alike e x lt other =
      climbs x (steps e) (from_of sys.links e)
      (λ j within. not_owned (place.owns (climbed up j (from_of sys.links e)) x)
      (λ own. sym (tree.front e j x lt within own) ∙ other))
      ∙ subst (λ m. place.kept_at m x ≡ place.kept_at (to_of sys.links e) x) (sym (tree.meets e lt))
      (sym (tree.nearest (to_of sys.links e) x other))
