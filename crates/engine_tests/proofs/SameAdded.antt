-- Tables that are equal at each node contribute the same.
use Rattle.std.proofs.Common.{◌≡◌, ℕ, zero, suc, ◌<◌, ◌≤◌, List, length, ap, ◌∙◌, refl, arith}
use Rattle.table_covers.specs.declared.links.Link.{Link}
use Rattle.table_covers.specs.Systems.{from_of}
use Rattle.table_covers.specs.Solutions.{NodeTable}
use Rattle.table_covers.specs.Passes.{with_added, added_below}

module _ {V A : Type 0} (links : List Link) (nothing : A) (contributed : ℕ → V → A) (join : A → A → A) where
  pub same_added : (k : ℕ) (s t : NodeTable V) → k ≤ length (links) → ((e : ℕ) → e < length (links) → s (from_of (links) e) ≡ t (from_of (links) e))
      → added_below links nothing contributed join k s ≡ added_below links nothing contributed join k t
  same_added zero s t le same = refl
  same_added (suc e) s t le same =
      ap (λ a. with_added links nothing contributed join e a (s (from_of (links) e))) (same_added e s t (omega arith) same)
      ∙ ap (with_added links nothing contributed join e (added_below links nothing contributed join e t)) (same e (omega arith))
