-- A property of states that holds where a least table is looked at, and that no edge to another node takes away, holds
-- at all nodes.
use Rattle.std.proofs.Common.{◌≡◌, ℕ, ◌<◌, Bool, true, false, Option, Some, None, IfSome, refl, sym, ◌∙◌, subst}
use Rattle.std.proofs.lemmas.Bool.{true≢false}
use Rattle.sparse_rows.specs.sparse_tables.table_covers.tm_lattice.declared.lattices.Lattice as lattice
use Rattle.sparse_rows.specs.sparse_tables.table_covers.tm_lattice.LatticeLaws.{IsOrder, IsJoin}
use Rattle.sparse_rows.specs.sparse_tables.table_covers.tm_lattice.Tables.{IsBelow}
use Rattle.sparse_rows.specs.sparse_tables.table_covers.Systems.{System, IsLawfulSystem, from_of, to_of}
use Rattle.sparse_rows.specs.sparse_tables.table_covers.Solutions.{NodeTable, edge_count, IsSolution, IsLeastSolution}
use Rattle.sparse_rows.specs.sparse_tables.table_covers.Solutions.{IsNodewiseBelow, least_of}
use Rattle.sparse_rows.specs.sparse_tables.table_covers.laws.Closing as closing
use Rattle.sparse_rows.specs.sparse_tables.table_covers.laws.Iterates as iterates
use Rattle.sparse_rows.specs.sparse_tables.laws.Bounded as bounded

module _ {V M : Type 0} (states : lattice.Ghosts V M) (suits : ℕ → V → Type 0) (sys : System V)
    (looks : ℕ → Bool) (P : V → Type 0) where
  -- The first node is looked at, and each node at which states are rounded; the property goes down, to joins, and along
  -- edges to nodes that are not looked at.
  pub record IsKeptElsewhere : Type 0 where
    pub first : looks 0 ≡ true
    pub plain : (n : ℕ) → looks n ≡ false → sys.heads n ≡ false
    pub falls : (v w : V) → states.leq v w → P w → P v
    pub joined : (v w : V) → P v → P w → P (states.joined v w)
    pub after : (e : ℕ) (v : V) → e < edge_count states suits sys → looks (to_of sys.links e) ≡ false → P v
        → IfSome (sys.after e v) P

  module _ (order : IsOrder states.is_value states.leq) (join : IsJoin states.is_value states.leq states.joined)
      (law : IsLawfulSystem states.is_value states.leq states.joined suits sys) (keeps : IsKeptElsewhere)
      (table : NodeTable V) (solves : IsSolution states suits sys table)
      (low : IsNodewiseBelow states suits sys table (least_of states suits sys))
      (seen : (n : ℕ) → n < sys.node_count → looks n ≡ true → IfSome (table n) P) where
    abbrev least : NodeTable V
    least = least_of states suits sys

    abbrev Kept : ℕ → V → Type 0
    Kept n v = looks n ≡ false → P v

    is_least : IsLeastSolution states suits sys least
    is_least = iterates.least_is_least states suits sys order join law

    by_seen : (v : V) (a : Option V) → IfSome a P → IsBelow states.leq (Some v) a → P v
    by_seen v None h le = absurd le
    by_seen v (Some w) h le = keeps.falls v w le h

    -- at a node that is looked at the property holds of what lies below the least table
    here : (n : ℕ) (v : V) → n < sys.node_count → suits n v → IsBelow states.leq (Some v) (least n)
        → (b : Bool) → looks n ≡ b → Kept n v → P v
    here n v lt fits le false is kept = kept is
    here n v lt fits le true is kept =
        by_seen v (table n) (seen n lt is)
        (closing.transitive states suits sys order join law n (Some v) (least n) (table n) fits
        (is_least.solves.fits n lt) (solves.fits n lt) le (is_least.below table solves n lt))

    there : (n : ℕ) (a : Option V) → (looks n ≡ false → IfSome a P) → IfSome a (Kept n)
    there n None h = tt
    there n (Some v) h = h

    entry : (a : Option V) → IfSome a (Kept 0)
    entry None = tt
    entry (Some v) = λ other. absurd (true≢false (sym keeps.first ∙ other))

    is_kept : bounded.IsKept states suits sys Kept least
    is_kept = record {
      entry = entry sys.entry;
      after = λ e v lt fits kept le. there (to_of sys.links e) (sys.after e v)
          (λ other. keeps.after e v lt other
          (here (from_of sys.links e) v (law.from_node e lt) fits le (looks (from_of sys.links e)) refl kept));
      joined = λ n v w v-fits w-fits v-kept w-kept other. keeps.joined v w (v-kept other) (w-kept other);
      outward = λ n v fits kept other. subst P (sym (law.plain n v (keeps.plain n other) fits)) (kept other);
    }

    abbrev Under : ℕ → V → Type 0
    Under = bounded.IsKeptUnder states suits sys Kept least

    -- the least table has the property at all nodes
    least_has : (n : ℕ) → n < sys.node_count → (a : Option V) → IfSome a (Under n) → IfSome a P
    least_has n lt None h = tt
    least_has n lt (Some v) h = here n v lt h.fits h.under (looks n) refl h.is

    fits_under : (n : ℕ) → n < sys.node_count → IfSome (least n) (Under n)
    fits_under n lt =
        let solved = closing.least_is_closed states suits sys order join law least is_least in
        let under = bounded.lawful_under states suits sys Kept least order join law is_kept solved in
        (iterates.least_is_least states Under sys order join under).solves.fits n lt

    falls_at : (a b : Option V) → IsBelow states.leq a b → IfSome b P → IfSome a P
    falls_at None b le h = tt
    falls_at (Some v) None le h = absurd le
    falls_at (Some v) (Some w) le h = keeps.falls v w le h

    pub holds_everywhere : (n : ℕ) → n < sys.node_count → IfSome (table n) P
    holds_everywhere n lt =
        falls_at (table n) (least n) (low n lt) (least_has n lt (least n) (fits_under n lt))
