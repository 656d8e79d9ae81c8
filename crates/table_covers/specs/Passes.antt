-- What the edges of a table contribute.
use Rattle.std.specs.Prelude.{ℕ, zero, suc, List, Option, Some, None}
use Rattle.table_covers.specs.declared.links.Link.{Link}
use Rattle.table_covers.specs.Systems.{from_of}
use Rattle.table_covers.specs.Solutions.{NodeTable}

module _ {V A : Type 0} (links : List Link) (nothing : A) (contributed : ℕ → V → A) (join : A → A → A) where
  abbrev pub with_added : ℕ → A → Option V → A
  with_added e added None = added
  with_added e added (Some v) = join added (contributed e v)

  -- the join of what the edges below a number contribute
  abbrev pub added_below : ℕ → NodeTable V → A
  added_below zero table = nothing
  added_below (suc e) table = with_added e (added_below e table) (table (from_of (links) e))
