-- Systems of equations over a graph: what their parts keep.
use Rattle.std.specs.Prelude.{◌≡◌, ℕ, ◌<◌, ◌≤◌, Bool, false, List, length, slice_index_or, Option, IfSome}
use Rattle.tm_lattice.specs.Tables.{IsBelow}
use Rattle.table_covers.specs.declared.links.Link.{Link}

abbrev pub no_link : Link
no_link = record { from = 0; to = 0 }

-- Equations over a graph: how many nodes and which edges there are, what an edge brings for the state of the node
-- that it leaves, what stands
-- at the first node besides, how a state is rounded at a node and at which nodes it is, and the height of a state
-- with its limit at each node.
pub record System (V : Type 0) : Type 0 where
  pub node_count : ℕ
  pub links : List Link
  pub after : ℕ → V → Option V
  pub entry : Option V
  pub outward : ℕ → V → V
  pub heads : ℕ → Bool
  pub height : V → ℕ
  pub limit : ℕ → ℕ

-- the node that an edge leaves
abbrev pub from_of : List Link → ℕ → ℕ
from_of links e = let l = slice_index_or links e no_link in l.from

-- the node to which an edge leads
abbrev pub to_of : List Link → ℕ → ℕ
to_of links e = let l = slice_index_or links e no_link in l.to

module _ {V : Type 0} (is_value : V → Type 0) (leq : V → V → Type 0) (joined : V → V → V) (suits : ℕ → V
    → Type 0) (sys : System V) where
  pub record IsLawfulSystem : Type 0 where
    pub some_node : 0 < sys.node_count
    pub from_node : (e : ℕ) → e < length sys.links → from_of sys.links e < sys.node_count
    pub to_node : (e : ℕ) → e < length sys.links → to_of sys.links e < sys.node_count
    pub value : (n : ℕ) (v : V) → suits n v → is_value v
    pub entry_fits : IfSome sys.entry (suits 0)
    pub after_fits : (e : ℕ) (v : V) → e < length sys.links → suits (from_of sys.links e) v
        → IfSome (sys.after e v) (suits (to_of sys.links e))
    pub joined_fits : (n : ℕ) (v w : V) → suits n v → suits n w → suits n (joined v w)
    pub outward_fits : (n : ℕ) (v : V) → suits n v → suits n (sys.outward n v)
    pub monotone : (e : ℕ) (v w : V) → e < length sys.links → suits (from_of sys.links e) v
        → suits (from_of sys.links e) w → leq v w → IsBelow leq (sys.after e v) (sys.after e w)
    pub extensive : (n : ℕ) (v : V) → suits n v → leq v (sys.outward n v)
    pub rising : (n : ℕ) (v w : V) → suits n v → suits n w → leq v w → leq (sys.outward n v) (sys.outward n w)
    pub idempotent : (n : ℕ) (v : V) → suits n v → sys.outward n (sys.outward n v) ≡ sys.outward n v
    pub plain : (n : ℕ) (v : V) → sys.heads n ≡ false → suits n v → sys.outward n v ≡ v
    pub first_plain : sys.heads 0 ≡ false
    pub within : (n : ℕ) (v : V) → suits n v → sys.height v ≤ sys.limit n
    pub climbs : (v w : V) → is_value v → is_value w → leq v w → sys.height v ≤ sys.height w
    pub strictly : (v w : V) → is_value v → is_value w → leq v w → sys.height w ≤ sys.height v → v ≡ w
