-- A loop that counts up: levels from 0 to 9, rounded up to a mark at the loop's head. The store says by how much each
-- edge raises a level, and each
-- edge contributes the level of the node that it leaves.
use Rattle.std.specs.Prelude.{◌≡◌, ℕ, ◌+◌, ◌≤◌, ◌==◌, min, max, Bool, true, false, List, [], ◌∷◌, length, Option, Some}
use Rattle.tm_lattice.specs.declared.lattices.Lattice as lattice
use Rattle.table_covers.specs.declared.links.Link.{Link}
use Rattle.table_covers.specs.Systems.{System}
use Rattle.table_covers.specs.Solutions.{NodeTable, least_of}
use Rattle.table_covers.specs.Passes.{added_below}

abbrev pub IsLevel : ℕ → Type 0
IsLevel v = Unit {0}

abbrev pub IsLower : ℕ → ℕ → Type 0
IsLower v w = v ≤ w

abbrev pub levels : lattice.Ghosts ℕ ℕ
levels = record {
  is_value = IsLevel;
  is_marks = λ _. Unit {0};
  leq = IsLower;
  joined = max;
  rounded = λ m v. max v m;
  nothing = λ _. ⊥;
}

-- from the first node to the head, to the last node and back
abbrev pub loop_links : List Link
loop_links = record { from = 0; to = 1 } ∷ record { from = 1; to = 2 } ∷ record { from = 2; to = 1 } ∷ []

abbrev pub raised_by : ℕ → ℕ → ℕ
raised_by by v = min (v + by) 9

abbrev pub rounded_if : Bool → ℕ → ℕ → ℕ
rounded_if true mark v = max v (min mark 9)
rounded_if false mark v = v

abbrev pub is_head : ℕ → Bool
is_head n = n == 1

abbrev pub suits : ℕ → ℕ → Type 0
suits n v = v ≤ 9

-- the equations of the loop over a store
abbrev pub loop_system : ℕ → ℕ → System ℕ
loop_system mark store = record {
  node_count = 3;
  links = loop_links;
  after = λ e v. Some (raised_by store v);
  entry = Some 0;
  outward = λ n. rounded_if (is_head n) mark;
  heads = is_head;
  height = λ v. v;
  limit = λ n. 9;
}

abbrev pub loop_table : ℕ → ℕ → NodeTable ℕ
loop_table mark store = least_of levels suits (loop_system mark store)

-- what a pass adds: the join of what the edges contribute at the least table
unfoldable pub loop_pass : ℕ → ℕ → ℕ
loop_pass mark store = added_below loop_links 0 (λ e v. v) max 3 (loop_table mark store)
