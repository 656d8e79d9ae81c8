-- Keyed tables: finite maps from numbers to values of a lattice, in which an absent key counts as nothing.
use Rattle.std.specs.Prelude.{◌≡◌, ℕ, ◌<◌, ◌≤◌, ◌==◌, cond, List, [], ◌∷◌, map, Option, Some, None, IfSome}
use Rattle.std.specs.List.{list_any}
use Rattle.std.specs.Ordering.{nat_cmp}
use Rattle.std.specs.FinMap.{FinMap, get, insert, entries, from_sorted}

abbrev pub Table : Type 0 → Type 0
Table V = FinMap nat_cmp V

module _ {V : Type 0} where
  -- what may stand at a key: a value that is not nothing
  abbrev pub IsEntry : (V → Type 0) → (V → Type 0) → Option V → Type 0
  IsEntry is_value nothing at = IfSome at (λ v. is_value v × (nothing v → ⊥))

  -- no entry is nothing
  abbrev pub IsTable : (V → Type 0) → (V → Type 0) → Table V → Type 0
  IsTable is_value nothing t = (key : ℕ) → IsEntry is_value nothing (get t key)

  -- what stands at a key is below what stands there in another table: absence is below everything, and nothing else
  -- is below absence
  abbrev pub IsBelow : (V → V → Type 0) → Option V → Option V → Type 0
  IsBelow leq None at = Unit {0}
  IsBelow leq (Some v) None = ⊥
  IsBelow leq (Some v) (Some w) = leq v w

  -- a table is below another where it is at each key
  abbrev pub IsTableBelow : (V → V → Type 0) → Table V → Table V → Type 0
  IsTableBelow leq s t = (key : ℕ) → IsBelow leq (get s key) (get t key)

  -- what stands at a key, joined with one more value
  abbrev pub joined_value : (V → V → V) → Option V → V → V
  joined_value join None v = v
  joined_value join (Some old) v = join old v

  -- the table with one more value joined in at a key
  abbrev pub with_entry : (V → V → V) → Table V → ℕ → V → Table V
  with_entry join t key v = insert t key (joined_value join (get t key) v)

  -- the table with each of these entries joined in
  abbrev pub with_entries : (V → V → V) → Table V → List (ℕ × V) → Table V
  with_entries join t [] = t
  with_entries join t (e ∷ es) = with_entry join (with_entries join t es) e.0 e.1

  -- what stands at a key in the join of two tables
  abbrev pub joined_at : (V → V → V) → Option V → Option V → Option V
  joined_at join None at = at
  joined_at join (Some v) None = Some v
  joined_at join (Some v) (Some w) = Some (join v w)

  -- the join of two tables: the one with every entry of the other joined in
  abbrev pub joined_table : (V → V → V) → Table V → Table V → Table V
  joined_table join s t = with_entries join s (entries t)

  -- each entry with its value rounded
  abbrev pub rounded_entries : (V → V) → List (ℕ × V) → List (ℕ × V)
  rounded_entries round es = map (λ e. (e.0, round e.1)) es

  -- the table with each value rounded
  abbrev pub rounded_table : (V → V) → Table V → Table V
  rounded_table round t = from_sorted (rounded_entries round (entries t))

  -- each entry with its value changed, by its key
  abbrev pub changed_entries : (ℕ → V → V) → List (ℕ × V) → List (ℕ × V)
  changed_entries change es = map (λ e. (e.0, change e.0 e.1)) es

  -- the table with each value changed, by its key: the keys stay
  abbrev pub changed_table : (ℕ → V → V) → Table V → Table V
  changed_table change t = from_sorted (changed_entries change (entries t))

  -- a value rounded where its key is among these
  abbrev pub rounded_among : (V → V) → List ℕ → ℕ → V → V
  rounded_among round keys key v = cond (list_any (λ k. k == key) keys) (round v) v

  -- the table with the values at these keys rounded, and all others as they are
  abbrev pub selected_table : (V → V) → List ℕ → Table V → Table V
  selected_table round keys = changed_table (rounded_among round keys)

  -- no key from this one on stands in the table
  abbrev pub IsPast : Table V → ℕ → Type 0
  IsPast t from = (key : ℕ) → from ≤ key → get t key ≡ None

  -- the entry has the least key of those from this one on
  pub record IsNext (t : Table V) (from key : ℕ) (v : V) : Type 0 where
    pub at_least : from ≤ key
    pub stands : get t key ≡ Some v
    pub none_between : (other : ℕ) → from ≤ other → other < key → get t other ≡ None
