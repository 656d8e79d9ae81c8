-- How a tree keeps its table, and each branch of it its own: in parts of a number of keys, each part being a table of
-- its own.
use Rattle.std.specs.Prelude.{◌≡◌, ℕ, ◌/◌, List, [], ◌∷◌, Option, Some, None}
use Rattle.std.specs.FinMap.{get, empty, entries}
use Rattle.tm_lattice.specs.Tables.{Table, joined_table}

-- the part in which a key stands, where so many keys are together
unfoldable pub part_of : ℕ → ℕ → ℕ
part_of size key = key / size

module _ {V : Type 0} where
  -- what stands at a key of a part, if the part is there
  abbrev pub in_part : Option (Table V) → ℕ → Option V
  in_part None key = None
  in_part (Some part) key = get part key

  -- what the parts of a list hold together
  abbrev pub together_from : List (ℕ × Table V) → Table V
  together_from [] = empty
  together_from (e ∷ es) = joined_table (λ v w. v) e.1 (together_from es)

  -- what the parts hold together: the table that they are
  unfoldable pub together : Table (Table V) → Table V
  together parts = together_from (entries parts)

  abbrev pub or_empty : Option (Table V) → Table V
  or_empty None = empty
  or_empty (Some part) = part

  -- the part in which a key stands, empty where it is not there
  abbrev pub part_at : ℕ → Table (Table V) → ℕ → Table V
  part_at size parts key = or_empty (get parts (part_of size key))

  -- each key stands in its part
  pub record IsParted (size : ℕ) (parts : Table (Table V)) : Type 0 where
    pub keys : (number : ℕ) (part : Table V) → get parts number ≡ Some part
        → (key : ℕ) (v : V) → get part key ≡ Some v → part_of size key ≡ number
