-- What a state says of one cell: its own value, the mutexes that are pending there, and whether it is fresh and stored.
use Rattle.std.specs.Prelude.{◌≡◌, ℕ, ◌+◌, Bool, true, false, ◌&&◌, IsTrue, bit_or}
use Rattle.cell_env.specs.declared.cells.CellState.{CellState}

-- the one set of mutexes, as bits, is within the other
abbrev pub IsWithin : ℕ → ℕ → Type 0
IsWithin p q = bit_or p q ≡ q

-- a mark that falls counts where it is gone
abbrev pub gone : Bool → ℕ
gone true = 0
gone false = 1

module _ {V N : Type 0} where
  abbrev pub IsCell : (V → Type 0) → CellState V N → Type 0
  IsCell is_value c = is_value c.value

  -- more values and more pending mutexes are above, and fewer fresh and stored cells
  pub record IsCellBelow (leq : V → V → Type 0) (c d : CellState V N) : Type 0 where
    pub value : leq c.value d.value
    pub pending : IsWithin c.pending d.pending
    pub fresh : IsTrue d.fresh → IsTrue c.fresh
    pub stored : IsTrue d.stored → IsTrue c.stored

  -- values and pending mutexes are joined; fresh and stored is what both are
  abbrev pub joined_cell : (V → V → V) → CellState V N → CellState V N → CellState V N
  joined_cell join c d = record {
    value = join c.value d.value;
    pending = bit_or c.pending d.pending;
    fresh = c.fresh && d.fresh;
    stored = c.stored && d.stored;
  }

  abbrev pub rounded_cell : (V → V) → CellState V N → CellState V N
  rounded_cell round c = record c { value = round c.value }

  -- how high a cell stands, where its value has a height
  abbrev pub cell_height : (V → ℕ) → CellState V N → ℕ
  cell_height height c = height c.value + c.pending + gone c.fresh + gone c.stored
