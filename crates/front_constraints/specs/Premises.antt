-- What the parts of a system with fronts and slots keep.
use Rattle.std.specs.Prelude.{◌≡◌, ℕ, ◌<◌, ◌≤◌, true, false, Option, MatchOption}
use Rattle.std.specs.Option.{option_map}
use Rattle.sparse_tables.specs.table_covers.tm_lattice.declared.lattices.Lattice as lattice
use Rattle.sparse_tables.specs.table_covers.tm_lattice.LatticeLaws.{IsOrder, IsJoin}
use Rattle.sparse_tables.specs.table_covers.Systems.{IsLawfulSystem}
use Rattle.sparse_tables.specs.Sparse.{Parts, AreParts, IsPlaced, IsLocal}
use Rattle.sparse_tables.specs.Fronts.{AreFilled}
use Rattle.front_constraints.specs.Systems.{SparseSystem, edges, from, parts_of, AreNumbered, AreCellsListed}

module _ {A M : Type 0} (values : lattice.Ghosts A M) (fits : A → Type 0) where
  -- what fits are values, and so are their joins, and their height is limited
  pub record AreValues (height : A → ℕ) (limit : ℕ) : Type 0 where
    pub value : (v : A) → fits v → values.is_value v
    pub joined : (v w : A) → fits v → fits w → fits (values.joined v w)
    pub within : (v : A) → fits v → height v ≤ limit
    pub climbs : (v w : A) → fits v → fits w → values.leq v w → height v ≤ height w
    pub strictly : (v w : A) → fits v → fits w → values.leq v w → height w ≤ height v → v ≡ w

  -- the rounding of what fits is a closure
  pub record IsRounding (outward : A → A) : Type 0 where
    pub rounded : (v : A) → fits v → fits (outward v)
    pub extensive : (v : A) → fits v → values.leq v (outward v)
    pub rising : (v w : A) → fits v → fits w → values.leq v w → values.leq (outward v) (outward w)
    pub idempotent : (v : A) → fits v → outward (outward v) ≡ outward v

  -- what is carried fits, and rises with what it is made of
  pub record IsCarrying (carry : A → A) : Type 0 where
    pub carried : (v : A) → fits v → fits (carry v)
    pub rising : (v w : A) → fits v → fits w → values.leq v w → values.leq (carry v) (carry w)

module _ {V F D L M N : Type 0} (states : lattice.Ghosts V L) (fronts : lattice.Ghosts F M) (cells : lattice.Ghosts D N)
    (suits : ℕ → V → Type 0) (fits_front : ℕ → F → Type 0) (fits_cell : ℕ → D → Type 0) (sys : SparseSystem V F D)
  where
    abbrev parts : Parts V F (Option D)
    parts = parts_of sys fronts cells

    -- A state is put together of a front and cells: it fits a node where its front does and each cell does. Rounding a
    -- state rounds each cell by itself.
    pub record AreMade : Type 0 where
      pub front_fits : (n : ℕ) (s : V) → suits n s → fits_front n (sys.front s)
      pub cell_fits : (n x : ℕ) (s : V) → suits n s
          → MatchOption (sys.cell s x) (sys.is_cell x ≡ false) (λ d. (sys.is_cell x ≡ true) × fits_cell x d)
      pub state_fits : (n : ℕ) (f : F) (c : ℕ → Option D) → fits_front n f
          → ((x : ℕ) → sys.is_cell x ≡ true → MatchOption (c x) ⊥ (fits_cell x)) → suits n (sys.state_of f c)
      pub front_is : (f : F) (c : ℕ → Option D) → sys.front (sys.state_of f c) ≡ f
      pub cell_is : (f : F) (c : ℕ → Option D) (x : ℕ) → sys.is_cell x ≡ true → sys.cell (sys.state_of f c) x ≡ c x
      pub scratch_fits : (x : ℕ) → sys.is_cell x ≡ true → MatchOption (sys.scratch x) ⊥ (fits_cell x)
      pub rounded : (n x : ℕ) (s : V) → suits n s
          → sys.cell (sys.equations.outward n s) x ≡ option_map (sys.outward n x) (sys.cell s x)

    -- All of it: states, fronts and cells are lattices, the equations are lawful, states are made of parts, cells are
    -- well placed, and variables and constraints have numbers.
    pub record IsSparseSystem : Type 0 where
      pub state_order : IsOrder states.is_value states.leq
      pub state_join : IsJoin states.is_value states.leq states.joined
      pub law : IsLawfulSystem states.is_value states.leq states.joined suits sys.equations
      pub front_order : IsOrder fronts.is_value fronts.leq
      pub front_join : IsJoin fronts.is_value fronts.leq fronts.joined
      pub cell_order : IsOrder cells.is_value cells.leq
      pub cell_join : IsJoin cells.is_value cells.leq cells.joined
      pub front_values : (n : ℕ) → AreValues fronts (fits_front n) sys.front_height (sys.front_limit n)
      pub cell_values : (x : ℕ) → AreValues cells (fits_cell x) sys.cell_height (sys.cell_limit x)
      pub roundings : (n x : ℕ) → IsRounding cells (fits_cell x) (sys.outward n x)
      pub carryings : (e x : ℕ) → e < edges sys → sys.is_cell x ≡ true → sys.place.carries e x ≡ true
          → IsCarrying cells (fits_cell x) (sys.carry e x)
      pub pieces : AreParts states suits sys.equations parts sys.place
      pub placed : IsPlaced states suits sys.equations parts sys.place
      pub filled : AreFilled states suits sys.equations parts sys.place sys.is_cell
      pub made : AreMade
      pub numbered : AreNumbered sys
      pub listed : AreCellsListed sys

    -- What was checked of an edge in one state says of each smaller one, with a front that is kept, that the edge looks
    -- nowhere but where it may.
    pub record AreLocal (keeps : ℕ → F → Type 0) (checks : ℕ → V → Type 0) : Type 0 where
      pub local : (e : ℕ) (s t d : V) → e < edges sys → suits (from sys e) s → suits (from sys e) t
          → suits (from sys e) d → states.leq s d → keeps (from sys e) (sys.front s) → checks e d
          → IsLocal states suits sys.equations parts sys.place e s t

    -- ## Which fronts and slots count

    -- the front fits the node and is kept
    abbrev pub IsKeptFront : (ℕ → F → Type 0) → ℕ → F → Type 0
    IsKeptFront keeps n f = fits_front n f × keeps n f

    -- the cell is one, what stands there fits it, and is its own rounding there
    abbrev pub IsRoundCell : ℕ → ℕ → D → Type 0
    IsRoundCell n x d = (sys.is_cell x ≡ true) × fits_cell x d × (sys.outward n x d ≡ d)
