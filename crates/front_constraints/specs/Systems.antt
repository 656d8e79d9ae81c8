-- Systems of equations whose states have a front and cells, where each cell is kept, and what the variables and
-- constraints are by their numbers.
use Rattle.std.specs.Prelude.{◌≡◌, ℕ, ◌<◌, Bool, true, false, ◌&&◌, List, length, slice_index_or, Option}
use Rattle.std.specs.Option.{option_map}
use Rattle.sparse_tables.specs.table_covers.tm_lattice.declared.lattices.Lattice as lattice
use Rattle.sparse_tables.specs.table_covers.tm_lattice.Tables.{IsBelow}
use Rattle.sparse_tables.specs.table_covers.Systems.{System, from_of, to_of}
use Rattle.sparse_tables.specs.Sparse.{Parts, Placing}

-- The front of a node, whether an edge has led on, and what stands in the slot of a node and a cell.
pub data Variable : Type 0 where
  front_at : ℕ → Variable
  open_at : ℕ → Variable
  slot_at : ℕ → ℕ → Variable

-- What stands at the entry comes there; an edge's row brings what it leads to; and a cell flows along an edge that does
-- not touch it, as the edge carries it.
pub data Rule : Type 0 where
  entered : Rule
  row : ℕ → Rule
  flow : ℕ → ℕ → Rule

-- How many variables and constraints there are, what each is, and the number of each variable.
pub record Numbers : Type 0 where
  pub variable_count : ℕ
  pub variable : ℕ → Variable
  pub number : Variable → ℕ
  pub constraint_count : ℕ
  pub rule : ℕ → Rule

-- The equations; the front of a state, its cells and which these are; the state of a front and cells, and what stands
-- in it at cells that do not count; how a cell is rounded at a node, and what an edge makes of one that it carries;
-- heights with their limits, of fronts by node and of cells by cell; where each cell is kept; all cells, and those at
-- which an edge may look and that it touches; and the numbers.
pub record SparseSystem (V F D : Type 0) : Type 0 where
  pub equations : System V
  pub front : V → F
  pub cell : V → ℕ → Option D
  pub is_cell : ℕ → Bool
  pub state_of : F → (ℕ → Option D) → V
  pub scratch : ℕ → Option D
  pub outward : ℕ → ℕ → D → D
  pub carry : ℕ → ℕ → D → D
  pub front_height : F → ℕ
  pub front_limit : ℕ → ℕ
  pub cell_height : D → ℕ
  pub cell_limit : ℕ → ℕ
  pub place : Placing
  pub cells : List ℕ
  pub looked : ℕ → List ℕ
  pub touched : ℕ → List ℕ
  pub numbers : Numbers

-- the list has the numbers for which the test is true, and no others
pub record AreListed (test : ℕ → Bool) (xs : List ℕ) : Type 0 where
  pub within : (j : ℕ) → j < length xs → test (slice_index_or xs j 0) ≡ true
  pub all : (x : ℕ) → test x ≡ true → (j : ℕ) × ((j < length xs) × (slice_index_or xs j 0 ≡ x))

module _ {V F D : Type 0} (sys : SparseSystem V F D) where
  abbrev pub nodes : ℕ
  nodes = sys.equations.node_count

  abbrev pub edges : ℕ
  edges = length sys.equations.links

  abbrev pub from : ℕ → ℕ
  from e = from_of sys.equations.links e

  abbrev pub to : ℕ → ℕ
  to e = to_of sys.equations.links e

  abbrev pub owns : ℕ → ℕ → Bool
  owns n x = sys.place.owns n x

  abbrev pub touches : ℕ → ℕ → Bool
  touches e x = sys.place.touches e x

  abbrev pub kept_at : ℕ → ℕ → ℕ
  kept_at n x = sys.place.kept_at n x

  abbrev pub is_looked : ℕ → ℕ → Bool
  is_looked e x = sys.is_cell x && sys.place.looks e x

  abbrev pub is_touched : ℕ → ℕ → Bool
  is_touched e x = sys.is_cell x && touches e x

  -- nodes have fronts, edges are open or not, and nodes have slots of the cells that they own
  abbrev pub IsVariable : Variable → Type 0
  IsVariable (front_at n) = n < nodes
  IsVariable (open_at e) = e < edges
  IsVariable (slot_at n x) = (n < nodes) × (sys.is_cell x ≡ true) × (owns n x ≡ true)

  -- a cell flows along an edge to where the end owns it, if the edge does not touch it
  abbrev pub IsRule : Rule → Type 0
  IsRule entered = Unit {0}
  IsRule (row e) = e < edges
  IsRule (flow e x) = (e < edges) × (sys.is_cell x ≡ true) × (owns (to e) x ≡ true) × (touches e x ≡ false)

  -- each variable has a number and each rule too, and no number has anything else
  pub record AreNumbered : Type 0 where
    pub number : (v : Variable) → IsVariable v
        → (sys.numbers.number v < sys.numbers.variable_count) × (sys.numbers.variable (sys.numbers.number v) ≡ v)
    pub variable : (i : ℕ) → i < sys.numbers.variable_count → IsVariable (sys.numbers.variable i)
    pub rules : (r : Rule) → IsRule r
        → (k : ℕ) × ((k < sys.numbers.constraint_count) × (sys.numbers.rule k ≡ r))
    pub rule : (k : ℕ) → k < sys.numbers.constraint_count → IsRule (sys.numbers.rule k)

  -- the lists have the cells that they should
  pub record AreCellsListed : Type 0 where
    pub cells : AreListed sys.is_cell sys.cells
    pub looked : (e : ℕ) → e < edges → AreListed (is_looked e) (sys.looked e)
    pub touched : (e : ℕ) → e < edges → AreListed (is_touched e) (sys.touched e)

  -- the parts of states, ordered as fronts and as cells are
  abbrev pub parts_of : {M N : Type 0} → lattice.Ghosts F M → lattice.Ghosts D N → Parts V F (Option D)
  parts_of fronts cells = record {
    front = sys.front;
    cell = sys.cell;
    front_leq = fronts.leq;
    cell_leq = IsBelow cells.leq;
    carry = λ e x. option_map (sys.carry e x);
  }
