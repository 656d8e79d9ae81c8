-- What an edge does, as far as the rows know of it: numbers of temporaries, of mutexes and of abstract cells,
-- constants, types, and for an access the spots to which its address may lead.
use Rattle.std.specs.Prelude.{◌≡◌, ℕ, Bool, List, Option, Some}
use Rattle.tm_cint.specs.declared.int_types.IntType.{IntType}
use Rattle.tm_cint.specs.declared.operators.BinOp.{BinOp}
use Rattle.interfere_set.specs.pointer_dom.Values.{Values, IsValues}
use Rattle.interfere_set.specs.Stores.{Reader}

-- a concrete cell by its object and its offset there, and the number of its abstract cell
pub record Spot : Type 0 where
  pub object : ℕ
  pub offset : ℕ
  pub cell : ℕ

-- what gives a temporary without a look at memory
pub data Calculation : Type 0 where
  -- a number, null, the address of an object, or any value of a type
  constant : (value : Values) → Calculation
  copied : (source : ℕ) → Calculation
  negated : (type : IntType) (source : ℕ) → Calculation
  complemented : (type : IntType) (source : ℕ) → Calculation
  operated : (op : BinOp) (type : IntType) (left right : ℕ) → Calculation
  converted : (type : IntType) (source : ℕ) → Calculation
  -- `==` of pointers, or `!=`
  compared : (equal : Bool) (left right : ℕ) → Calculation
  -- the part of an object this many cells on
  part : (cells source : ℕ) → Calculation
  -- the element of an array of so many elements of so many cells
  element : (count cells source index : ℕ) → Calculation
  -- forward by a number of elements of so many cells, or back
  moved : (forward : Bool) (cells source count : ℕ) → Calculation
  -- where objects are alive and the cells of the pointed type stand
  dereferenced : (alive : ℕ → Bool) (stands : ℕ → ℕ → Bool) (source : ℕ) → Calculation

-- a side of a comparison: a temporary, or 0 or null
pub data Side : Type 0 where
  temporary : (number : ℕ) → Side
  fixed : (value : Values) → Side

-- what refines temporaries
pub data Filter : Type 0 where
  usable : (source : ℕ) → Filter
  numbers_compare : (op : BinOp) (left right : Side) → Filter
  pointers_compare : (equal : Bool) (left right : Side) → Filter

-- An access knows the spots of the accessed type whose object is static or the task's own; a clearing knows what the
-- cells of its object become; a load of a volatile object knows the range of the type. The two copies of an edge that
-- probes are told apart by the answer.
pub data Action : Type 0 where
  skips : Action
  gives : (target : ℕ) (calculation : Calculation) → Action
  refines : (filter : Filter) → Action
  loads : (spots : List Spot) (target address : ℕ) → Action
  loads_any : (spots : List Spot) (target address : ℕ) (range : Values) → Action
  stores : (spots : List Spot) (address source : ℕ) → Action
  clears : (cleared : ℕ → Option Values) → Action
  locks : (mutex : ℕ) → Action
  unlocks : (mutex : ℕ) → Action
  yields : Action
  probes : (mutex target : ℕ) (answer : Bool) → Action

-- the constants of an action are sets of values
pub data IsCalculation : Calculation → Type 0 where
  constant_is : {value : Values} → IsValues value → IsCalculation (constant value)
  copied_is : {source : ℕ} → IsCalculation (copied source)
  negated_is : {t : IntType} {source : ℕ} → IsCalculation (negated t source)
  complemented_is : {t : IntType} {source : ℕ} → IsCalculation (complemented t source)
  operated_is : {op : BinOp} {t : IntType} {left right : ℕ} → IsCalculation (operated op t left right)
  converted_is : {t : IntType} {source : ℕ} → IsCalculation (converted t source)
  compared_is : {equal : Bool} {left right : ℕ} → IsCalculation (compared equal left right)
  part_is : {cells source : ℕ} → IsCalculation (part cells source)
  element_is : {count cells source index : ℕ} → IsCalculation (element count cells source index)
  moved_is : {forward : Bool} {cells source count : ℕ} → IsCalculation (moved forward cells source count)
  dereferenced_is : {alive : ℕ → Bool} {stands : ℕ → ℕ → Bool} {source : ℕ}
      → IsCalculation (dereferenced alive stands source)

pub data IsSide : Side → Type 0 where
  temporary_is : {number : ℕ} → IsSide (temporary number)
  fixed_is : {value : Values} → IsValues value → IsSide (fixed value)

pub data IsFilter : Filter → Type 0 where
  usable_is : {source : ℕ} → IsFilter (usable source)
  numbers_compare_is : {op : BinOp} {left right : Side} → IsSide left → IsSide right
      → IsFilter (numbers_compare op left right)
  pointers_compare_is : {equal : Bool} {left right : Side} → IsSide left → IsSide right
      → IsFilter (pointers_compare equal left right)

pub data IsAction : Action → Type 0 where
  skips_is : IsAction skips
  gives_is : {target : ℕ} {calculation : Calculation} → IsCalculation calculation → IsAction (gives target calculation)
  refines_is : {filter : Filter} → IsFilter filter → IsAction (refines filter)
  loads_is : {spots : List Spot} {target address : ℕ} → IsAction (loads spots target address)
  loads_any_is : {spots : List Spot} {target address : ℕ} {range : Values} → IsValues range
      → IsAction (loads_any spots target address range)
  stores_is : {spots : List Spot} {address source : ℕ} → IsAction (stores spots address source)
  clears_is : {cleared : ℕ → Option Values} → ((x : ℕ) (v : Values) → cleared x ≡ Some v → IsValues v)
      → IsAction (clears cleared)
  locks_is : {m : ℕ} → IsAction (locks m)
  unlocks_is : {m : ℕ} → IsAction (unlocks m)
  yields_is : IsAction yields
  probes_is : {m target : ℕ} {answer : Bool} → IsAction (probes m target answer)

-- the task at the node that an edge leaves, and what the program says of cells and temporaries
pub record Around : Type 0 where
  pub reader : Reader
  pub is_shared : ℕ → Bool
  pub is_smashed : ℕ → Bool
  -- the temporaries that are live where the edge leads
  pub is_live : ℕ → Bool
