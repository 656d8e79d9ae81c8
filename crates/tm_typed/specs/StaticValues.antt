-- Which typed expressions may stand in the initialiser of an object of static storage (C99 6.6, 6.7.8), and what they
-- are before the program runs: a folded integer, a null pointer, or the address of a cell of such an object.
use Rattle.std.specs.Prelude.{ℕ, zero, suc, ◌+◌, ◌-◌, ◌*◌, ◌%◌, ℤ, pos, negsuc, ◌+ℤ◌, ◌-ℤ◌, ◌*ℤ◌, int_le, Bool, true}
use Rattle.std.specs.Prelude.{false, cond, ◌&&◌, ◌||◌, ◌==◌, nat_le, nat_lt, List, [], ◌∷◌, length, Option, Some, None}
use Rattle.tm_trees.specs.tm_cint.declared.int_types.IntType.{IntType}
use Rattle.tm_trees.specs.tm_cint.Conversions.{converted_value}
use Rattle.tm_typed.specs.declared.types.CType.{CType}
use Rattle.tm_typed.specs.declared.types.CType.TheVariants as Types
use Rattle.tm_typed.specs.declared.types.TypeEntry.{TypeEntry}
use Rattle.tm_typed.specs.declared.types.Scalar.{Scalar}
use Rattle.tm_typed.specs.declared.types.Scalar.TheVariants as Scalars
use Rattle.tm_typed.specs.declared.scopes.ObjectNumber.{ObjectNumber}
use Rattle.tm_typed.specs.declared.scopes.ObjectNumber.TheVariants as Objects
use Rattle.tm_typed.specs.declared.scopes.Member.{Member}
use Rattle.tm_typed.specs.declared.files.StaticValue.{StaticValue}
use Rattle.tm_typed.specs.declared.files.StaticValue.TheVariants as StaticValues
use Rattle.tm_typed.specs.Types.{is_same_int}
use Rattle.tm_typed.specs.Scopes.{Scope, or_else, entry, ctype_of, cells_of, structure}
use Rattle.tm_typed.specs.TypeRows.{clipped}
use Rattle.tm_typed.specs.States.{State, static_type}
use Rattle.tm_typed.specs.TypedTrees.{RvalueTree, a_constant, a_folded, a_null, an_address, the_same, a_move}
use Rattle.tm_typed.specs.TypedTrees.{a_conversion, LvalueTree, an_object, an_element, a_pointed_element, a_pointed}
use Rattle.tm_typed.specs.TypedTrees.{an_arrow, a_part}

-- ## Which scalars stand in an object

-- where a cell of a type is found: it is this scalar, or a cell of a type that the type is made of, or there is none
pub data Found : Type 0 where
  a_scalar : Scalar → Found
  inside : ℕ → ℕ → Found
  nowhere : Found

-- the last member that does not begin behind the cell
abbrev pub part_at : ℕ → List Member → Option Member
part_at c [] = None
part_at c (m ∷ ms) = or_else (part_at c ms) (cond (nat_le m.part.cell c) (Some m) None)

abbrev pub inside_part : ℕ → Option Member → Found
inside_part c None = nowhere
inside_part c (Some m) = inside m.part.of.number (c - m.part.cell)

abbrev pub look_in : Scope → TypeEntry → CType → ℕ → Found
look_in scope e (Types.Int t) c = cond (c == 0) (a_scalar (Scalars.Int t)) nowhere
look_in scope e (Types.Pointer q) c = cond (c == 0) (a_scalar (Scalars.Pointer e.class)) nowhere
look_in scope e (Types.Array n l) c = cond (nat_lt c (l * cells_of scope n)) (inside n (c % cells_of scope n)) nowhere
look_in scope e (Types.Struct k) c = inside_part c (part_at c (structure scope k).members)
look_in scope e Types.Void c = nowhere

-- the scalar type of a cell; no type has more types one inside the other than there are
unfoldable pub scalar_in : Scope → ℕ → Found → Option Scalar
scalar_in scope zero f = None
scalar_in scope (suc depth) nowhere = None
scalar_in scope (suc depth) (a_scalar t) = Some t
scalar_in scope (suc depth) (inside n c) = scalar_in scope depth (look_in scope (entry scope n) (ctype_of scope n) c)

abbrev pub scalar_at : Scope → ℕ → ℕ → Option Scalar
scalar_at scope n c = scalar_in scope (suc (suc (length scope.types))) (inside n c)

abbrev pub is_same_scalar : Option Scalar → Option Scalar → Bool
is_same_scalar (Some (Scalars.Int t)) (Some (Scalars.Int u)) = is_same_int t u
is_same_scalar (Some (Scalars.Pointer k)) (Some (Scalars.Pointer l)) = k == l
is_same_scalar _ _ = false

-- the first cells of a type are those of another from a cell on
unfoldable pub stand_from : Scope → ℕ → ℕ → ℕ → ℕ → Bool
stand_from scope n c m zero = true
stand_from scope n c m (suc k) =
    is_same_scalar (scalar_at scope n (c + k)) (scalar_at scope m k) && stand_from scope n c m k

-- all cells of the type m stand in the type n from the cell c on
abbrev pub stands_at : Scope → ℕ → ℕ → ℕ → Bool
stands_at scope n c m = stand_from scope n c m (cells_of scope m)

-- ## Addresses, each step of which stays inside its object

-- an index that some object may have
abbrev pub is_near : ℤ → Bool
is_near z = int_le (negsuc 65536) z && int_le z (pos 65537)

-- a cell of an object of this size, or the one behind its last; more cells than a program may have are not judged
abbrev pub cell_inside : ℕ → ℤ → Option ℕ
cell_inside size (pos c) = cond (nat_le c size || nat_lt 65536 size) (Some (clipped c)) None
cell_inside size (negsuc c) = None

abbrev pub address_at : ℕ → Option ℕ → Option StaticValue
address_at o None = None
address_at o (Some c) = Some (StaticValues.Address o c)

abbrev pub size_of_static : State → ℕ → ℕ
size_of_static s o = cells_of s.scope (static_type s o).number

abbrev pub offset : Bool → ℕ → ℕ → ℤ → ℤ
offset minus c cells z = cond minus (pos c -ℤ (pos cells *ℤ z)) (pos c +ℤ (pos cells *ℤ z))

-- an address moved by z elements of `cells` cells (C99 6.5.6)
abbrev pub moved : State → Bool → ℕ → Option StaticValue → Option StaticValue → Option StaticValue
moved s minus cells (Some (StaticValues.Address o c)) (Some (StaticValues.Number z)) =
    cond (is_near z) (address_at o (cell_inside (size_of_static s o) (offset minus c cells z))) None
moved s minus cells a z = None

-- the cell at some cells behind an address
abbrev pub behind : ℕ → Option StaticValue → Option StaticValue
behind cells (Some (StaticValues.Address o c)) = Some (StaticValues.Address o (clipped (c + cells)))
behind cells a = None

-- an element of an array lvalue of n elements
abbrev pub element_of : ℕ → ℕ → Option StaticValue → Option StaticValue → Option StaticValue
element_of n cells a (Some (StaticValues.Number (pos i))) = cond (nat_lt i n) (behind (cells * i) a) None
element_of n cells a z = None

-- what a pointer to the type m points to: an object that is there
abbrev pub pointed_to : State → ℕ → Option StaticValue → Option StaticValue
pointed_to s m (Some (StaticValues.Address o c)) =
    cond (stands_at s.scope (static_type s o).number c m) (Some (StaticValues.Address o c)) None
pointed_to s m a = None

abbrev pub object_address : ObjectNumber → Option StaticValue
object_address (Objects.Static k) = Some (StaticValues.Address k 0)
object_address (Objects.Local k) = None

-- ## Values

abbrev pub as_converted : IntType → Option StaticValue → Option StaticValue
as_converted t (Some (StaticValues.Number z)) = Some (StaticValues.Number (converted_value z t))
as_converted t v = None

abbrev mutual
  -- the value of a constant expression, if it is one
  pub static_value : State → RvalueTree → Option StaticValue
  static_value s (a_constant t z p) = Some (StaticValues.Number z)
  static_value s (a_folded z e) = Some (StaticValues.Number z)
  static_value s (a_null p) = Some StaticValues.Null
  static_value s (a_conversion from to e p) = as_converted to (static_value s e)
  static_value s (the_same e p) = static_value s e
  static_value s (an_address l p) = static_cell s l
  static_value s (a_move minus cells first e i p) = moved s minus cells (static_value s e) (static_value s i)
  static_value s _ = None

  -- the address of the object that an lvalue designates
  pub static_cell : State → LvalueTree → Option StaticValue
  static_cell s (an_object o p) = object_address o
  static_cell s (an_element l i n cells p) = element_of n cells (static_cell s l) (static_value s i)
  static_cell s (a_pointed_element e i cells m p) =
      pointed_to s m (moved s false cells (static_value s e) (static_value s i))
  static_cell s (a_pointed e m p) = pointed_to s m (static_value s e)
  static_cell s (an_arrow e m c p) = behind c (pointed_to s m (static_value s e))
  static_cell s (a_part l c p) = behind c (static_cell s l)
