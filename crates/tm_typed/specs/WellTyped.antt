-- Well-formed typed expressions: what the layers above may rely on.
use Rattle.std.specs.Prelude.{◌≡◌, ℕ, ℤ, pos, slice_get, length, ◌<◌, ◌≤◌, ◌++◌, Bool, true, List, [], ◌∷◌, Option}
use Rattle.std.specs.Prelude.{Some, None, Result, Ok, Err}
use Rattle.tm_trees.specs.tm_cint.declared.int_types.IntType.{IntType}
use Rattle.tm_trees.specs.tm_cint.declared.int_types.IntType.TheVariants as Ints
use Rattle.tm_trees.specs.tm_cint.declared.operators.BinOp.{BinOp}
use Rattle.tm_trees.specs.tm_cint.IntTypes.{IsIn}
use Rattle.tm_trees.specs.tm_cint.Operators.{result_type}
use Rattle.tm_trees.specs.tm_terms.declared.tokens.Name.{Name}
use Rattle.tm_trees.specs.tm_terms.declared.refusals.Refusal.{Refusal}
use Rattle.tm_typed.specs.declared.types.Qualified.{Qualified}
use Rattle.tm_typed.specs.declared.types.CType.TheVariants as Types
use Rattle.tm_typed.specs.declared.types.TypeEntry.{TypeEntry}
use Rattle.tm_typed.specs.declared.types.Scalar.{Scalar}
use Rattle.tm_typed.specs.declared.types.Scalar.TheVariants as Scalars
use Rattle.tm_typed.specs.declared.scopes.ObjectNumber.{ObjectNumber}
use Rattle.tm_typed.specs.declared.scopes.Member.{Member}
use Rattle.tm_typed.specs.declared.scopes.Named.TheVariants as Names
use Rattle.tm_typed.specs.declared.operands.Fold.{Fold}
use Rattle.tm_typed.specs.declared.operands.Fold.TheVariants as Folds
use Rattle.tm_typed.specs.declared.operands.Sort.{Sort}
use Rattle.tm_typed.specs.declared.operands.Sort.TheVariants as Sorts
use Rattle.tm_typed.specs.Scopes.{Scope, Function, ctype_of, size_of, structure, cells_of, is_complete, named}
use Rattle.tm_typed.specs.Scopes.{member_of}
use Rattle.tm_typed.specs.TypedTrees.{RvalueTree, a_constant, a_folded, a_null, a_load, an_address, a_structure}
use Rattle.tm_typed.specs.TypedTrees.{the_same, a_unary, a_binary, a_comparison_of_pointers, a_move, a_not, an_and}
use Rattle.tm_typed.specs.TypedTrees.{an_or, a_choice, an_assignment, a_compound, a_compound_move, a_unit_step}
use Rattle.tm_typed.specs.TypedTrees.{a_pointer_step, a_function_call, an_input_value, a_probe, a_comma, a_conversion}
use Rattle.tm_typed.specs.TypedTrees.{a_discard, LvalueTree, an_object, an_element, a_pointed_element, a_pointed}
use Rattle.tm_typed.specs.TypedTrees.{an_arrow, a_part, RvalueTrees, no_rvalues, and_rvalue, Rated, OperandTree}
use Rattle.tm_typed.specs.TypedTrees.{an_lvalue, a_value}
use Rattle.tm_typed.specs.Operands.{scalar_of, kept_sort}
use Rattle.tm_typed.specs.Rules.{FitsRight}

-- what a value is to a run: a number of a type, a pointer, or nothing
pub data ValueKind : Type 0 where
  a_number : IntType → ValueKind
  a_pointer : ValueKind
  no_value : ValueKind

abbrev pub kind_of_scalar : Scalar → ValueKind
kind_of_scalar (Scalars.Int t) = a_number t
kind_of_scalar (Scalars.Pointer c) = a_pointer

abbrev pub kind_of : Sort → ValueKind
kind_of (Sorts.Integer t f) = a_number t
kind_of (Sorts.Pointer q) = a_pointer
kind_of Sorts.Null = a_pointer
kind_of (Sorts.Structure k) = no_value
kind_of Sorts.Nothing = no_value

-- a scalar, as a condition has to be
abbrev pub IsCondition : ValueKind → Type 0
IsCondition (a_number t) = Unit {0}
IsCondition a_pointer = Unit {0}
IsCondition no_value = ⊥

-- Where an expression stands: the tables, the types of the objects, and how many mutexes there are.
pub record Context : Type 0 where
  pub scope : Scope
  pub type_of : ObjectNumber → Option ℕ
  pub mutexes : ℕ

-- the structure k has a part of the type n at the cell c
pub record HasPart (scope : Scope) (k c n : ℕ) : Type 0 where
  pub name : Name
  pub member : Member
  pub found : member_of scope k name ≡ Some member
  pub cell : member.part.cell ≡ c
  pub type : member.part.of.number ≡ n

abbrev mutual
  -- The tree gives a value of this kind, each operator has operands of the type in which it works, and all that it
  -- names exists.
  pub IsRvalue : Context → ValueKind → RvalueTree → Type 0
  IsRvalue w k (a_constant t z p) = (k ≡ a_number t) × IsIn t z
  IsRvalue w k (a_folded z e) = (k ≡ a_number Ints.Int) × IsIn Ints.Int z × IsRvalue w (a_number Ints.Int) e
  IsRvalue w k (a_null p) = k ≡ a_pointer
  IsRvalue w k (a_load s v l) = (n : ℕ) × (scalar_of w.scope n ≡ Some s) × (k ≡ kind_of_scalar s) × IsLvalue w n l
  IsRvalue w k (an_address l p) = (n : ℕ) × (k ≡ a_pointer) × IsLvalue w n l
  IsRvalue w k (a_structure l) = (n : ℕ) × (k ≡ no_value) × IsLvalue w n l
  IsRvalue w k (the_same e p) = IsRvalue w k e
  IsRvalue w k (a_unary o t e p) = (k ≡ a_number t) × IsRvalue w (a_number t) e
  IsRvalue w k (a_binary op t l r p) = (u : IntType) × (k ≡ a_number (result_type op t)) × FitsRight op t u
      × IsRvalue w (a_number t) l × IsRvalue w (a_number u) r
  IsRvalue w k (a_comparison_of_pointers b l r p) = (k ≡ a_number Ints.Int) × IsRvalue w a_pointer l
      × IsRvalue w a_pointer r
  IsRvalue w k (a_move m c f e i p) = (t : IntType) × (k ≡ a_pointer) × IsRvalue w a_pointer e
      × IsRvalue w (a_number t) i
  IsRvalue w k (a_not e p) = (j : ValueKind) × (k ≡ a_number Ints.Int) × IsCondition j × IsRvalue w j e
  IsRvalue w k (an_and l r p) = (i j : ValueKind) × (k ≡ a_number Ints.Int) × IsCondition i × IsCondition j
      × IsRvalue w i l × IsRvalue w j r
  IsRvalue w k (an_or l r p) = (i j : ValueKind) × (k ≡ a_number Ints.Int) × IsCondition i × IsCondition j
      × IsRvalue w i l × IsRvalue w j r
  IsRvalue w k (a_choice c x y p) = (j : ValueKind) × IsCondition j × IsRvalue w j c × IsRvalue w k x × IsRvalue w k y
  IsRvalue w k (an_assignment s l e p) = (n : ℕ) × (scalar_of w.scope n ≡ Some s) × (k ≡ kind_of_scalar s)
      × IsLvalue w n l × IsRvalue w k e
  IsRvalue w k (a_compound o c t v l e p) = (n : ℕ) × (u : IntType) × (scalar_of w.scope n ≡ Some (Scalars.Int c))
      × (k ≡ a_number c) × FitsRight o t u × IsLvalue w n l × IsRvalue w (a_number u) e
  IsRvalue w k (a_compound_move m c class l e p) = (n : ℕ) × (t : IntType)
      × (scalar_of w.scope n ≡ Some (Scalars.Pointer class)) × (k ≡ a_pointer) × IsLvalue w n l
      × IsRvalue w (a_number t) e
  IsRvalue w k (a_unit_step s c t v l p) = (n : ℕ) × (scalar_of w.scope n ≡ Some (Scalars.Int c)) × (k ≡ a_number c)
      × IsLvalue w n l
  IsRvalue w k (a_pointer_step s c class l p) = (n : ℕ) × (scalar_of w.scope n ≡ Some (Scalars.Pointer class))
      × (k ≡ a_pointer) × IsLvalue w n l
  IsRvalue w k (a_function_call f s es p) = (g : Function) × (slice_get w.scope.functions f ≡ Some g)
      × (k ≡ kind_of (kept_sort (ctype_of w.scope g.result))) × AreArguments w g.parameters es
  IsRvalue w k (an_input_value low high p) = (k ≡ a_number Ints.Int) × IsIn Ints.Int low × IsIn Ints.Int high
  IsRvalue w k (a_probe m p) = (k ≡ a_number Ints.Int) × (m < w.mutexes)
  IsRvalue w k (a_comma l r p) = (j : ValueKind) × IsRvalue w j l × IsRvalue w k r
  IsRvalue w k (a_conversion f t e p) = (k ≡ a_number t) × IsRvalue w (a_number f) e
  IsRvalue w k (a_discard e p) = (j : ValueKind) × (k ≡ no_value) × IsRvalue w j e

  -- the tree designates an object, or a part of one, of this type
  pub IsLvalue : Context → ℕ → LvalueTree → Type 0
  IsLvalue w n (an_object o p) = w.type_of o ≡ Some n
  IsLvalue w n (an_element l i m c p) = (a : ℕ) × (t : IntType) × (ctype_of w.scope a ≡ Types.Array n m)
      × (is_complete w.scope n ≡ true) × (c ≡ cells_of w.scope n) × IsLvalue w a l × IsRvalue w (a_number t) i
  IsLvalue w n (a_pointed_element e i c m p) = (t : IntType) × (m ≡ n) × (is_complete w.scope n ≡ true)
      × (c ≡ cells_of w.scope n) × IsRvalue w a_pointer e × IsRvalue w (a_number t) i
  IsLvalue w n (a_pointed e m p) = (m ≡ n) × (is_complete w.scope n ≡ true) × IsRvalue w a_pointer e
  IsLvalue w n (an_arrow e m c p) = (k : ℕ) × (ctype_of w.scope m ≡ Types.Struct k) × HasPart w.scope k c n
      × IsRvalue w a_pointer e
  IsLvalue w n (a_part l c p) = (m k : ℕ) × (ctype_of w.scope m ≡ Types.Struct k) × HasPart w.scope k c n
      × IsLvalue w m l

  -- the trees give values of the cells of these types, as many as there are
  pub AreArguments : Context → List ℕ → RvalueTrees → Type 0
  AreArguments w [] no_rvalues = Unit {0}
  AreArguments w (n ∷ ns) (and_rvalue e es) = (s : Scalar) × (scalar_of w.scope n ≡ Some s)
      × IsRvalue w (kind_of_scalar s) e × AreArguments w ns es
  AreArguments w [] (and_rvalue e es) = ⊥
  AreArguments w (n ∷ ns) no_rvalues = ⊥

-- a folded value lies in its type
abbrev pub IsFold : IntType → Fold → Type 0
IsFold t (Folds.Value z) = IsIn t z
IsFold t f = Unit {0}

abbrev pub IsSort : Sort → Type 0
IsSort (Sorts.Integer t f) = IsFold t f
IsSort s = Unit {0}

abbrev pub IsRated : Context → Rated → Type 0
IsRated w v = IsRvalue w (kind_of v.sort) v.value × IsSort v.sort

abbrev pub IsOperand : Context → OperandTree → Type 0
IsOperand w (an_lvalue l q) = IsLvalue w q.number l
IsOperand w (a_value v) = IsRated w v

-- what holds of an answer that is no refusal
abbrev pub OnAnswer : {A : Type 0} → (A → Type 0) → Result A Refusal → Type 0
OnAnswer P (Err r) = Unit {0}
OnAnswer P (Ok a) = P a

-- The visible names name what there is, arrays have elements whose size is known, and sizes and enumeration constants
-- lie in their types.
pub record IsLawful (w : Context) : Type 0 where
  pub objects : (n : Name) (o : ObjectNumber) (q : Qualified) → named w.scope n ≡ Some (Names.Object o q)
      → w.type_of o ≡ Some q.number
  pub mutexes : (n : Name) (m : ℕ) → named w.scope n ≡ Some (Names.Mutex m) → m < w.mutexes
  pub enumerators : (n : Name) (z : ℤ) → named w.scope n ≡ Some (Names.Enumerator z) → IsIn Ints.Int z
  pub elements : (n e m : ℕ) → ctype_of w.scope n ≡ Types.Array e m → is_complete w.scope e ≡ true
  pub sizes : (n : ℕ) → IsIn Ints.UInt (pos (size_of w.scope n))
  pub structure_sizes : (k : ℕ) → IsIn Ints.UInt (pos (structure w.scope k).size)

-- a function of the same type
pub record SameFunction (f g : Function) : Type 0 where
  pub result : f.result ≡ g.result
  pub parameters : f.parameters ≡ g.parameters

-- More is declared: the types so far stay, and so do complete structures, functions, whose results have types of the
-- table, objects and mutexes.
pub record Extends (v w : Context) : Type 0 where
  pub more : List TypeEntry
  pub types : w.scope.types ≡ v.scope.types ++ more
  pub structures : (k : ℕ) → (structure v.scope k).complete ≡ true → structure w.scope k ≡ structure v.scope k
  pub functions : (n : ℕ) (f : Function) → slice_get v.scope.functions n ≡ Some f → (g : Function)
      × (slice_get w.scope.functions n ≡ Some g) × SameFunction f g
  pub results : (n : ℕ) (f : Function) → slice_get v.scope.functions n ≡ Some f → f.result < length v.scope.types
  pub objects : (o : ObjectNumber) (n : ℕ) → v.type_of o ≡ Some n → w.type_of o ≡ Some n
  pub mutexes : v.mutexes ≤ w.mutexes
