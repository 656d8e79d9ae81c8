-- Expressions as plain trees, apart from boxes and vectors.
use Rattle.std.specs.Prelude.{ℕ, ℤ, List, [], ◌∷◌, suc, max}
use Rattle.tm_terms.specs.declared.places.Place.{Place}
use Rattle.tm_terms.specs.declared.tokens.Name.{Name}
use Rattle.tm_terms.specs.declared.tokens.IntConstant.{IntConstant}
use Rattle.tm_terms.specs.declared.types_named.Spec.{Spec}
use Rattle.tm_terms.specs.declared.types_named.PointerWord.{PointerWord}
use Rattle.tm_terms.specs.declared.types_named.TypeName.{TypeName}
use Rattle.tm_terms.specs.declared.exprs.Binary.{Binary}
use Rattle.tm_terms.specs.declared.exprs.Binary.TheVariants.{Multiply, Divide, Remainder, Add, Subtract, ShiftLeft}
use Rattle.tm_terms.specs.declared.exprs.Binary.TheVariants.{ShiftRight, Less, Greater, LessEqual, GreaterEqual, Equal}
use Rattle.tm_terms.specs.declared.exprs.Binary.TheVariants.{NotEqual, BitAnd, BitXor, BitOr, And, Or}
use Rattle.tm_terms.specs.declared.exprs.Infix.{Infix}
use Rattle.tm_terms.specs.declared.exprs.Infix.TheVariants.{Comma, Assign, AssignBy, Binary as ByBinary}
use Rattle.tm_terms.specs.declared.exprs.Prefix.{Prefix}
use Rattle.tm_terms.specs.declared.exprs.Prefix.TheVariants.{Increment, Decrement, Address, Dereference, Plus, Minus}
use Rattle.tm_terms.specs.declared.exprs.Prefix.TheVariants.{Complement, Not, Sizeof}
use Rattle.tm_terms.specs.declared.exprs.Postfix.{Postfix}
use Rattle.tm_terms.specs.declared.exprs.Access.{Access}
use Rattle.tm_terms.specs.declared.exprs.Level.{Level}
use Rattle.tm_terms.specs.declared.exprs.Level.TheVariants as Levels
use Rattle.tm_terms.specs.declared.exprs.Expr.{Expr, Row_of-Expr, end_of-Expr, more_of-Expr}
use Rattle.tm_terms.specs.declared.exprs.Expr.TheVariants as Form

-- a type name: its specifiers and the tokens of its pointer part
pub record TypeTree : Type 0 where
  pub specs : List Spec
  pub pointers : List PointerWord

-- An expression. Each form has the place of the token that names it.
mutual
  pub data Tree : Type 0 where
    a_name : Name → Place → Tree
    an_integer : IntConstant → Place → Tree
    a_character : ℤ → Place → Tree
    in_parentheses : Tree → Tree
    an_input : Tree → Tree → Place → Tree
    an_islocked : Name → Place → Place → Tree
    a_call : Name → Arguments → Place → Tree
    a_prefix : Prefix → Tree → Place → Tree
    a_sizeof_type : TypeTree → Place → Tree
    a_cast : TypeTree → Tree → Place → Tree
    an_infix : Tree → Infix → Place → Tree → Tree
    a_conditional : Tree → Place → Tree → Tree → Tree
    a_subscript : Tree → Place → Tree → Tree
    a_member : Tree → Access → Place → Name → Place → Tree
    a_postfix : Tree → Postfix → Place → Tree

  -- the arguments of a call
  pub data Arguments : Type 0 where
    no_arguments : Arguments
    and_argument : Tree → Arguments → Arguments

-- the levels as numbers, loosest first
abbrev pub rank : Level → ℕ
rank Levels.Comma = 0
rank Levels.Assignment = 1
rank Levels.Condition = 2
rank Levels.Or = 3
rank Levels.And = 4
rank Levels.BitOr = 5
rank Levels.BitXor = 6
rank Levels.BitAnd = 7
rank Levels.Equality = 8
rank Levels.Relation = 9
rank Levels.Shift = 10
rank Levels.Sum = 11
rank Levels.Product = 12
rank Levels.Cast = 13
rank Levels.Unary = 14
rank Levels.Postfix = 15
rank Levels.Primary = 16

-- the level of an operator that groups to the left (C99 6.5.5 to 6.5.14)
abbrev pub binary_level : Binary → ℕ
binary_level Or = rank Levels.Or
binary_level And = rank Levels.And
binary_level BitOr = rank Levels.BitOr
binary_level BitXor = rank Levels.BitXor
binary_level BitAnd = rank Levels.BitAnd
binary_level Equal = rank Levels.Equality
binary_level NotEqual = rank Levels.Equality
binary_level Less = rank Levels.Relation
binary_level Greater = rank Levels.Relation
binary_level LessEqual = rank Levels.Relation
binary_level GreaterEqual = rank Levels.Relation
binary_level ShiftLeft = rank Levels.Shift
binary_level ShiftRight = rank Levels.Shift
binary_level Add = rank Levels.Sum
binary_level Subtract = rank Levels.Sum
binary_level Multiply = rank Levels.Product
binary_level Divide = rank Levels.Product
binary_level Remainder = rank Levels.Product

-- the level of an expression with this operator between its operands
abbrev pub infix_level : Infix → ℕ
infix_level Comma = rank Levels.Comma
infix_level Assign = rank Levels.Assignment
infix_level (AssignBy o) = rank Levels.Assignment
infix_level (ByBinary o) = binary_level o

-- the least level of the left operand: an assignment has a unary expression there (C99 6.5.16)
abbrev pub left_level : Infix → ℕ
left_level Comma = rank Levels.Comma
left_level Assign = rank Levels.Unary
left_level (AssignBy o) = rank Levels.Unary
left_level (ByBinary o) = binary_level o

-- the least level of the right operand: assignments group to the right, all others to the left
abbrev pub right_level : Infix → ℕ
right_level Comma = rank Levels.Assignment
right_level Assign = rank Levels.Assignment
right_level (AssignBy o) = rank Levels.Assignment
right_level (ByBinary o) = suc (binary_level o)

-- the least level of the operand of a prefix operator (C99 6.5.3)
abbrev pub operand_level : Prefix → ℕ
operand_level Increment = rank Levels.Unary
operand_level Decrement = rank Levels.Unary
operand_level Address = rank Levels.Cast
operand_level Dereference = rank Levels.Cast
operand_level Plus = rank Levels.Cast
operand_level Minus = rank Levels.Cast
operand_level Complement = rank Levels.Cast
operand_level Not = rank Levels.Cast
operand_level Sizeof = rank Levels.Unary

-- the tightest level at which an expression stands
abbrev pub level : Tree → ℕ
level (a_name n p) = rank Levels.Primary
level (an_integer c p) = rank Levels.Primary
level (a_character v p) = rank Levels.Primary
level (in_parentheses t) = rank Levels.Primary
level (an_input low high p) = rank Levels.Primary
level (an_islocked n q p) = rank Levels.Primary
level (a_call f args p) = rank Levels.Primary
level (a_prefix op t p) = rank Levels.Unary
level (a_sizeof_type n p) = rank Levels.Unary
level (a_cast n t p) = rank Levels.Cast
level (an_infix l op p r) = infix_level op
level (a_conditional c p a b) = rank Levels.Condition
level (a_subscript a p i) = rank Levels.Postfix
level (a_member a access p m q) = rank Levels.Postfix
level (a_postfix a op p) = rank Levels.Postfix

-- The nodes on the longest path, parentheses and type names included; operators and levels make none.
abbrev mutual
  pub height : Tree → ℕ
  height (a_name n p) = 1
  height (an_integer c p) = 1
  height (a_character v p) = 1
  height (in_parentheses t) = suc (height t)
  height (an_input low high p) = suc (max (height low) (height high))
  height (an_islocked n q p) = 1
  height (a_call f args p) = suc (arguments_height args)
  height (a_prefix op t p) = suc (height t)
  height (a_sizeof_type n p) = 2
  height (a_cast n t p) = suc (height t)
  height (an_infix l op p r) = suc (max (height l) (height r))
  height (a_conditional c p a b) = suc (max (height c) (max (height a) (height b)))
  height (a_subscript a p i) = suc (max (height a) (height i))
  height (a_member a access p m q) = suc (height a)
  height (a_postfix a op p) = suc (height a)

  -- the height of the tallest argument, 0 where there is none
  pub arguments_height : Arguments → ℕ
  arguments_height no_arguments = 0
  arguments_height (and_argument t args) = max (height t) (arguments_height args)

-- the place of an expression
abbrev pub place_of : Tree → Place
place_of (a_name n p) = p
place_of (an_integer c p) = p
place_of (a_character v p) = p
place_of (in_parentheses t) = place_of t
place_of (an_input low high p) = p
place_of (an_islocked n q p) = p
place_of (a_call f args p) = p
place_of (a_prefix op t p) = p
place_of (a_sizeof_type n p) = p
place_of (a_cast n t p) = p
place_of (an_infix l op p r) = p
place_of (a_conditional c p a b) = p
place_of (a_subscript a p i) = p
place_of (a_member a access p m q) = p
place_of (a_postfix a op p) = p

-- a type name without its vectors
abbrev pub type_tree : TypeName → TypeTree
type_tree n = record { specs = n.specs.items; pointers = n.pointers.items }

-- an expression of the code as a plain tree
abbrev mutual
  pub tree_of : Expr → Tree
  tree_of (Form.Name n p) = a_name n p
  tree_of (Form.Integer c p) = an_integer c p
  tree_of (Form.Character v p) = a_character v p
  tree_of (Form.Parentheses' b e) = in_parentheses (tree_of e)
  tree_of (Form.Input' b low d high p) = an_input (tree_of low) (tree_of high) p
  tree_of (Form.Islocked n q p) = an_islocked n q p
  tree_of (Form.Call' f shape row p) = a_call f (arguments_of row) p
  tree_of (Form.Prefix' op b e p) = a_prefix op (tree_of e) p
  tree_of (Form.SizeofType n p) = a_sizeof_type (type_tree n) p
  tree_of (Form.Cast' n b e p) = a_cast (type_tree n) (tree_of e) p
  tree_of (Form.Infix' b l op d r p) = an_infix (tree_of l) op p (tree_of r)
  tree_of (Form.Conditional' b c d x f y p) = a_conditional (tree_of c) p (tree_of x) (tree_of y)
  tree_of (Form.Subscript' b a d i p) = a_subscript (tree_of a) p (tree_of i)
  tree_of (Form.Member' b a access m q p) = a_member (tree_of a) access p m q
  tree_of (Form.Postfix' b a op p) = a_postfix (tree_of a) op p

  -- the arguments as they lie in a vector
  pub arguments_of : {m : _} → Row_of-Expr m → Arguments
  arguments_of end_of-Expr = no_arguments
  arguments_of (more_of-Expr e row) = and_argument (tree_of e) (arguments_of row)

-- a list of expressions as arguments
abbrev pub as_arguments : List Expr → Arguments
as_arguments [] = no_arguments
as_arguments (e ∷ es) = and_argument (tree_of e) (as_arguments es)
