-- The typing of expressions: each construct after its parts, the parts from left to right; what it meets of the rows is
-- a matter of Rules.
use Rattle.std.specs.Prelude.{ℕ, suc, ◌+◌, ℤ, true, false, List, [], ◌∷◌, Result, Ok}
use Rattle.tm_trees.specs.tm_cint.declared.operators.BinOp.TheVariants as Ops
use Rattle.tm_trees.specs.tm_terms.declared.places.Place.{Place}
use Rattle.tm_trees.specs.tm_terms.declared.refusals.Kind.TheVariants as Kinds
use Rattle.tm_trees.specs.tm_terms.declared.refusals.Refusal.{Refusal}
use Rattle.tm_trees.specs.tm_terms.declared.exprs.Binary.{Binary}
use Rattle.tm_trees.specs.tm_terms.declared.exprs.Binary.TheVariants as Binaries
use Rattle.tm_trees.specs.tm_terms.declared.exprs.Infix.{Infix}
use Rattle.tm_trees.specs.tm_terms.declared.exprs.Infix.TheVariants as Infixes
use Rattle.tm_trees.specs.tm_terms.declared.exprs.Prefix.{Prefix}
use Rattle.tm_trees.specs.tm_terms.declared.exprs.Prefix.TheVariants as Prefixes
use Rattle.tm_trees.specs.tm_terms.declared.exprs.Postfix.{Postfix}
use Rattle.tm_trees.specs.tm_terms.declared.exprs.Postfix.TheVariants as Postfixes
use Rattle.tm_trees.specs.tm_terms.declared.exprs.Access.{Access}
use Rattle.tm_trees.specs.tm_terms.declared.exprs.Access.TheVariants as Accesses
use Rattle.tm_trees.specs.tm_terms.declared.tokens.Name.{Name}
use Rattle.tm_trees.specs.tm_terms.ExprTrees.{TypeTree, Tree, a_name, an_integer, a_character, in_parentheses, an_input}
use Rattle.tm_trees.specs.tm_terms.ExprTrees.{an_islocked, a_call, a_prefix, a_sizeof_type, a_cast, an_infix}
use Rattle.tm_trees.specs.tm_terms.ExprTrees.{a_conditional, a_subscript, a_member, a_postfix, Arguments, no_arguments}
use Rattle.tm_trees.specs.tm_terms.ExprTrees.{and_argument}
use Rattle.tm_typed.specs.Scopes.{Scope, named}
use Rattle.tm_typed.specs.TypedTrees.{Rated, OperandTree}
use Rattle.tm_typed.specs.Refusals.{refused, then_with, row}
use Rattle.tm_typed.specs.Operands.{valued}
use Rattle.tm_typed.specs.Rules.{name_rules, constant_rules, character_rules, bound, input_rules, islocked_rules}
use Rattle.tm_typed.specs.Rules.{address_rules, dereference_rules, not_rules, minus_rules, complement_rules, plus_rules}
use Rattle.tm_typed.specs.Rules.{sizeof_rules, sizeof_type_rules, binary_rules, logical_rules, conditional_rules}
use Rattle.tm_typed.specs.Rules.{comma_rules, assignment_rules, step_rules, compound_rules, CastType, cast_rules}
use Rattle.tm_typed.specs.Rules.{callee, call_rules, subscript_rules, dot_rules, arrow_rules}

-- ## Operators by their signs

abbrev pub binary_sign : Scope → Binary → Place → Rated → Rated → Result OperandTree Refusal
binary_sign scope Binaries.And p l r = logical_rules true p l r
binary_sign scope Binaries.Or p l r = logical_rules false p l r
binary_sign scope Binaries.Multiply p l r = binary_rules scope Ops.Mul p l r
binary_sign scope Binaries.Divide p l r = binary_rules scope Ops.Div p l r
binary_sign scope Binaries.Remainder p l r = binary_rules scope Ops.Rem p l r
binary_sign scope Binaries.Add p l r = binary_rules scope Ops.Add p l r
binary_sign scope Binaries.Subtract p l r = binary_rules scope Ops.Sub p l r
binary_sign scope Binaries.ShiftLeft p l r = binary_rules scope Ops.Shl p l r
binary_sign scope Binaries.ShiftRight p l r = binary_rules scope Ops.Shr p l r
binary_sign scope Binaries.Less p l r = binary_rules scope Ops.Lt p l r
binary_sign scope Binaries.Greater p l r = binary_rules scope Ops.Gt p l r
binary_sign scope Binaries.LessEqual p l r = binary_rules scope Ops.Le p l r
binary_sign scope Binaries.GreaterEqual p l r = binary_rules scope Ops.Ge p l r
binary_sign scope Binaries.Equal p l r = binary_rules scope Ops.Eq p l r
binary_sign scope Binaries.NotEqual p l r = binary_rules scope Ops.Ne p l r
binary_sign scope Binaries.BitAnd p l r = binary_rules scope Ops.And p l r
binary_sign scope Binaries.BitXor p l r = binary_rules scope Ops.Xor p l r
binary_sign scope Binaries.BitOr p l r = binary_rules scope Ops.Or p l r

-- the operator that a compound assignment applies; the grammar has none with `&&` or `||`
abbrev pub compound_sign : Scope → Binary → Place → OperandTree → Rated → Result OperandTree Refusal
compound_sign scope Binaries.Multiply p l r = compound_rules scope Ops.Mul p l r
compound_sign scope Binaries.Divide p l r = compound_rules scope Ops.Div p l r
compound_sign scope Binaries.Remainder p l r = compound_rules scope Ops.Rem p l r
compound_sign scope Binaries.Add p l r = compound_rules scope Ops.Add p l r
compound_sign scope Binaries.Subtract p l r = compound_rules scope Ops.Sub p l r
compound_sign scope Binaries.ShiftLeft p l r = compound_rules scope Ops.Shl p l r
compound_sign scope Binaries.ShiftRight p l r = compound_rules scope Ops.Shr p l r
compound_sign scope Binaries.BitAnd p l r = compound_rules scope Ops.And p l r
compound_sign scope Binaries.BitXor p l r = compound_rules scope Ops.Xor p l r
compound_sign scope Binaries.BitOr p l r = compound_rules scope Ops.Or p l r
compound_sign scope _ p l r = refused Kinds.Mismatch p

abbrev pub infix_rules : Scope → Infix → Place → OperandTree → OperandTree → Result OperandTree Refusal
infix_rules scope Infixes.Comma p l r = comma_rules p (valued scope l) (valued scope r)
infix_rules scope Infixes.Assign p l r = assignment_rules scope p l (valued scope r)
infix_rules scope (Infixes.AssignBy op) p l r = compound_sign scope op p l (valued scope r)
infix_rules scope (Infixes.Binary op) p l r = binary_sign scope op p (valued scope l) (valued scope r)

abbrev pub prefix_rules : Scope → Prefix → Place → OperandTree → Result OperandTree Refusal
prefix_rules scope Prefixes.Increment p t = step_rules scope (record { minus = false; postfix = false }) p t
prefix_rules scope Prefixes.Decrement p t = step_rules scope (record { minus = true; postfix = false }) p t
prefix_rules scope Prefixes.Address p t = address_rules p t
prefix_rules scope Prefixes.Dereference p t = let v = valued scope t in dereference_rules scope p v v.sort
prefix_rules scope Prefixes.Plus p t = let v = valued scope t in plus_rules p v v.sort
prefix_rules scope Prefixes.Minus p t = let v = valued scope t in minus_rules p v v.sort
prefix_rules scope Prefixes.Complement p t = let v = valued scope t in complement_rules p v v.sort
prefix_rules scope Prefixes.Not p t = not_rules p (valued scope t)
prefix_rules scope Prefixes.Sizeof p t = sizeof_rules scope p t

abbrev pub postfix_rules : Scope → Postfix → Place → OperandTree → Result OperandTree Refusal
postfix_rules scope Postfixes.Increment p t = step_rules scope (record { minus = false; postfix = true }) p t
postfix_rules scope Postfixes.Decrement p t = step_rules scope (record { minus = true; postfix = true }) p t

abbrev pub member_rules : Scope → Access → Place → OperandTree → Name → Place → Result OperandTree Refusal
member_rules scope Accesses.Dot p t n q = dot_rules scope p t n q
member_rules scope Accesses.Arrow p t n q = let v = valued scope t in arrow_rules scope p v v.sort n q

-- ## Sites: the calls of an expression that are evaluated, in the order of the text

abbrev pub prefix_calls : Prefix → ℕ → ℕ
prefix_calls Prefixes.Sizeof n = 0
prefix_calls _ n = n

abbrev mutual
  pub calls : Tree → ℕ
  calls (in_parentheses t) = calls t
  calls (an_input a b p) = calls a + calls b
  calls (a_call f args p) = suc (argument_calls args)
  calls (a_prefix op t p) = prefix_calls op (calls t)
  calls (a_cast n t p) = calls t
  calls (an_infix l op p r) = calls l + calls r
  calls (a_conditional c p a b) = calls c + calls a + calls b
  calls (a_subscript a p i) = calls a + calls i
  calls (a_member a access p m q) = calls a
  calls (a_postfix a op p) = calls a
  calls _ = 0

  pub argument_calls : Arguments → ℕ
  argument_calls no_arguments = 0
  argument_calls (and_argument t args) = calls t + argument_calls args

-- ## Expressions

-- what a type name names, or why it is refused
abbrev pub CastTypes : Type 0
CastTypes = Scope → TypeTree → Place → Result CastType Refusal

abbrev mutual
  -- an expression whose first call has this site, or its first refusal
  pub typing : CastTypes → Scope → ℕ → Tree → Result OperandTree Refusal
  typing types scope site (a_name n p) = name_rules p (named scope n)
  typing types scope site (an_integer c p) = constant_rules c p
  typing types scope site (a_character z p) = character_rules z p
  typing types scope site (in_parentheses t) = typing types scope site t
  typing types scope site (an_input low high p) =
      then_with (typing types scope site low) (λ a. then_with (bound (valued scope a)) (λ x.
      then_with (typing types scope (site + calls low) high)
      (λ b. then_with (bound (valued scope b)) (λ y. input_rules p x y))))
  typing types scope site (an_islocked m q p) = islocked_rules p q (named scope m)
  typing types scope site (a_call f args p) =
      then_with (callee p (named scope f))
      (λ g. then_with (typing_all types scope (suc site) args) (λ vs. call_rules scope p site vs g))
  typing types scope site (a_prefix op t p) = then_with (typing types scope site t) (λ a. prefix_rules scope op p a)
  typing types scope site (a_sizeof_type n p) =
      then_with (types scope n p)
      (λ to. row to.is_left_out Kinds.Unsupported p (sizeof_type_rules scope p to.of.number))
  typing types scope site (a_cast n t p) =
      then_with (types scope n p)
      (λ to. then_with (typing types scope site t) (λ a. cast_rules scope p to (valued scope a)))
  typing types scope site (an_infix l op p r) =
      then_with (typing types scope site l)
      (λ a. then_with (typing types scope (site + calls l) r) (λ b. infix_rules scope op p a b))
  typing types scope site (a_conditional c p x y) =
      then_with (typing types scope site c) (λ a. then_with (typing types scope (site + calls c) x) (λ b.
      then_with (typing types scope (site + calls c + calls x) y)
      (λ d. conditional_rules scope p (valued scope a) (valued scope b) (valued scope d))))
  typing types scope site (a_subscript e p i) =
      then_with (typing types scope site e)
      (λ a. then_with (typing types scope (site + calls e) i) (λ b. subscript_rules scope p a (valued scope b)))
  typing types scope site (a_member e access p m q) =
      then_with (typing types scope site e) (λ a. member_rules scope access p a m q)
  typing types scope site (a_postfix e op p) = then_with (typing types scope site e) (λ a. postfix_rules scope op p a)

  -- the arguments of a call
  pub typing_all : CastTypes → Scope → ℕ → Arguments → Result (List Rated) Refusal
  typing_all types scope site no_arguments = Ok []
  typing_all types scope site (and_argument t args) =
      then_with (typing types scope site t)
      (λ a. then_with (typing_all types scope (site + calls t) args) (λ vs. Ok (valued scope a ∷ vs)))
