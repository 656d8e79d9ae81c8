-- The places of `sizeof` at which compilers may differ (C99 6.5.3.4, 6.7.2.1p12): that of a type whose size is another
-- one where `long long` is aligned to 4, as on i386. The operand of a `sizeof` is not evaluated, so nothing depends on
-- those within it.
use Rattle.std.specs.Prelude.{ℕ, Bool, cond, ◌==◌, List, [], ◌∷◌, ◌++◌, Result, Ok, Err}
use Rattle.tm_trees.specs.tm_terms.declared.places.Place.{Place}
use Rattle.tm_trees.specs.tm_terms.declared.refusals.Refusal.{Refusal}
use Rattle.tm_trees.specs.tm_terms.declared.exprs.Prefix.{Prefix}
use Rattle.tm_trees.specs.tm_terms.declared.exprs.Prefix.TheVariants as Prefixes
use Rattle.tm_trees.specs.tm_terms.ExprTrees.{Tree, a_name, an_integer, a_character, in_parentheses, an_input}
use Rattle.tm_trees.specs.tm_terms.ExprTrees.{an_islocked, a_call, a_prefix, a_sizeof_type, a_cast, an_infix}
use Rattle.tm_trees.specs.tm_terms.ExprTrees.{a_conditional, a_subscript, a_member, a_postfix, Arguments, no_arguments}
use Rattle.tm_trees.specs.tm_terms.ExprTrees.{and_argument}
use Rattle.tm_typed.specs.declared.types.CastType.{CastType}
use Rattle.tm_typed.specs.declared.operands.Sort.{Sort}
use Rattle.tm_typed.specs.declared.operands.Sort.TheVariants as Sorts
use Rattle.tm_typed.specs.Scopes.{Scope, structure, size_of, tight_size_of}
use Rattle.tm_typed.specs.TypedTrees.{OperandTree, an_lvalue, a_value}
use Rattle.tm_typed.specs.TypeNames.{type_of_name}
use Rattle.tm_typed.specs.Typing.{typing}

-- the place, if two sizes differ
abbrev pub where_differ : Place → ℕ → ℕ → List Place
where_differ p n m = cond (n == m) [] (p ∷ [])

-- of the type with this number
abbrev pub type_sizes : Scope → Place → ℕ → List Place
type_sizes scope p n = where_differ p (size_of scope n) (tight_size_of scope n)

-- of a type name
abbrev pub name_sizes : Scope → Place → Result CastType Refusal → List Place
name_sizes scope p (Ok to) = type_sizes scope p to.of.number
name_sizes scope p (Err r) = []

abbrev pub sort_sizes : Scope → Place → Sort → List Place
sort_sizes scope p (Sorts.Structure k) = where_differ p (structure scope k).size (structure scope k).tight_size
sort_sizes scope p _ = []

-- of an expression
abbrev pub operand_sizes : Scope → Place → Result OperandTree Refusal → List Place
operand_sizes scope p (Ok (an_lvalue l q)) = type_sizes scope p q.number
operand_sizes scope p (Ok (a_value v)) = sort_sizes scope p v.sort
operand_sizes scope p (Err r) = []

-- of what a prefix operator has, and of what is evaluated in its operand
abbrev pub prefix_sizes : Scope → Place → Prefix → Tree → List Place → List Place
prefix_sizes scope p Prefixes.Sizeof t sizes = operand_sizes scope p (typing type_of_name scope 0 t)
prefix_sizes scope p _ t sizes = sizes

abbrev mutual
  -- the places in an expression, in the order of the text
  pub sizes_of : Scope → Tree → List Place
  sizes_of scope (a_name n p) = []
  sizes_of scope (an_integer c p) = []
  sizes_of scope (a_character z p) = []
  sizes_of scope (in_parentheses t) = sizes_of scope t
  sizes_of scope (an_input low high p) = sizes_of scope low ++ sizes_of scope high
  sizes_of scope (an_islocked m q p) = []
  sizes_of scope (a_call f args p) = argument_sizes scope args
  sizes_of scope (a_prefix op t p) = prefix_sizes scope p op t (sizes_of scope t)
  sizes_of scope (a_sizeof_type n p) = name_sizes scope p (type_of_name scope n p)
  sizes_of scope (a_cast n t p) = sizes_of scope t
  sizes_of scope (an_infix l op p r) = sizes_of scope l ++ sizes_of scope r
  sizes_of scope (a_conditional c p x y) = sizes_of scope c ++ (sizes_of scope x ++ sizes_of scope y)
  sizes_of scope (a_subscript e p i) = sizes_of scope e ++ sizes_of scope i
  sizes_of scope (a_member e access p m q) = sizes_of scope e
  sizes_of scope (a_postfix e op p) = sizes_of scope e

  pub argument_sizes : Scope → Arguments → List Place
  argument_sizes scope no_arguments = []
  argument_sizes scope (and_argument t args) = sizes_of scope t ++ argument_sizes scope args
