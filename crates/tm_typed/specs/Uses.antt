-- What the evaluated parts of an expression use: functions by calls, and objects of static storage by their names. The
-- operand of `sizeof` is not evaluated (C99 6.5.3.4).
use Rattle.std.specs.Prelude.{List, [], ◌∷◌, ◌++◌, Option, Some, None}
use Rattle.tm_trees.specs.tm_terms.declared.places.Place.{Place}
use Rattle.tm_trees.specs.tm_terms.declared.exprs.Prefix.{Prefix}
use Rattle.tm_trees.specs.tm_terms.declared.exprs.Prefix.TheVariants as Prefixes
use Rattle.tm_trees.specs.tm_terms.ExprTrees.{Tree, a_name, an_integer, a_character, in_parentheses, an_input}
use Rattle.tm_trees.specs.tm_terms.ExprTrees.{an_islocked, a_call, a_prefix, a_sizeof_type, a_cast, an_infix}
use Rattle.tm_trees.specs.tm_terms.ExprTrees.{a_conditional, a_subscript, a_member, a_postfix, Arguments, no_arguments}
use Rattle.tm_trees.specs.tm_terms.ExprTrees.{and_argument}
use Rattle.tm_typed.specs.declared.scopes.Named.{Named}
use Rattle.tm_typed.specs.declared.scopes.Named.TheVariants as Names
use Rattle.tm_typed.specs.declared.scopes.ObjectNumber.TheVariants as Objects
use Rattle.tm_typed.specs.declared.uses.Use.{Use}
use Rattle.tm_typed.specs.declared.uses.Used.TheVariants as Used
use Rattle.tm_typed.specs.Scopes.{Scope, named}

-- the name of an object of static storage
abbrev pub named_use : Place → Option Named → List Use
named_use p (Some (Names.Object (Objects.Static k) q)) = record { used = Used.Static k; place = p } ∷ []
named_use p _ = []

-- the name of a called function
abbrev pub called_use : Place → Option Named → List Use
called_use p (Some (Names.Function f)) = record { used = Used.Function f; place = p } ∷ []
called_use p _ = []

-- what a prefix operator evaluates of what its operand uses
abbrev pub prefix_uses : Prefix → List Use → List Use
prefix_uses Prefixes.Sizeof uses = []
prefix_uses _ uses = uses

abbrev mutual
  -- the uses of an expression, in the order of the text
  pub uses_of : Scope → Tree → List Use
  uses_of scope (a_name n p) = named_use p (named scope n)
  uses_of scope (an_integer c p) = []
  uses_of scope (a_character z p) = []
  uses_of scope (in_parentheses t) = uses_of scope t
  uses_of scope (an_input low high p) = uses_of scope low ++ uses_of scope high
  uses_of scope (an_islocked m q p) = []
  uses_of scope (a_call f args p) = called_use p (named scope f) ++ argument_uses scope args
  uses_of scope (a_prefix op t p) = prefix_uses op (uses_of scope t)
  uses_of scope (a_sizeof_type n p) = []
  uses_of scope (a_cast n t p) = uses_of scope t
  uses_of scope (an_infix l op p r) = uses_of scope l ++ uses_of scope r
  uses_of scope (a_conditional c p x y) = uses_of scope c ++ (uses_of scope x ++ uses_of scope y)
  uses_of scope (a_subscript e p i) = uses_of scope e ++ uses_of scope i
  uses_of scope (a_member e access p m q) = uses_of scope e
  uses_of scope (a_postfix e op p) = uses_of scope e

  pub argument_uses : Scope → Arguments → List Use
  argument_uses scope no_arguments = []
  argument_uses scope (and_argument t args) = uses_of scope t ++ argument_uses scope args
