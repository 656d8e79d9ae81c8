-- Functions that are named and used are declared: for expressions.
use Rattle.std.proofs.Common.{◌≡◌, ℕ, ◌<◌, ◌≤◌, List, [], ◌∷◌, ◌++◌, length, refl, sym, ◌∙◌, ap, subst, arith}
use Rattle.std.specs.Prelude.{Bool, true, false, cond, All, Option, Some, None, option_map, Result, Ok}
use Rattle.std.proofs.lemmas.List.Elements.{All-nil, All-cons, All-head, All-tail, All-append, All-weaker}
use Rattle.tm_typed.specs.tm_terms.declared.places.Place.{Place}
use Rattle.tm_typed.specs.tm_terms.declared.tokens.Name.{Name}
use Rattle.tm_typed.specs.tm_terms.Names.{is_same_name}
use Rattle.tm_typed.specs.tm_terms.declared.exprs.Prefix.{Prefix}
use Rattle.tm_typed.specs.tm_terms.declared.exprs.Prefix.TheVariants as Prefixes
use Rattle.tm_typed.specs.tm_terms.ExprTrees.{Tree, a_name, an_integer, a_character, in_parentheses, an_input}
use Rattle.tm_typed.specs.tm_terms.ExprTrees.{an_islocked, a_call, a_prefix, a_sizeof_type, a_cast, an_infix}
use Rattle.tm_typed.specs.tm_terms.ExprTrees.{a_conditional, a_subscript, a_member, a_postfix, Arguments, no_arguments}
use Rattle.tm_typed.specs.tm_terms.ExprTrees.{and_argument}
use Rattle.tm_typed.specs.declared.scopes.Named.{Named}
use Rattle.tm_typed.specs.declared.scopes.Named.TheVariants as Names
use Rattle.tm_typed.specs.declared.scopes.ObjectNumber.TheVariants as Objects
use Rattle.tm_typed.specs.declared.scopes.Binding.{Binding}
use Rattle.tm_typed.specs.declared.uses.Use.{Use}
use Rattle.tm_typed.specs.declared.uses.Used.{Used}
use Rattle.tm_typed.specs.declared.uses.Used.TheVariants as Uses
use Rattle.tm_typed.specs.TypedTrees.{OperandTree}
use Rattle.tm_typed.specs.Scopes.{Scope, or_else, last_declared, named}
use Rattle.tm_typed.specs.States.{State, in_scope}
use Rattle.tm_typed.specs.Typing.{typing}
use Rattle.tm_typed.specs.TypeNames.{type_of_name, prepared}
use Rattle.tm_typed.specs.Uses.{named_use, called_use, prefix_uses, uses_of, argument_uses}
use Rattle.tm_typed.specs.Evaluation.{evaluated, typed_in, measured}
use Rattle.tm_typed.specs.WellTyped.{OnAnswer}
use Rattle.typing_laws.proofs.SameNames.{SameNames, same, prepared_same}
use Rattle.typing_laws.proofs.Steps.{then_any}

-- ## What is named and used

-- if it is a function, it is one of the first n
abbrev pub IsNamedBelow : ℕ → Named → Type 0
IsNamedBelow n (Names.Function k) = k < n
IsNamedBelow n _ = Unit {0}

abbrev pub IsUsedBelow : ℕ → Used → Type 0
IsUsedBelow n (Uses.Function k) = k < n
IsUsedBelow n (Uses.Static k) = Unit {0}

-- the state has n functions, and names and uses are of these
pub record IsWithin (n : ℕ) (s : State) : Type 0 where
  pub functions : length s.scope.functions ≡ n
  pub names : All (λ b. IsNamedBelow n b.named) s.scope.names
  pub uses : All (λ u. IsUsedBelow n u.used) s.uses

-- what a step gives beside a state
abbrev pub Within : {A : Type 0} → ℕ → A × State → Type 0
Within n a = IsWithin n a.1

pub in_same_scope : (n : ℕ) (s : State) (scope : Scope) → SameNames s.scope scope → IsWithin n s → IsWithin n (in_scope s scope)
in_same_scope n s scope e h = record {
  functions = ap length e.functions ∙ h.functions;
  names = let P : List Binding → Type 0 = All (λ b. IsNamedBelow n b.named) in subst P (sym e.names) h.names;
  uses = h.uses;
}

-- ## Names

abbrev IsBoundBelow : ℕ → Option Binding → Type 0
IsBoundBelow n None = Unit {0}
IsBoundBelow n (Some b) = IsNamedBelow n b.named

abbrev pub IsBelow : ℕ → Option Named → Type 0
IsBelow n None = Unit {0}
IsBelow n (Some x) = IsNamedBelow n x

or_below : (n : ℕ) (a b : Option Binding) → IsBoundBelow n a → IsBoundBelow n b → IsBoundBelow n (or_else a b)
or_below n (Some a) b h k = h
or_below n None b h k = k

here_below : (n : ℕ) (b : Binding) (is : Bool) → IsNamedBelow n b.named → IsBoundBelow n (cond is (Some b) None)
here_below n b true h = h
here_below n b false h = tt

last_below : (n : ℕ) (m : Name) (names : List Binding) → All (λ b. IsNamedBelow n b.named) names → IsBoundBelow n (last_declared (λ b. b.name) m names)
last_below n m [] h = tt
last_below n m (b ∷ names) h =
    or_below n (last_declared (λ b. b.name) m names) (cond (is_same_name b.name m) (Some b) None) (last_below n m names (All-tail (λ b. IsNamedBelow n b.named) b names h))
    (here_below n b (is_same_name b.name m) (All-head (λ b. IsNamedBelow n b.named) b names h))

found_below : (n : ℕ) (o : Option Binding) → IsBoundBelow n o → IsBelow n (option_map (λ b. b.named) o)
found_below n None h = tt
found_below n (Some b) h = h

-- what a name names among these
pub named_below : (n : ℕ) (m : Name) (names : List Binding) → All (λ b. IsNamedBelow n b.named) names → IsBelow n (option_map (λ b. b.named) (last_declared (λ b. b.name) m names))
named_below n m names h = found_below n (last_declared (λ b. b.name) m names) (last_below n m names h)

-- ## Uses

AreUsedBelow : ℕ → List Use → Type 0
AreUsedBelow n uses = All (λ u. IsUsedBelow n u.used) uses

no_uses : (n : ℕ) → AreUsedBelow n []
unfolding AreUsedBelow
no_uses n = All-nil (λ u. IsUsedBelow n u.used)

one_use : (n : ℕ) (u : Use) → IsUsedBelow n u.used → AreUsedBelow n (u ∷ [])
unfolding AreUsedBelow
one_use n u h = All-cons (λ u. IsUsedBelow n u.used) u [] h (no_uses n)

more_uses : (n : ℕ) (a b : List Use) → AreUsedBelow n a → AreUsedBelow n b → AreUsedBelow n (a ++ b)
unfolding AreUsedBelow
more_uses n a b h k = All-append (λ u. IsUsedBelow n u.used) a b h k

named_use_below : (n : ℕ) (p : Place) (o : Option Named) → AreUsedBelow n (named_use p o)
named_use_below n p (Some (Names.Object (Objects.Static k) q)) = one_use n (record { used = Uses.Static k; place = p }) tt
named_use_below n p (Some (Names.Object (Objects.Local k) q)) = no_uses n
named_use_below n p (Some (Names.Function k)) = no_uses n
named_use_below n p (Some (Names.Alias q)) = no_uses n
named_use_below n p (Some Names.Task) = no_uses n
named_use_below n p (Some (Names.Mutex m)) = no_uses n
named_use_below n p (Some (Names.Enumerator z)) = no_uses n
named_use_below n p None = no_uses n

called_use_below : (n : ℕ) (p : Place) (o : Option Named) → IsBelow n o → AreUsedBelow n (called_use p o)
called_use_below n p (Some (Names.Function k)) h = one_use n (record { used = Uses.Function k; place = p }) h
called_use_below n p (Some (Names.Object o q)) h = no_uses n
called_use_below n p (Some (Names.Alias q)) h = no_uses n
called_use_below n p (Some Names.Task) h = no_uses n
called_use_below n p (Some (Names.Mutex m)) h = no_uses n
called_use_below n p (Some (Names.Enumerator z)) h = no_uses n
called_use_below n p None h = no_uses n

prefix_uses_below : (n : ℕ) (op : Prefix) (uses : List Use) → AreUsedBelow n uses → AreUsedBelow n (prefix_uses op uses)
prefix_uses_below n Prefixes.Sizeof uses h = no_uses n
prefix_uses_below n _ uses h = h

module _ (n : ℕ) (scope : Scope) (names : All (λ b. IsNamedBelow n b.named) scope.names) where
  mutual
    uses_below : (t : Tree) → AreUsedBelow n (uses_of scope t)
    uses_below (a_name m p) = named_use_below n p (named scope m)
    uses_below (an_integer c p) = no_uses n
    uses_below (a_character z p) = no_uses n
    uses_below (in_parentheses t) = uses_below t
    uses_below (an_input low high p) = more_uses n (uses_of scope low) (uses_of scope high) (uses_below low) (uses_below high)
    uses_below (an_islocked m q p) = no_uses n
    uses_below (a_call f args p) = more_uses n (called_use p (named scope f)) (argument_uses scope args) (called_use_below n p (named scope f) (named_below n f scope.names names)) (arguments_below args)
    uses_below (a_prefix op t p) = prefix_uses_below n op (uses_of scope t) (uses_below t)
    uses_below (a_sizeof_type m p) = no_uses n
    uses_below (a_cast m t p) = uses_below t
    uses_below (an_infix l op p r) = more_uses n (uses_of scope l) (uses_of scope r) (uses_below l) (uses_below r)
    uses_below (a_conditional c p x y) =
        more_uses n (uses_of scope c) (uses_of scope x ++ uses_of scope y) (uses_below c) (more_uses n (uses_of scope x) (uses_of scope y) (uses_below x) (uses_below y))
    uses_below (a_subscript e p i) = more_uses n (uses_of scope e) (uses_of scope i) (uses_below e) (uses_below i)
    uses_below (a_member e access p m q) = uses_below e
    uses_below (a_postfix e op p) = uses_below e

    arguments_below : (args : Arguments) → AreUsedBelow n (argument_uses scope args)
    arguments_below no_arguments = no_uses n
    arguments_below (and_argument t args) = more_uses n (uses_of scope t) (argument_uses scope args) (uses_below t) (arguments_below args)

-- ## Expressions

evaluated_within : (n : ℕ) (s : State) (t : Tree) (o : OperandTree) → IsWithin n s → IsWithin n (evaluated s (prepared s.scope t) t o)
unfolding AreUsedBelow
evaluated_within n s t o h =
    let k = in_same_scope n s (prepared s.scope t) (prepared_same s.scope t) h in
    record {
      functions = k.functions;
      names = k.names;
      uses = more_uses n s.uses (uses_of (prepared s.scope t) t) h.uses (uses_below n (prepared s.scope t) k.names t);
    }

pub typed_within : (n : ℕ) (s : State) (t : Tree) → IsWithin n s → OnAnswer (Within n) (typed_in s t)
typed_within n s t h =
    then_any (Within n) (typing type_of_name (prepared s.scope t) s.site t) (λ o. Ok (o, evaluated s (prepared s.scope t) t o)) (λ o. evaluated_within n s t o h)

pub measured_within : (n : ℕ) (s : State) (t : Tree) → IsWithin n s → OnAnswer (Within n) (measured s t)
measured_within n s t h =
    then_any (Within n) (typing type_of_name (prepared s.scope t) s.site t) _ (λ o.
    let k = in_same_scope n s (prepared s.scope t) (prepared_same s.scope t) h in
    record { functions = k.functions; names = k.names; uses = k.uses })
