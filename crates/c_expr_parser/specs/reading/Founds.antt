-- What a contract sees of what was read.
use Rattle.std.specs.Prelude.{◌≡◌, ℕ, ◌≤◌, List, Option, Some, None}
use Rattle.tm_terms.specs.declared.tokens.Token.{Token}
use Rattle.std.specs.Borrow.{Bor}
use Rattle.tm_terms.specs.declared.types_named.TypeName.{TypeName}
use Rattle.tm_terms.specs.ExprTrees.{TypeTree, Tree, Arguments, type_tree, tree_of, as_arguments}
use Rattle.c_expr_parser.specs.declared.found.Found.{Found}
use Rattle.c_expr_parser.specs.declared.found.FoundArguments.{FoundArguments}
use Rattle.c_expr_parser.specs.declared.found.Tried.{Tried}
use Rattle.c_expr_parser.specs.declared.found.Tried.TheVariants as Tries
use Rattle.c_expr_parser.specs.declared.found.Stepped.{Stepped}
use Rattle.c_expr_parser.specs.declared.found.Stepped.TheVariants.{On, Stop}

-- the tree and the tokens after it
abbrev pub pair_of : Found → Tree × List Token
pair_of f = (tree_of f.expr.value, f.rest.now)

abbrev pub seen_found : Tried Found → Option (Tree × List Token)
seen_found (Tries.Found f) = Some (pair_of f)
seen_found (Tries.Stuck rest) = None

abbrev pub seen_arguments : Tried FoundArguments → Option (Arguments × List Token)
seen_arguments (Tries.Found f) = Some (as_arguments f.items.items, f.rest.now)
seen_arguments (Tries.Stuck rest) = None

abbrev pub seen_type : Tried (TypeName × Bor (List Token)) → Option (TypeTree × List Token)
seen_type (Tries.Found found) = Some (type_tree found.0, found.1.now)
seen_type (Tries.Stuck rest) = None

-- a fact of what was read
abbrev pub IfFound : {A : Type 0} → Tried A → (A → Type 0) → Type 0
IfFound (Tries.Found x) P = P x
IfFound (Tries.Stuck rest) P = Unit {0}

-- the step gave what is wanted, or there is none and the expression is as it was
abbrev pub IsStep : Stepped → Tree × List Token → Option (Tree × List Token) → Type 0
IsStep (On f) before wanted = Some (pair_of f) ≡ wanted
IsStep (Stop f) before wanted = (None ≡ wanted) × (pair_of f ≡ before)

-- the height of what the step gave
abbrev pub IsLow : Stepped → ℕ → Type 0
IsLow (On f) limit = f.height ≤ limit
IsLow (Stop f) limit = f.height ≤ limit
