-- The positions of names in a list of declarations, and the index that gives the last one of each.
use Rattle.std.specs.Prelude.{ℕ, suc, cond, List, [], ◌∷◌, map, Option, Some, None, option_map}
use Rattle.tm_terms.specs.declared.tokens.Name.{Name}
use Rattle.tm_terms.specs.Names.{is_same_name}
use Rattle.tm_typed.specs.Scopes.{or_else}
use Rattle.c_scope.specs.declared.positions.Declared.{Declared}

-- the position of the last of some names that is this one
abbrev pub last_position : List Name → Name → Option ℕ
last_position [] n = None
last_position (m ∷ ms) n = or_else (option_map suc (last_position ms n)) (cond (is_same_name m n) (Some 0) None)

abbrev pub names_of : List Declared → List Name
names_of ds = map (λ d. d.name) ds

-- what the index says of a name; none where it has no entry
abbrev pub joined : {A : Type 0} → Option (Option A) → Option A
joined None = None
joined (Some o) = o
