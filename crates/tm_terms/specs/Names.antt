-- The names that typedefs have declared.
use Rattle.std.specs.Prelude.{Bool, cond, ◌&&◌, ◌==◌, List, [], ◌∷◌, ◌++◌}
use Rattle.std.specs.List.{list_any}
use Rattle.tm_terms.specs.declared.tokens.Name.{Name}

-- two names of one source are the same text
abbrev pub is_same_name : Name → Name → Bool
is_same_name m n = (m.start == n.start) && (m.length == n.length)

-- a typedef has declared this name
abbrev pub is_typedef : List Name → Name → Bool
is_typedef types n = list_any (is_same_name n) types

-- the names with one more, at the end, unless it is there already
abbrev pub with_typedef : List Name → Name → List Name
with_typedef types n = cond (is_typedef types n) types (types ++ n ∷ [])
