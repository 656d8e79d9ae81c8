-- A scope to which types are added one after the other.
use Rattle.std.specs.Prelude.{List, [], ◌∷◌}
use Rattle.tm_typed.specs.declared.types.CType.{CType}
use Rattle.tm_typed.specs.Scopes.{Scope}
use Rattle.tm_typed.specs.TypeRows.{with_type}

abbrev pub with_types : Scope → List CType → Scope
with_types scope [] = scope
with_types scope (t ∷ ts) = with_types (with_type scope t) ts
