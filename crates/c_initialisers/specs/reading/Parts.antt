-- An element of an array, as the code finds it.
use Rattle.std.specs.Prelude.{ℕ, ◌*◌, cond, nat_lt, Option, Some, None}
use Rattle.tm_typed.specs.declared.scopes.Part.{Part}
use Rattle.tm_typed.specs.Scopes.{Scope, cells_of}
use Rattle.tm_typed.specs.TypeRows.{clipped}
use Rattle.tm_typed.specs.Initialisers.{part_number}

abbrev pub element_in : Scope → ℕ → ℕ → ℕ → Option Part
element_in scope e n i = cond (nat_lt i n) (Some (part_number e (clipped (i * cells_of scope e)))) None
