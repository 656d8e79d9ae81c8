-- Where a cell is found, as the code keeps it.
use Rattle.std.specs.Prelude.{ℕ, ◌*◌, ◌%◌, cond, nat_lt}
use Rattle.c_initialisers.specs.declared.scalars.Found.{Found}
use Rattle.c_initialisers.specs.declared.scalars.Found.TheVariants as Founds
use Rattle.tm_typed.specs.Scopes.{Scope, cells_of}
use Rattle.tm_typed.specs.StaticValues.{Found as FoundTree, a_scalar, inside, nowhere}

abbrev pub found_tree : Found → FoundTree
found_tree (Founds.Scalar t) = a_scalar t
found_tree (Founds.Inside n c) = inside n c
found_tree Founds.Nowhere = nowhere

-- an array of l elements of the type n
abbrev pub in_array : Scope → ℕ → ℕ → ℕ → FoundTree
in_array scope n l c = cond (nat_lt c (l * cells_of scope n)) (inside n (c % cells_of scope n)) nowhere
