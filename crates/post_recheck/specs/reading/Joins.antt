-- What is joined of the checks of bodies.
use Rattle.std.specs.Prelude.{◌≡◌, ℕ, zero, suc, ◌<◌, List, slice_get, Option, Some, None}
use Rattle.std.specs.declared.result.Result.{Result}
use Rattle.std.specs.declared.result.Result.TheVariants.{Ok, Err}
use Rattle.tm_lattice.specs.declared.memory.NoMemory.{NoMemory}
use Rattle.interfere_set.specs.Stores.{Interferences, no_interference, joined_store}
use Rattle.post_recheck.specs.declared.bodies.BodyCheck.{BodyCheck}
use Rattle.post_recheck.specs.declared.bodies.BodyCheck.TheVariants as Bodies

-- what a check says that a body contributes; nothing where there is none, or where it says otherwise
abbrev pub added_by : Option (Result BodyCheck NoMemory) → Interferences
added_by None = no_interference
added_by (Some (Err e)) = no_interference
added_by (Some (Ok (Bodies.Uncovered edge))) = no_interference
added_by (Some (Ok (Bodies.Covered added))) = added

-- the join of what the bodies below a number contribute
abbrev pub joined_below : (ℕ → Interferences) → ℕ → Interferences
joined_below added zero = no_interference
joined_below added (suc t) = joined_store (joined_below added t) (added t)

abbrev pub joined_by : List (Result BodyCheck NoMemory) → ℕ → Interferences
joined_by checks t = joined_below (λ u. added_by (slice_get checks u)) t

-- the bodies below a number are covered
abbrev pub AreCoveredBelow : List (Result BodyCheck NoMemory) → ℕ → Type 0
AreCoveredBelow checks t =
    (u : ℕ) → u < t → slice_get checks u ≡ Some (Ok (Bodies.Covered (added_by (slice_get checks u))))
