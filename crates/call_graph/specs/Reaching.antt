-- What the marking of the functions that one reaches keeps.
use Rattle.std.specs.Prelude.{◌≡◌, ℕ, suc, ◌<◌, ◌+◌, ◌⊎◌, Bool, true, false, List, [], ◌∷◌, length, get_or, All}
use Rattle.std.specs.Prelude.{Contains}
use Rattle.tm_typed.specs.CallGraph.{Reaches, calls_in}

abbrev pub IsMarked : List Bool → ℕ → Type 0
IsMarked marks f = get_or marks f false ≡ true

-- the functions that are not marked
abbrev pub unmarked : List Bool → ℕ
unmarked [] = 0
unmarked (true ∷ marks) = unmarked marks
unmarked (false ∷ marks) = suc (unmarked marks)

-- the callees were marked, and those that had not been wait
pub record HasMarked (callees : List ℕ) (old new : List Bool) (waiting waits : List ℕ) : Type 0 where
  pub same : length new ≡ length old
  pub kept : (g : ℕ) → IsMarked old g → IsMarked new g
  pub marked : (g : ℕ) → Contains callees g → IsMarked new g
  pub only : (g : ℕ) → IsMarked new g → IsMarked old g ⊎ (Contains callees g × Contains waits g)
  pub wait_on : (g : ℕ) → Contains waiting g → Contains waits g
  pub wait_only : (g : ℕ) → Contains waits g → Contains waiting g ⊎ Contains callees g
  pub count : unmarked new + length waits ≡ unmarked old + length waiting

-- What f reaches is marked but for what the waiting functions reach.
pub record IsMarking (graph : List (List ℕ)) (f : ℕ) (marks : List Bool) (waiting : List ℕ) : Type 0 where
  pub same : length marks ≡ length graph
  pub within : All (λ g. g < length graph) waiting
  pub reached : (g : ℕ) → IsMarked marks g → Reaches (calls_in graph) f g
  pub started : (g : ℕ) → Contains (calls_in graph f) g → IsMarked marks g
  pub wait_marked : (g : ℕ) → Contains waiting g → IsMarked marks g
  pub closed : (g : ℕ) → IsMarked marks g → Contains waiting g ⊎ All (IsMarked marks) (calls_in graph g)
