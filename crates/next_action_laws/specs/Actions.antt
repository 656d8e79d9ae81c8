-- What a task may do: which answers fit, and which actions are proper.
use Rattle.std.specs.Prelude.{◌≡◌, ℕ, ◌<◌, ◌≤◌, true, List, [], ◌∷◌, length, Option, Some, None, is_some}
use Rattle.cell_layout.specs.tm_typed.declared.types.Scalar.{Scalar}
use Rattle.cell_layout.specs.tm_laid.Layouts.{LaidTree, path_at, object_at, cell_at, cell_of, stands_at}
use Rattle.cell_types.specs.concrete_values.declared.values.Answer.{Answer}
use Rattle.cell_types.specs.concrete_values.declared.actions.Next.{Next}
use Rattle.cell_types.specs.concrete_values.declared.actions.Next.TheVariants as Acts
use Rattle.cell_types.specs.concrete_values.Actions.{is_of, answer_of}
use Rattle.concrete_steps.specs.NextAction.{After}

-- ## Answers

-- each answer fits the action that comes next after those before it
abbrev pub Fit : LaidTree → After → List Answer → Type 0
Fit laid after [] = Unit {0}
Fit laid after (a ∷ answers) = (is_some (answer_of laid (after []) a) ≡ true)
    × Fit laid (λ more. after (a ∷ more)) answers

-- ## Objects and cells

-- the path is one of the body
pub record IsBodyPath (laid : LaidTree) (body path : ℕ) : Type 0 where
  pub within : path < length laid.paths
  pub same : (path_at laid path).body ≡ body

-- an object with this owner is of static storage, or the body's own
abbrev pub MayUse : LaidTree → ℕ → Option ℕ → Type 0
MayUse laid body None = Unit {0}
MayUse laid body (Some path) = IsBodyPath laid body path

-- a cell of this type of an object that the body may use
pub record IsCell (laid : LaidTree) (body o k : ℕ) (s : Scalar) : Type 0 where
  pub object : o < length laid.objects
  pub usable : MayUse laid body (object_at laid o).owner
  pub inside : k < (object_at laid o).cells
  pub scalar : (cell_at laid (cell_of laid o k)).scalar ≡ s

-- an object of one of the body's own paths
pub record IsOwn (laid : LaidTree) (body o : ℕ) : Type 0 where
  pub object : o < length laid.objects
  pub path : ℕ
  pub owner : (object_at laid o).owner ≡ Some path
  pub own : IsBodyPath laid body path

-- ## Actions

-- An action that a task can do: loads and stores go to cells of their types, a stored value is one of the type, what is
-- cleared is the body's own, and mutexes are those of the file. It is no misfit.
abbrev pub IsProper : LaidTree → ℕ → Next → Type 0
IsProper laid body (Acts.Load o k s volatile p) = IsCell laid body o k s
IsProper laid body (Acts.Store o k s v p) = IsCell laid body o k s × (is_of laid s v ≡ true)
IsProper laid body (Acts.Chosen low high) = Unit {0}
IsProper laid body (Acts.Clear o) = IsOwn laid body o
IsProper laid body (Acts.Lock m p) = m < length laid.file.mutexes
IsProper laid body (Acts.Unlock m p) = m < length laid.file.mutexes
IsProper laid body Acts.Yield = Unit {0}
IsProper laid body (Acts.Probe m p) = m < length laid.file.mutexes
IsProper laid body (Acts.Fault class p) = Unit {0}
IsProper laid body Acts.Ended = Unit {0}
IsProper laid body Acts.Spins = Unit {0}
IsProper laid body Acts.Misfit = ⊥

-- ## Where types stand

-- the type stands at this offset of an object that the body may use, which is at most the size of the object
pub record IsPlace (laid : LaidTree) (body o k n : ℕ) : Type 0 where
  pub object : o < length laid.objects
  pub usable : MayUse laid body (object_at laid o).owner
  pub inside : k ≤ (object_at laid o).cells
  pub stands : stands_at laid o k n ≡ true
