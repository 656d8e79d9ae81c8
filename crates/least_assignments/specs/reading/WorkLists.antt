-- For the loop of the work list: what bringing values to variables keeps, and what is left to do.
use Rattle.std.specs.Prelude.{◌≡◌, ℕ, suc, ◌+◌, ◌*◌, ◌-◌, ◌<◌, ◌⊎◌, List, [], ◌∷◌, slice_index_or, length, Option, Some}
use Rattle.std.specs.Prelude.{None, Bool, true, false}
use Rattle.std.specs.List.{count_by}
use Rattle.tm_lattice.specs.declared.lattices.Lattice as lattice
use Rattle.tm_lattice.specs.Tables.{IsBelow}
use Rattle.least_assignments.specs.Constraints.{Assignment, Constraints, at, AgreeFor, IsPointwiseBelow}
use Rattle.least_assignments.specs.Solutions.{AreRound, IsClosed, AreDoneOrPending, IsLeastAbove}

module _ {V M : Type 0} (values : lattice.Ghosts V M) (suits : ℕ → V → Type 0) (allows : ℕ → Assignment V → Type 0)
    (sys : Constraints V) where
  abbrev Under : Assignment V → Assignment V → Type 0
  Under a b = IsPointwiseBelow sys values.leq a b

  -- how far a value or bottom is from the top of its variable
  abbrev pub room_at : ℕ → Option V → ℕ
  room_at i None = sys.limit i + 1
  room_at i (Some v) = sys.limit i - sys.height v

  -- how far a list of values, from this variable on, is from the top
  abbrev pub room : ℕ → List (Option V) → ℕ
  room i [] = 0
  room i (x ∷ xs) = room_at i x + room (suc i) xs

  -- what is left to do
  abbrev pub left : List (Option V) → List Bool → ℕ
  left xs pending = room 0 xs * (sys.constraint_count + 1) + count_by (λ b. b) pending

  -- Values were brought to variables, so that an assignment holds them where `Holds` says so of it: nothing falls, a
  -- constraint that is not pending was not, and nothing that it reads rose; and what came about is no more than it has
  -- to be.
  pub record IsRise (Holds : Assignment V → Type 0) (xs : List (Option V)) (pending : List Bool) (ys : List (Option V))
      (later : List Bool) : Type 0 where
    pub variables : length ys ≡ length xs
    pub constraints : length later ≡ length pending
    pub round : AreRound values suits allows sys (at ys)
    pub above : Under (at xs) (at ys)
    pub holds : Holds (at ys)
    pub quiet : (k : ℕ) → k < sys.constraint_count → slice_index_or later k true ≡ false
        → (slice_index_or pending k true ≡ false) × AgreeFor sys k (at xs) (at ys)
    pub below : (other : Assignment V) → IsClosed values suits allows sys other → Under (at xs) other → Holds other
        → Under (at ys) other
    pub fewer : ((ys ≡ xs) × (later ≡ pending)) ⊎ (room 0 ys < room 0 xs)

  -- the assignment holds the value at the variable
  abbrev pub HoldsAt : ℕ → V → Assignment V → Type 0
  HoldsAt i v a = IsBelow values.leq (Some v) (a i)

  -- the assignment holds the values of these numbers at their targets
  abbrev pub HoldsBelow : ℕ → List ℕ → (ℕ → Option V) → Assignment V → Type 0
  HoldsBelow n targets given a = (j : ℕ) → j < n → IsBelow values.leq (given j) (a (slice_index_or targets j 0))

  -- what one step of the loop keeps, and that it goes on towards an end
  pub record IsStep (xs : List (Option V)) (pending : List Bool) (ys : List (Option V)) (later : List Bool) : Type 0
    where
      pub variables : length ys ≡ length xs
      pub constraints : length later ≡ length pending
      pub round : AreRound values suits allows sys (at ys)
      pub done : AreDoneOrPending values suits allows sys (at ys) later
      pub risen : Under (at xs) (at ys)
      pub least : IsLeastAbove values suits allows sys (at xs) (at ys)
      pub smaller : left ys later < left xs pending
