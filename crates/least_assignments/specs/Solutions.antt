-- The closed assignments of a system of constraints, and the least one.
use Rattle.std.specs.Prelude.{◌≡◌, ℕ, ◌<◌, List, slice_index_or, Bool, true, false, IfSome}
use Rattle.tm_lattice.specs.declared.lattices.Lattice as lattice
use Rattle.tm_lattice.specs.Tables.{IsBelow}
use Rattle.least_assignments.specs.Constraints.{Assignment, Constraints, target_count, target, AreFitting}
use Rattle.least_assignments.specs.Constraints.{IsPointwiseBelow}

module _ {V M : Type 0} (values : lattice.Ghosts V M) (suits : ℕ → V → Type 0) (allows : ℕ → Assignment V → Type 0)
    (sys : Constraints V) where
  abbrev Under : Assignment V → Assignment V → Type 0
  Under a b = IsPointwiseBelow sys values.leq a b

  -- each value fits its variable and is its own rounding
  pub record AreRound (a : Assignment V) : Type 0 where
    pub fits : AreFitting sys suits a
    pub round : (i : ℕ) → i < sys.variable_count → IfSome (a i) (λ v. sys.outward i v ≡ v)

  -- the assignment is at least what the constraint brings
  abbrev pub IsMet : ℕ → Assignment V → Type 0
  IsMet k a = (j : ℕ) → j < target_count sys k → IsBelow values.leq (sys.gives k a j) (a (target sys k j))

  -- a round assignment at which each constraint is met
  pub record IsClosed (a : Assignment V) : Type 0 where
    pub round : AreRound a
    pub met : (k : ℕ) → k < sys.constraint_count → IsMet k a

  -- a closed assignment that lies below every closed one
  pub record IsLeast (a : Assignment V) : Type 0 where
    pub closed : IsClosed a
    pub below : (other : Assignment V) → IsClosed other → Under a other

  -- each constraint may be applied at the assignment
  abbrev pub AreAllowed : Assignment V → Type 0
  AreAllowed a = (k : ℕ) → k < sys.constraint_count → allows k a

  -- some constraint may not be applied at an assignment that lies below every closed one above the first
  pub record IsRefused (before : Assignment V) : Type 0 where
    pub constraint : ℕ
    pub within : constraint < sys.constraint_count
    pub reached : Assignment V
    pub below : (other : Assignment V) → IsClosed other → Under before other → Under reached other
    pub refused : allows constraint reached → ⊥

  -- the constraint is met, and may be applied
  pub record IsDone (k : ℕ) (a : Assignment V) : Type 0 where
    pub met : IsMet k a
    pub allowed : allows k a

  -- each constraint is done or pending
  abbrev pub AreDoneOrPending : Assignment V → List Bool → Type 0
  AreDoneOrPending a pending = (k : ℕ) → k < sys.constraint_count → slice_index_or pending k true ≡ false → IsDone k a

  -- the later assignment lies below every closed one above the earlier one
  abbrev pub IsLeastAbove : Assignment V → Assignment V → Type 0
  IsLeastAbove before a = (other : Assignment V) → IsClosed other → Under before other → Under a other
