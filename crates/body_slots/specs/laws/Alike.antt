-- Closed and least assignments do not depend on how values are rounded, nor on where constraints may be applied.
use Rattle.std.specs.Prelude.{ℕ, Option, Some, None}
use Rattle.least_assignments.specs.tm_lattice.declared.lattices.Lattice as lattice
use Rattle.least_assignments.specs.tm_lattice.Tables.{IsBelow}
use Rattle.least_assignments.specs.Constraints.{Assignment, Constraints}
use Rattle.least_assignments.specs.Solutions.{IsClosed, IsLeast, IsLeastAbove}

module _ {V M : Type 0} (one other : lattice.Ghosts V M) (suits : ℕ → V → Type 0)
    (allows allows' : ℕ → Assignment V → Type 0) (sys : Constraints V)
    (onward : (v w : V) → one.leq v w → other.leq v w) (back : (v w : V) → other.leq v w → one.leq v w) where
  below_onward : (x y : Option V) → IsBelow one.leq x y → IsBelow other.leq x y
  below_onward None y h = tt
  below_onward (Some v) None h = h
  below_onward (Some v) (Some w) h = onward v w h

  below_back : (x y : Option V) → IsBelow other.leq x y → IsBelow one.leq x y
  below_back None y h = tt
  below_back (Some v) None h = h
  below_back (Some v) (Some w) h = back v w h

  pub closed_onward : (a : Assignment V) → IsClosed one suits allows sys a → IsClosed other suits allows' sys a
  closed_onward a h = record {
    round = record { fits = h.round.fits; round = h.round.round };
    met = λ k lt j j-lt. below_onward _ _ (h.met k lt j j-lt);
  }

  closed_back : (a : Assignment V) → IsClosed other suits allows' sys a → IsClosed one suits allows sys a
  closed_back a h = record {
    round = record { fits = h.round.fits; round = h.round.round };
    met = λ k lt j j-lt. below_back _ _ (h.met k lt j j-lt);
  }

  pub least_alike : (a : Assignment V) → IsLeast one suits allows sys a → IsLeast other suits allows' sys a
  least_alike a h = record {
    closed = closed_onward a h.closed;
    below = λ b closed i lt. below_onward _ _ (h.below b (closed_back b closed) i lt);
  }

  pub above_alike : (before a : Assignment V) → IsLeastAbove one suits allows sys before a
      → IsLeastAbove other suits allows' sys before a
  above_alike before a h = λ b closed under i lt.
      below_onward _ _ (h b (closed_back b closed) (λ j j-lt. below_back _ _ (under j j-lt)) i lt)
