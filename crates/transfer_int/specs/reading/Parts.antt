-- Parts of a set, and the least intervals of results.
use Rattle.std.specs.Prelude.{ℤ, ◌≤ℤ◌}
use Rattle.strided_dom.specs.Progression.{Progression, Has, IsLeastNumber, IsGreatestNumber}
use Rattle.interval_dom.specs.Interval.{Span}

-- v is a member from low to high.
pub record IsPart (a : Progression) (low high v : ℤ) : Type 0 where
  pub member : Has a v
  pub from : low ≤ℤ v
  pub to : v ≤ℤ high

-- The interval goes from the least to the greatest number with the property P.
pub record IsLeastSpan (P : ℤ → Type 0) (span : Span) : Type 0 where
  pub least : IsLeastNumber P span.lo
  pub greatest : IsGreatestNumber P span.hi
