-- Intervals of integers: what they hold, their order, and the ranges in which the calls take them.
use Rattle.std.specs.Prelude.{◌^◌, ℤ, pos, neg_ℤ, ◌≤ℤ◌, ◌<ℤ◌}
use Rattle.interval_dom.specs.declared.intervals.Interval.{Interval}
use Rattle.interval_dom.specs.declared.intervals.IntervalU.{IntervalU}

-- an interval of integers, of which one with lo above hi is empty
pub record Span : Type 0 where
  pub lo : ℤ
  pub hi : ℤ

abbrev pub span_of : Interval → Span
span_of i = record { lo = i.lo; hi = i.hi }

abbrev pub span_of_unsigned : IntervalU → Span
span_of_unsigned u = record { lo = pos u.lo; hi = pos u.hi }

-- x lies in the interval
pub record InInterval (i : Span) (x : ℤ) : Type 0 where
  pub low : i.lo ≤ℤ x
  pub high : x ≤ℤ i.hi

-- it is not empty
abbrev pub IsOrdered : Span → Type 0
IsOrdered i = i.lo ≤ℤ i.hi

-- every number of a lies in b, where a is not empty
pub record IsWithin (a b : Span) : Type 0 where
  pub low : b.lo ≤ℤ a.lo
  pub high : a.hi ≤ℤ b.hi

-- all its numbers are values of C types of at most 64 bits
pub record HasTypeValues (a : Interval) : Type 0 where
  pub low : neg_ℤ (pos (2 ^ 63)) ≤ℤ a.lo
  pub high : a.hi <ℤ pos (2 ^ 64)

-- all are values of the signed type of 64 bits
pub record HasSignedValues (a : Interval) : Type 0 where
  pub low : neg_ℤ (pos (2 ^ 63)) ≤ℤ a.lo
  pub high : a.hi <ℤ pos (2 ^ 63)

-- all are values of the unsigned type of 64 bits
pub record HasUnsignedValues (a : Interval) : Type 0 where
  pub low : pos 0 ≤ℤ a.lo
  pub high : a.hi <ℤ pos (2 ^ 64)

-- all are counts of a shift of 64 bits
pub record HasCounts (n : Interval) : Type 0 where
  pub low : pos 0 ≤ℤ n.lo
  pub high : n.hi <ℤ pos 64
