-- The numbers of an interval row and a congruence row, and whether a type holds them all.
use Rattle.std.specs.Prelude.{ℕ, ◌^◌, ℤ, pos, ◌+ℤ◌, ◌-ℤ◌, ◌<ℤ◌}
use Rattle.std.specs.Int.{◌∣◌}
use Rattle.strided_dom.specs.Progression.{IsSpaced}
use Rattle.interval_dom.specs.Interval.{Span, InInterval, span_of}
use Rattle.interval_dom.specs.declared.intervals.Interval.{Interval}
use Rattle.congruence_dom.specs.Class.{InClass}
use Rattle.congruence_dom.specs.declared.classes.Cong.{Cong}
use Rattle.tm_cint.specs.IntTypes.{IsIn}
use Rattle.tm_cint.specs.declared.int_types.IntType.{IntType}

-- v lies in the interval and in the class.
pub record IsMember (span : Span) (class : Cong) (v : ℤ) : Type 0 where
  pub in_span : InInterval span v
  pub in_class : InClass class v

-- v has the property R, and is a value of the type.
pub record IsMet (t : IntType) (R : ℤ → Type 0) (v : ℤ) : Type 0 where
  pub in_rows : R v
  pub in_type : IsIn t v

-- Some number with the property R is no value of the type.
pub record HasOutside (t : IntType) (R : ℤ → Type 0) : Type 0 where
  pub number : ℤ
  pub in_rows : R number
  pub outside : IsIn t number → ⊥

-- The interval from low to high
abbrev pub from_to : ℤ → ℤ → Span
from_to low high = record { lo = low; hi = high }

-- The numbers from first to first and extent in steps of step are those of the interval and the class.
pub record AreMembers (span : Span) (class : Cong) (first : ℤ) (extent step : ℕ) : Type 0 where
  pub steps : step ∣ extent
  pub sound : (v : ℤ) → IsSpaced first (first +ℤ pos extent) step v → IsMember span class v
  pub complete : (v : ℤ) → IsMember span class v → IsSpaced first (first +ℤ pos extent) step v

-- The numbers of the interval, which is less than 2^127 long, and of the class are those with the property R.
pub record AreRows (R : ℤ → Type 0) (span : Interval) (class : Cong) : Type 0 where
  pub narrow : (span.hi -ℤ span.lo) <ℤ pos (2 ^ 127)
  pub sound : (v : ℤ) → IsMember (span_of span) class v → R v
  pub complete : (v : ℤ) → R v → IsMember (span_of span) class v
