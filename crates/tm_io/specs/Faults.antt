-- When a stream may say that it has failed: by its count of faults, before a call and after it.
use Rattle.std.specs.Prelude.{◌≡◌, ◌⊎◌, ◌<◌, ◌≤◌, ◌+◌, ◌-◌, ◌^◌, ℕ, min, Result, OnOk, OnErr}

-- the count rose, or it stands at its greatest value
abbrev pub Rose : ℕ → ℕ → Type 0
Rose old new = (old < new) ⊎ (new ≡ 2 ^ 64 - 1)

-- the count never falls, stays where the call succeeds, and rises where it fails
pub record HasCause {T E : Type 0} (old new : ℕ) (result : Result T E) : Type 0 where
  pub later : old ≤ new
  pub succeeded : OnOk result (new ≡ old)
  pub failed : OnErr result (Rose old new)

-- a reader or a writer, and how often it has failed
pub record Counted (Stream : Type 0) : Type 0 where
  pub stream : Stream
  pub faults : ℕ

-- the count after one more fault
abbrev pub one_fault_more : ℕ → ℕ
one_fault_more faults = min (faults + 1) (2 ^ 64 - 1)
