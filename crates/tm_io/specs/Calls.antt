-- Streams in memory, which fail at listed calls: the calls are numbered from 1, and counted up to 2^64-1.
use Rattle.std.specs.Prelude.{◌<◌, ◌+◌, ◌-◌, ◌^◌, ◌==◌, ℕ, zero, suc, List, Contains, if◌then◌else◌, min}
use Rattle.std.specs.List.{list_any}

-- a source in memory: what is left, how many bytes it gives a call, which calls fail, how many calls there were
pub record MemoryInput : Type 0 where
  pub left : List ℕ
  pub piece : ℕ
  pub failing : List ℕ
  pub calls : ℕ

-- a sink in memory: what it has taken, how many bytes it takes a call, which calls fail, how many calls there were
pub record MemoryOutput : Type 0 where
  pub taken : List ℕ
  pub piece : ℕ
  pub failing : List ℕ
  pub calls : ℕ

-- after so many calls, the next one is listed, and still counted
abbrev pub FailsNext : List ℕ → ℕ → Type 0
FailsNext failing calls = (calls < 2 ^ 64 - 1) × Contains failing (calls + 1)

-- the count of calls after one more
abbrev pub one_more : ℕ → ℕ
one_more calls = min (calls + 1) (2 ^ 64 - 1)

-- how many of the first so many calls are listed
abbrev pub faults_among : List ℕ → ℕ → ℕ
faults_among failing zero = 0
faults_among failing (suc n) = faults_among failing n + (if list_any (λ k. k == suc n) failing then 1 else 0)
