-- Pairs of numbers in order.
use Rattle.std.specs.Prelude.{◌≡◌, ◌⊎◌, ◌↔◌, ℕ, ◌<◌, ◌≤◌, List, length, get_or, Contains}
use Rattle.operand_orders.specs.declared.pairs.Pair.{Pair}

-- the pair of these numbers
abbrev pub pair : ℕ → ℕ → Pair
pair first second = record { first = first; second = second }

abbrev pub swapped : Pair → Pair
swapped p = pair p.second p.first

-- the first numbers decide, then the second ones
abbrev pub IsBefore : Pair → Pair → Type 0
IsBefore p q = (p.first < q.first) ⊎ ((p.first ≡ q.first) × (p.second < q.second))

-- that with a number
abbrev pub pair_at : List Pair → ℕ → Pair
pair_at pairs i = get_or pairs i (pair 0 0)

-- each comes before all behind it
pub record AreRising (pairs : List Pair) : Type 0 where
  pub each : (i j : ℕ) → i < j → j < length pairs → IsBefore (pair_at pairs i) (pair_at pairs j)

-- the same pairs, in order and each once
pub record AreInOrder (given ordered : List Pair) : Type 0 where
  pub rising : AreRising ordered
  pub same : (p : Pair) → Contains ordered p ↔ Contains given p

-- this many come before a pair
pub record IsFirstNotBefore (pairs : List Pair) (wanted : Pair) (n : ℕ) : Type 0 where
  pub within : n ≤ length pairs
  pub before : (k : ℕ) → k < n → IsBefore (pair_at pairs k) wanted
  pub after : (k : ℕ) → n ≤ k → k < length pairs → IsBefore (pair_at pairs k) wanted → ⊥

-- a pair of the number with one of the range
pub record HasBetween (pairs : List Pair) (number first end : ℕ) : Type 0 where
  pub other : ℕ
  pub from : first ≤ other
  pub to : other < end
  pub has : Contains pairs (pair number other)
