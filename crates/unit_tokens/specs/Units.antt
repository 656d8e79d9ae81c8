-- The units of a text, by the numbers of the lines that stand before them.
use Rattle.std.specs.Prelude.{◌≢◌, ℕ, ◌<◌, nat_lt, List, length, take, drop, filter}

-- the unit, counted from 1, in which a line stands; 0 before the first
abbrev pub unit_of : List ℕ → ℕ → ℕ
unit_of borders line = length (filter (λ border. nat_lt border line) borders)

-- some bytes stand nowhere in a text
pub record IsNowhere (mark text : List ℕ) : Type 0 where
  pub some : 0 < length mark
  pub nowhere : (k : ℕ) → k < length text → take (length mark) (drop k text) ≢ mark
