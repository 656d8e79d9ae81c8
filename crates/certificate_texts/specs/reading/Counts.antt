-- The number of bytes of a source, in the second line of a certificate.
use Rattle.std.specs.Prelude.{◌≡◌, ℕ, ◌+◌, ◌<◌, ◌^◌, List, ◌∷◌, ◌++◌, length, drop, codes, decimal}

-- what stands before the number
abbrev pub front : List ℕ
front = codes "tmcert 1" ++ (10 ∷ codes "source ")

-- a number of so many digits stands in front, and byte 10 behind it
pub record IsCounted (told : List ℕ) (count digits : ℕ) : Type 0 where
  pub below : count < 2 ^ 64
  pub size : digits ≡ length (decimal count)
  pub is : told ≡ decimal count ++ (10 ∷ drop (digits + 1) told)

-- no number below 2^64 stands in front with byte 10 behind it
pub record HasNoCount (told : List ℕ) : Type 0 where
  pub never : (count : ℕ) (rest : List ℕ) → count < 2 ^ 64 → told ≡ decimal count ++ (10 ∷ rest) → ⊥
