-- The source in a certificate, by its bytes.
--
-- The bytes `tmcert 1`, `source 6`, `int x;`, each with byte 10 behind it, have the source `int x;`, and what stands
-- behind them is told of its program.
use Rattle.std.specs.Prelude.{◌≡◌, ℕ, List, [], ◌∷◌, ◌++◌, length, codes, decimal}

-- the head of a certificate: two lines, of which the second tells how many bytes the source has
abbrev pub head_of : ℕ → List ℕ
head_of count = codes "tmcert 1\nsource " ++ (decimal count ++ (10 ∷ []))

-- the bytes are the head, the source, byte 10, and what is told of the program of the source
pub record HasSource (bytes source told : List ℕ) : Type 0 where
  pub is : bytes ≡ head_of (length source) ++ (source ++ (10 ∷ told))
