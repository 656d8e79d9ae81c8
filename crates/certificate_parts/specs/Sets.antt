-- Sets of numbers by their words.
use Rattle.std.specs.Prelude.{◌≡◌, suc, ◌<◌, ◌^◌, ℤ, pos, negsuc, List, ◌++◌}
use Rattle.strided_dom.specs.Progression.{Progression, empty, first_of, last_of, stride_of}
use Rattle.certificate_words.specs.Words.{Word}
use Rattle.certificate_words.specs.Numbers.{progression_words}

-- the number is of a size below 2^64
abbrev pub IsShort : ℤ → Type 0
IsShort (pos n) = n < 2 ^ 64
IsShort (negsuc n) = suc n < 2 ^ 64

-- the set has a number, these ends and this stride
pub record IsSetOf (s : Progression) (low high stride : ℤ) : Type 0 where
  pub some : s ≡ empty → ⊥
  pub first : first_of s ≡ low
  pub last : last_of s ≡ high
  pub step : pos (stride_of s) ≡ stride

pub record IsNoSet (low high stride : ℤ) : Type 0 where
  pub never : (s : Progression) → IsSetOf s low high stride → ⊥

-- the words begin with those of the set, which has a number; or with those of no such set
pub record BeginsWithSet (words : List Word) (s : Progression) (more : List Word) : Type 0 where
  pub some : s ≡ empty → ⊥
  pub is : words ≡ progression_words s ++ more

pub record BeginsWithNoSet (words : List Word) : Type 0 where
  pub never : (s : Progression) (more : List Word) → (s ≡ empty → ⊥) → words ≡ progression_words s ++ more → ⊥
