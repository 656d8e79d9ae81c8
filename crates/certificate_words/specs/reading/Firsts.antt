-- The first word of a text.
use Rattle.std.specs.Prelude.{◌≡◌, ℕ, zero, suc, List, [], ◌∷◌, ◌++◌}
use Rattle.certificate_words.specs.declared.firsts.First.{First}
use Rattle.certificate_words.specs.declared.firsts.First.TheVariants.{Spaced, Last, Nothing}
use Rattle.certificate_words.specs.Words.{Word, IsWord, word_text, AreWords, words_onto}
use Rattle.certificate_words.specs.Lines.{word_of}

-- the text begins with a lawful word, this byte and this text
pub record IsWordAnd (text : List ℕ) (w : Word) (byte : ℕ) (behind : List ℕ) : Type 0 where
  pub lawful : IsWord w
  pub is : text ≡ word_text w ++ (byte ∷ behind)

-- the text begins with no lawful words of a line
pub record HasNoWords (text : List ℕ) : Type 0 where
  pub never : (w : Word) (ws : List Word) (rest : List ℕ) → IsWord w → AreWords ws → text ≡ words_onto w ws rest → ⊥

abbrev pub IsFirst : List ℕ → First → Type 0
IsFirst text (Spaced w behind) = IsWordAnd text (word_of w) 32 behind.now
IsFirst text (Last w behind) = IsWordAnd text (word_of w) 10 behind.now
IsFirst text Nothing = HasNoWords text

-- the word with the byte behind it, and what stands behind that; nothing where the byte ends no word
abbrev pub IsEnded : Word → ℕ → List ℕ → First → Type 0
IsEnded w byte behind (Spaced v more) = (word_of v ≡ w) × (byte ≡ 32) × (more.now ≡ behind)
IsEnded w byte behind (Last v more) = (word_of v ≡ w) × (byte ≡ 10) × (more.now ≡ behind)
IsEnded w byte behind Nothing = (byte ≡ 32 → ⊥) × (byte ≡ 10 → ⊥)

-- what stands between a word and so many words before it
abbrev pub spacing : ℕ → List ℕ
spacing zero = []
spacing (suc n) = 32 ∷ []
