-- Texts of lines of words.
use Rattle.std.specs.Prelude.{ℕ, suc, ℤ, pos, negsuc, ◌≤◌, ◌<◌, ◌^◌, List, [], ◌∷◌, ◌++◌}
use Rattle.std.specs.Fmt.{signed_decimal}

-- a tag, or a number
pub data Word : Type 0 where
  tag : List ℕ → Word
  number : ℤ → Word

-- small letters of ASCII
abbrev pub AreLetters : List ℕ → Type 0
AreLetters [] = Unit {0}
AreLetters (b ∷ bs) = (97 ≤ b) × (b ≤ 122) × AreLetters bs

-- a tag has a letter, and a number is of a size below 2^64
abbrev pub IsWord : Word → Type 0
IsWord (tag []) = ⊥
IsWord (tag (b ∷ bs)) = AreLetters (b ∷ bs)
IsWord (number (pos n)) = n < 2 ^ 64
IsWord (number (negsuc n)) = suc n < 2 ^ 64

-- numbers stand in decimal, without zeros in front and with a minus sign where negative
abbrev pub word_text : Word → List ℕ
word_text (tag letters) = letters
word_text (number z) = signed_decimal z

-- a line has a word
pub record Line : Type 0 where
  pub first : Word
  pub rest : List Word

abbrev pub AreWords : List Word → Type 0
AreWords [] = Unit {0}
AreWords (w ∷ ws) = IsWord w × AreWords ws

abbrev pub IsLine : Line → Type 0
IsLine l = IsWord l.first × AreWords l.rest

abbrev pub AreLines : List Line → Type 0
AreLines [] = Unit {0}
AreLines (l ∷ ls) = IsLine l × AreLines ls

-- words with a space, byte 32, between each and the next, then byte 10, and a text behind it
abbrev pub words_onto : Word → List Word → List ℕ → List ℕ
words_onto w [] text = word_text w ++ (10 ∷ text)
words_onto w (v ∷ ws) text = word_text w ++ (32 ∷ words_onto v ws text)

abbrev pub line_onto : Line → List ℕ → List ℕ
line_onto l text = words_onto l.first l.rest text

abbrev pub lines_text : List Line → List ℕ
lines_text [] = []
lines_text (l ∷ ls) = line_onto l (lines_text ls)
