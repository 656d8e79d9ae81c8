-- Lines at the front of a text, and words as code holds them.
use Rattle.std.specs.Prelude.{◌≡◌, ℕ, List, [], ◌∷◌}
use Rattle.certificate_words.specs.declared.words.Word.{Word as Held}
use Rattle.certificate_words.specs.declared.words.Word.TheVariants.{Tag, Number}
use Rattle.certificate_words.specs.Words.{Word, tag, number, IsWord, word_text, Line, IsLine, line_onto, words_onto}

abbrev pub word_of : Held → Word
word_of (Tag letters) = tag letters.now
word_of (Number z) = number z

abbrev pub words_of : List Held → List Word
words_of [] = []
words_of (w ∷ ws) = word_of w ∷ words_of ws

-- the text is that of the word, which is lawful
pub record IsTextOf (text : List ℕ) (word : Word) : Type 0 where
  pub lawful : IsWord word
  pub is : text ≡ word_text word

-- the text is that of no lawful word
pub record IsNoWord (text : List ℕ) : Type 0 where
  pub never : (word : Word) → IsTextOf text word → ⊥

-- the text of a line of these words; with no word, which no lawful line has, byte 10 alone
abbrev pub line_text : List Word → List ℕ
line_text [] = 10 ∷ []
line_text (w ∷ ws) = words_onto w ws []

-- the text begins with the lawful line of these words, and the rest stands behind it
pub record IsNextLine (text : List ℕ) (words : List Word) (rest : List ℕ) : Type 0 where
  pub line : Line
  pub lawful : IsLine line
  pub words_are : line.first ∷ line.rest ≡ words
  pub text_is : text ≡ line_onto line rest

-- the text begins with no lawful line
pub record HasNoLine (text : List ℕ) : Type 0 where
  pub never : (line : Line) (rest : List ℕ) → IsLine line → text ≡ line_onto line rest → ⊥
