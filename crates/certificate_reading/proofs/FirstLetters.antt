-- Lines of one tag are no lines of another.
use Rattle.std.proofs.Common.{◌≡◌, sym, ap, ◌∙◌, ℕ, List, [], ◌∷◌, ◌++◌, lit≤}
use Rattle.std.specs.Prelude.{codes}
use Rattle.certificate_words.specs.Words.{Word, tag, number, IsWord, Line, IsLine, AreLines, line_onto}
use Rattle.certificate_words.proofs.OneText as texts
use Rattle.certificate_parts.specs.Runs.{lines_onto}
use Rattle.certificate_texts.specs.StateLines.{tagged}
use Rattle.certificate_texts.proofs.Blocks.{AllHave}
use Rattle.certificate_reading.specs.States.{IsNotTagged, IsEnd}

-- the first letter of a tag
abbrev pub word_letter : Word → ℕ
word_letter (tag []) = 0
word_letter (tag (b ∷ bs)) = b
word_letter (number z) = 0

abbrev pub letter : Line → ℕ
letter l = word_letter l.first

pub lines_split : (a b : List Line) → AreLines (a ++ b) → AreLines a × AreLines b
lines_split [] b h = (tt, h)
lines_split (l ∷ a) b h = let r = lines_split a b h.1 in ((h.0, r.0), r.1)

pub first_differs : (a b : ℕ) (xs ys : List ℕ) → (a ≡ b → ⊥) → tag (a ∷ xs) ≡ tag (b ∷ ys) → ⊥
first_differs a b xs ys other e = other (ap (λ w. word_letter w) e)

-- a line of another tag stands in front
pub other_first : (letters : List ℕ) (l : Line) (text : List ℕ) → IsWord (tag letters) → (tag letters ≡ l.first → ⊥)
    → IsLine l → IsNotTagged letters (line_onto l text)
other_first letters l text is other lawful =
    record {
      never = λ words rest h e.
          (let same = (texts.line l (tagged letters words) text rest lawful (is, h) e).0 in
          other (sym (ap (λ (m : Line). m.first) same)));
    }

-- lines of another tag, before what is none of this
pub ends_lines : (letters : List ℕ) (c : ℕ) (ls : List Line) (more : List ℕ) → IsWord (tag letters)
    → (word_letter (tag letters) ≡ c → ⊥) → AllHave letter c ls → AreLines ls → IsNotTagged letters more
    → IsNotTagged letters (lines_onto ls more)
ends_lines letters c [] more is other have lawful none = none
ends_lines letters c (l ∷ ls) more is other have lawful none =
    other_first letters l (lines_onto ls more) is (λ e. other (ap word_letter e ∙ have.0)) lawful.0

-- a line of another tag ends a state
pub ends_state : (l : Line) (text : List ℕ) → IsLine l → (tag (112 ∷ []) ≡ l.first → ⊥)
    → (tag (102 ∷ []) ≡ l.first → ⊥) → (tag (115 ∷ []) ≡ l.first → ⊥) → (tag (107 ∷ []) ≡ l.first → ⊥)
    → IsEnd (line_onto l text)
ends_state l text lawful p f s k =
    record {
      pending = other_first (codes "p") l text (lit≤ tt, lit≤ tt, tt) p lawful;
      fresh = other_first (codes "f") l text (lit≤ tt, lit≤ tt, tt) f lawful;
      stored = other_first (codes "s") l text (lit≤ tt, lit≤ tt, tt) s lawful;
      copies = other_first (codes "k") l text (lit≤ tt, lit≤ tt, tt) k lawful;
    }
