-- Which bytes are words.
use Rattle.std.proofs.Common.{◌≡◌, refl, sym, ap, ◌∙◌, ℕ, ◌≤◌, ℤ, pos, true, false, List, []}
use Rattle.std.proofs.Common.{◌∷◌, nat_le, arith}
use Rattle.std.specs.Prelude.{negsuc}
use Rattle.std.specs.List.{list_all}
use Rattle.std.proofs.lemmas.Bool.{and_parts, and_from}
use Rattle.std.proofs.lemmas.Bool.Decides.{nat_tests}
use Rattle.certificate_words.specs.Words.{Word, tag, number, AreLetters, IsWord}
use Rattle.certificate_words.specs.Lines.{IsTextOf, IsNoWord}
use Rattle.certificate_words.specs.reading.Letters.{is_letter, is_tag}
use Rattle.certificate_words.specs.reading.Digits.{IsNumber}

above : (b : ℕ) → nat_le 97 b ≡ true → 97 ≤ b
above b h = grind (arith, nat_tests)

below : (b : ℕ) → nat_le b 122 ≡ true → b ≤ 122
below b h = grind (arith, nat_tests)

is_above : (b : ℕ) → 97 ≤ b → nat_le 97 b ≡ true
is_above b h = grind (arith, nat_tests)

is_below : (b : ℕ) → b ≤ 122 → nat_le b 122 ≡ true
is_below b h = grind (arith, nat_tests)

letters : (bs : List ℕ) → list_all is_letter bs ≡ true → AreLetters bs
letters [] h = tt
letters (b ∷ bs) h =
    let p = and_parts (is_letter b) (list_all is_letter bs) h in
    let q = and_parts (nat_le 97 b) (nat_le b 122) p.0 in
    (above b q.0, below b q.1, letters bs p.1)

are_letters : (bs : List ℕ) → AreLetters bs → list_all is_letter bs ≡ true
are_letters [] h = refl
are_letters (b ∷ bs) h =
    and_from (is_letter b) (list_all is_letter bs)
    (and_from (nat_le 97 b) (nat_le b 122) (is_above b h.0) (is_below b h.1)) (are_letters bs h.2)

pub tag_is : (bs : List ℕ) → is_tag bs ≡ true → IsTextOf bs (tag bs)
tag_is [] h = absurd (cc)
tag_is (b ∷ bs) h = record { lawful = letters (b ∷ bs) h; is = refl }

is_tag_of : (bs : List ℕ) → IsWord (tag bs) → is_tag bs ≡ true
is_tag_of [] h = absurd h
is_tag_of (b ∷ bs) h = are_letters (b ∷ bs) h

pub number_is : (bs : List ℕ) (z : ℤ) → IsNumber bs z → IsTextOf bs (number z)
number_is bs (pos n) h = record { lawful = h.0; is = h.1 }
number_is bs (negsuc n) h = record { lawful = h.0; is = h.1 }

is_number : (bs : List ℕ) (z : ℤ) → IsTextOf bs (number z) → IsNumber bs z
is_number bs (pos n) h = (h.lawful, h.is)
is_number bs (negsuc n) h = (h.lawful, h.is)

pub no_word : (bs : List ℕ) → is_tag bs ≡ false → ((z : ℤ) → IsNumber bs z → ⊥) → IsNoWord bs
no_word bs other none = record { never = by_word }
  where
    by_word : (w : Word) → IsTextOf bs w → ⊥
    by_word (tag letters) h =
        let e : true ≡ false = sym (is_tag_of letters h.lawful) ∙ (ap is_tag (sym h.is) ∙ other) in cc
    by_word (number z) h = none z (is_number bs z h)
