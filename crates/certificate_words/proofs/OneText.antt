-- Each text is that of one list of lines.
use Rattle.std.proofs.Common.{◌≡◌, refl, sym, ap, subst, ◌∙◌, ℕ, suc, ◌≤◌, ◌<◌, ◌^◌, ℤ, pos, List, [], ◌∷◌, ◌++◌}
use Rattle.std.proofs.Common.{arith}
use Rattle.std.specs.Prelude.{negsuc, decimal}
use Rattle.std.specs.Str.Parse.{AllDigits, IsNumeral, digits_value}
use Rattle.std.proofs.lemmas.Fmt.{decimal_is_IsNumeral}
use Rattle.std.proofs.lemmas.Str.Parse.{tells_digits}
use Rattle.certificate_words.specs.Words.{Word, tag, number, AreLetters, IsWord, word_text, Line, AreWords, IsLine}
use Rattle.certificate_words.specs.Words.{AreLines, words_onto, line_onto, lines_text}
use Rattle.certificate_words.specs.reading.Letters.{AreAbove}

-- ## Bytes above the space

-- what stands before the first byte that is none of these
pub cut : (a b : List ℕ) (x y : ℕ) (r s : List ℕ) → AreAbove a → AreAbove b → x ≤ 32 → y ≤ 32
    → a ++ (x ∷ r) ≡ b ++ (y ∷ s) → (a ≡ b) × (x ≡ y) × (r ≡ s)
cut [] [] x y r s h k lx ly e = (refl, (let f : x ≡ y = cc in f), (let f : r ≡ s = cc in f))
cut [] (c ∷ b) x y r s h k lx ly e =
    let f : x ≡ c = cc in let g = k.0 in absurd (omega (arith, f, lx, g))
cut (c ∷ a) [] x y r s h k lx ly e =
    let f : c ≡ y = cc in let g = h.0 in absurd (omega (arith, f, ly, g))
cut (c ∷ a) (d ∷ b) x y r s h k lx ly e =
    let f : c ≡ d = cc in
    let g : a ++ (x ∷ r) ≡ b ++ (y ∷ s) = cc in
    let t = cut a b x y r s h.1 k.1 lx ly g in
    (ap (λ z. z ∷ a) f ∙ ap (λ z. d ∷ z) t.0, t.1, t.2)

digits_above : (ds : List ℕ) → AllDigits 10 ds → AreAbove ds
digits_above [] h = tt
digits_above (d ∷ ds) h =
    let p = tells_digits.parts d ds h in
    let r = p.0 in (omega (arith, r), digits_above ds p.1)

letters_above : (bs : List ℕ) → AreLetters bs → AreAbove bs
letters_above [] h = tt
letters_above (b ∷ bs) h = let g = h.0 in (omega (arith, g), letters_above bs h.2)

numeral : (n : ℕ) → n < 2 ^ 64 → IsNumeral 10 (decimal n)
numeral n lt = (decimal_is_IsNumeral n lt).0

pub word_above : (w : Word) → IsWord w → AreAbove (word_text w)
word_above (tag []) h = absurd h
word_above (tag (b ∷ bs)) h = letters_above (b ∷ bs) h
word_above (number (pos n)) h = digits_above (decimal n) (numeral n h).1
word_above (number (negsuc n)) h = (omega arith, digits_above (decimal (suc n)) (numeral (suc n) h).1)

-- ## Words

-- the first byte is that of a number, or of a tag
abbrev Begins : (ℕ → Type 0) → List ℕ → Type 0
Begins P [] = ⊥
Begins P (b ∷ bs) = P b

numeral_begins : (ds : List ℕ) → IsNumeral 10 ds → Begins (λ b. (48 ≤ b) × (b ≤ 57)) ds
numeral_begins [] h = let k = h.0 in absurd (omega (arith, k))
numeral_begins (d ∷ ds) h = let p = tells_digits.parts d ds h.1 in p.0

-- two texts that begin apart differ
apart : (a b : List ℕ) (P Q : ℕ → Type 0) → Begins P a → Begins Q b → ((c : ℕ) → P c → Q c → ⊥) → a ≡ b → ⊥
apart [] b P Q h k never e = h
apart (c ∷ a) [] P Q h k never e = k
apart (c ∷ a) (d ∷ b) P Q h k never e = let f : c ≡ d = cc in never d (subst P f h) k

one_number : (n m : ℕ) → n < 2 ^ 64 → m < 2 ^ 64 → decimal n ≡ decimal m → n ≡ m
one_number n m h k e =
    sym (decimal_is_IsNumeral n h).1 ∙ ap (digits_value 10) e ∙ (decimal_is_IsNumeral m k).1

behind_sign : (a b : List ℕ) → 45 ∷ a ≡ 45 ∷ b → a ≡ b
behind_sign a b e = cc

no_digit : (c : ℕ) → (48 ≤ c) × (c ≤ 57) → c ≡ 45 → ⊥
no_digit c h k = let a = h.0 in omega (arith, a, k)

no_letter : (c : ℕ) → (c ≡ 45) → 97 ≤ c → ⊥
no_letter c h k = omega (arith, h, k)

no_both : (c : ℕ) → (48 ≤ c) × (c ≤ 57) → 97 ≤ c → ⊥
no_both c h k = let b = h.1 in omega (arith, b, k)

tag_begins : (b : ℕ) (bs : List ℕ) → AreLetters (b ∷ bs) → Begins (λ c. 97 ≤ c) (b ∷ bs)
tag_begins b bs h = h.0

one_word : (w v : Word) → IsWord w → IsWord v → word_text w ≡ word_text v → w ≡ v
one_word (tag []) v h k e = absurd h
one_word (tag (b ∷ bs)) (tag []) h k e = absurd k
one_word (tag (b ∷ bs)) (tag (c ∷ cs)) h k e = ap tag e
one_word (tag (b ∷ bs)) (number (pos n)) h k e =
    absurd (apart (decimal n) (b ∷ bs) (λ c. (48 ≤ c) × (c ≤ 57)) (λ c. 97 ≤ c) (numeral_begins (decimal n) (numeral n k))
    (tag_begins b bs h) no_both (sym e))
one_word (tag (b ∷ bs)) (number (negsuc n)) h k e =
    absurd (apart (45 ∷ decimal (suc n)) (b ∷ bs) (λ c. c ≡ 45) (λ c. 97 ≤ c) refl (tag_begins b bs h) no_letter (sym e))
one_word (number z) (tag []) h k e = absurd k
one_word (number (pos n)) (tag (b ∷ bs)) h k e =
    absurd (apart (decimal n) (b ∷ bs) (λ c. (48 ≤ c) × (c ≤ 57)) (λ c. 97 ≤ c) (numeral_begins (decimal n) (numeral n h))
    (tag_begins b bs k) no_both e)
one_word (number (negsuc n)) (tag (b ∷ bs)) h k e =
    absurd (apart (45 ∷ decimal (suc n)) (b ∷ bs) (λ c. c ≡ 45) (λ c. 97 ≤ c) refl (tag_begins b bs k) no_letter e)
one_word (number (pos n)) (number (pos m)) h k e = ap (λ z. number (pos z)) (one_number n m h k e)
one_word (number (negsuc n)) (number (negsuc m)) h k e =
    let f : suc n ≡ suc m = one_number (suc n) (suc m) h k (behind_sign (decimal (suc n)) (decimal (suc m)) e) in
    ap (λ z. number (negsuc z)) (let g : n ≡ m = omega (arith, f) in g)
one_word (number (pos n)) (number (negsuc m)) h k e =
    absurd (apart (decimal n) (45 ∷ decimal (suc m)) (λ c. (48 ≤ c) × (c ≤ 57)) (λ c. c ≡ 45)
    (numeral_begins (decimal n) (numeral n h)) refl no_digit e)
one_word (number (negsuc n)) (number (pos m)) h k e =
    absurd (apart (decimal m) (45 ∷ decimal (suc n)) (λ c. (48 ≤ c) × (c ≤ 57)) (λ c. c ≡ 45)
    (numeral_begins (decimal m) (numeral m k)) refl no_digit (sym e))

-- ## Lines

one_line : (w v : Word) (ws vs : List Word) (r s : List ℕ) → IsWord w → IsWord v → AreWords ws → AreWords vs
    → words_onto w ws r ≡ words_onto v vs s → (w ≡ v) × (ws ≡ vs) × (r ≡ s)
one_line w v [] [] r s h k hs ks e =
    let t = cut (word_text w) (word_text v) 10 10 r s (word_above w h) (word_above v k) (omega arith) (omega arith) e in
    (one_word w v h k t.0, refl, t.2)
one_line w v [] (u ∷ vs) r s h k hs ks e =
    let t = cut (word_text w) (word_text v) 10 32 r (words_onto u vs s) (word_above w h) (word_above v k) (omega arith)
    (omega arith) e in
    let f = t.1 in absurd (omega (arith, f))
one_line w v (u ∷ ws) [] r s h k hs ks e =
    let t = cut (word_text w) (word_text v) 32 10 (words_onto u ws r) s (word_above w h) (word_above v k) (omega arith)
    (omega arith) e in
    let f = t.1 in absurd (omega (arith, f))
one_line w v (x ∷ ws) (y ∷ vs) r s h k hs ks e =
    let t = cut (word_text w) (word_text v) 32 32 (words_onto x ws r) (words_onto y vs s) (word_above w h) (word_above v k)
    (omega arith) (omega arith) e in
    let l = one_line x y ws vs r s hs.0 ks.0 hs.1 ks.1 t.2 in
    (one_word w v h k t.0, ap (λ z. z ∷ ws) l.0 ∙ ap (λ z. y ∷ z) l.1, l.2)

pub line : (one other : Line) (rest more : List ℕ) → IsLine one → IsLine other
    → line_onto one rest ≡ line_onto other more → (one ≡ other) × (rest ≡ more)
line l m rest more h k e =
    let t = one_line l.first m.first l.rest m.rest rest more h.0 k.0 h.1 k.1 e in
    ((λ i. record { first = t.0 i; rest = t.1 i }), t.2)

weaker : (ds : List ℕ) → Begins (λ b. (48 ≤ b) × (b ≤ 57)) ds → Begins (λ b. Unit {0}) ds
weaker [] h = h
weaker (d ∷ ds) h = tt

begins : (z : ℤ) → IsWord (number z) → Begins (λ b. Unit {0}) (word_text (number z))
begins (pos n) h = weaker (decimal n) (numeral_begins (decimal n) (numeral n h))
begins (negsuc n) h = tt

some_bytes : (a b : List ℕ) → Begins (λ b. Unit {0}) a → a ++ b ≡ [] → ⊥
some_bytes [] b h e = h
some_bytes (c ∷ a) b h e = cc

some_text : (w : Word) (ws : List Word) (r : List ℕ) → IsWord w → words_onto w ws r ≡ [] → ⊥
some_text (tag []) ws r h e = h
some_text (tag (b ∷ bs)) [] r h e = cc
some_text (tag (b ∷ bs)) (v ∷ ws) r h e = cc
some_text (number z) [] r h e = some_bytes (word_text (number z)) (10 ∷ r) (begins z h) e
some_text (number z) (v ∷ ws) r h e = some_bytes (word_text (number z)) (32 ∷ words_onto v ws r) (begins z h) e

pub lines : (one other : List Line) → AreLines one → AreLines other → lines_text one ≡ lines_text other → one ≡ other
lines [] [] h k e = refl
lines [] (m ∷ ms) h k e = absurd (some_text m.first m.rest (lines_text ms) k.0.0 (sym e))
lines (l ∷ ls) [] h k e = absurd (some_text l.first l.rest (lines_text ls) h.0.0 e)
lines (l ∷ ls) (m ∷ ms) h k e =
    let t = line l m (lines_text ls) (lines_text ms) h.0 k.0 e in
    ap (λ z. z ∷ ls) t.0 ∙ ap (λ z. m ∷ z) (lines ls ms h.1 k.1 t.1)
