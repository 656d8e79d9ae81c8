-- Lines at the front of a text, word by word.
use Rattle.std.proofs.Common.{◌≡◌, refl, sym, ap, subst, ◌∙◌, ℕ, ◌≤◌, ◌<◌, List, [], ◌∷◌, ◌++◌, length, arith}
use Rattle.std.proofs.Common.{append_assoc, take, drop, get_or, zero, suc, ◌+◌, length-append, length-drop}
use Rattle.std.proofs.lemmas.List.{take_all, length-take-le}
use Rattle.certificate_words.specs.declared.words.Word.{Word as Held}
use Rattle.certificate_words.specs.Words.{Word, IsWord, word_text, AreWords, words_onto}
use Rattle.certificate_words.specs.Lines.{IsTextOf, IsNoWord, IsNextLine, HasNoLine, word_of, words_of, line_text}
use Rattle.certificate_words.specs.reading.Letters.{AreAbove}
use Rattle.certificate_words.specs.reading.Firsts.{IsWordAnd, HasNoWords, IsEnded, IsFirst, spacing}
use Rattle.certificate_words.specs.declared.firsts.First.{First}
use Rattle.certificate_words.specs.declared.firsts.First.TheVariants.{Spaced, Last, Nothing}
use Rattle.certificate_words.proofs.OneText.{cut, word_above}

-- words with a space behind each, and then a text
abbrev pub spaced : List Word → List ℕ → List ℕ
spaced [] rest = rest
spaced (w ∷ ws) rest = word_text w ++ (32 ∷ spaced ws rest)

-- lawful words have been read, and the rest stands behind them
pub record IsBegun (text : List ℕ) (words : List Word) (rest : List ℕ) : Type 0 where
  pub lawful : AreWords words
  pub is : text ≡ spaced words rest

-- ## Reading

pub begun : (text : List ℕ) → IsBegun text [] text
begun text = record { lawful = tt; is = refl }

words_more : (ws : List Word) (w : Word) → AreWords ws → IsWord w → AreWords (ws ++ w ∷ [])
words_more [] w h k = (k, tt)
words_more (v ∷ ws) w h k = (h.0, words_more ws w h.1 k)

spaced_more : (ws : List Word) (w : Word) (rest : List ℕ)
    → spaced ws (word_text w ++ (32 ∷ rest)) ≡ spaced (ws ++ w ∷ []) rest
spaced_more [] w rest = refl
spaced_more (v ∷ ws) w rest = ap (λ z. word_text v ++ (32 ∷ z)) (spaced_more ws w rest)

-- a word and a space have been read
pub more : (text : List ℕ) (ws : List Word) (w : Word) (rest behind : List ℕ) → IsBegun text ws rest
    → IsWordAnd rest w 32 behind → IsBegun text (ws ++ w ∷ []) behind
more text ws w rest behind h k =
    record {
      lawful = words_more ws w h.lawful k.lawful;
      is = h.is ∙ (ap (spaced ws) k.is ∙ spaced_more ws w behind);
    }

onto : (u : Word) (ws : List Word) (w : Word) (rest : List ℕ)
    → word_text u ++ (32 ∷ spaced ws (word_text w ++ (10 ∷ rest))) ≡ words_onto u (ws ++ w ∷ []) rest
onto u [] w rest = refl
onto u (v ∷ ws) w rest = ap (λ z. word_text u ++ (32 ∷ z)) (onto v ws w rest)

-- the last word and byte 10 have been read
pub whole : (text : List ℕ) (ws : List Word) (w : Word) (rest behind : List ℕ) → IsBegun text ws rest
    → IsWordAnd rest w 10 behind → IsNextLine text (ws ++ w ∷ []) behind
whole text [] w rest behind h k =
    record {
      line = record { first = w; rest = [] };
      lawful = (k.lawful, tt);
      words_are = refl;
      text_is = h.is ∙ k.is;
    }
whole text (u ∷ ws) w rest behind h k =
    record {
      line = record { first = u; rest = ws ++ w ∷ [] };
      lawful = (h.lawful.0, words_more ws w h.lawful.1 k.lawful);
      words_are = refl;
      text_is = h.is ∙ (ap (λ z. word_text u ++ (32 ∷ spaced ws z)) k.is ∙ onto u ws w behind);
    }

-- ## No line

module _ (w : Word) (text : List ℕ) (h : IsWord w) (k : HasNoWords text) where
  -- what has begun with a word and a space goes on behind them
  unspaced_by : (v : Word) (vs : List Word) (tail : List ℕ) → IsWord v → AreWords vs
      → word_text w ++ (32 ∷ text) ≡ words_onto v vs tail → ⊥
  unspaced_by v [] tail a b e =
      let t = cut (word_text w) (word_text v) 32 10 text tail (word_above w h) (word_above v a) (omega arith)
      (omega arith) e in
      let f = t.1 in omega (arith, f)
  unspaced_by v (u ∷ vs) tail a b e =
      let t = cut (word_text w) (word_text v) 32 32 text (words_onto u vs tail) (word_above w h) (word_above v a)
      (omega arith) (omega arith) e in
      k.never u vs tail b.0 b.1 t.2

unspaced : (ws : List Word) (rest : List ℕ) → AreWords ws → HasNoWords rest → HasNoWords (spaced ws rest)
unspaced [] rest h k = k
unspaced (w ∷ ws) rest h k =
    record { never = unspaced_by w (spaced ws rest) h.0 (unspaced ws rest h.1 k) }

pub no_line : (text : List ℕ) (ws : List Word) (rest : List ℕ) → IsBegun text ws rest → HasNoWords rest
    → HasNoLine text
no_line text ws rest h k =
    record {
      never = λ line tail lawful e.
          (unspaced ws rest h.lawful k).never line.first line.rest tail lawful.0 lawful.1 (sym h.is ∙ e);
    }

-- the front of the rest is cut where its first word ends
cut_words : (piece : List ℕ) (x : ℕ) (behind : List ℕ) (w : Word) (ws : List Word) (tail : List ℕ) → AreAbove piece
    → x ≤ 32 → IsWord w → piece ++ (x ∷ behind) ≡ words_onto w ws tail → (piece ≡ word_text w) × ((x ≡ 32 → ⊥) → x ≡ 10)
cut_words piece x behind w [] tail h l k e =
    let t = cut piece (word_text w) x 10 behind tail h (word_above w k) l (omega arith) e in
    (t.0, λ _. t.1)
cut_words piece x behind w (v ∷ ws) tail h l k e =
    let t = cut piece (word_text w) x 32 behind (words_onto v ws tail) h (word_above w k) l (omega arith) e in
    (t.0, λ no_space. absurd (no_space t.1))

-- bytes above the space alone have no end of a line
all_above : (bytes a r : List ℕ) (x : ℕ) → AreAbove bytes → x ≤ 32 → bytes ≡ a ++ (x ∷ r) → ⊥
all_above [] [] r x h l e = cc
all_above [] (c ∷ a) r x h l e = cc
all_above (b ∷ bytes) [] r x h l e = let f : b ≡ x = cc in let g = h.0 in omega (arith, f, g, l)
all_above (b ∷ bytes) (c ∷ a) r x h l e =
    let f : bytes ≡ a ++ (x ∷ r) = cc in all_above bytes a r x h.1 l f

ends : (w : Word) (ws : List Word) (tail : List ℕ)
    → (x : ℕ) × (r : List ℕ) × (x ≤ 32) × (words_onto w ws tail ≡ word_text w ++ (x ∷ r))
ends w [] tail = (10, tail, omega arith, refl)
ends w (v ∷ ws) tail = (32, words_onto v ws tail, omega arith, refl)

-- no byte stands behind the first word
pub unended : (rest : List ℕ) → AreAbove rest → HasNoWords rest
unended rest h =
    record {
      never = λ w ws tail a b e.
          let t = ends w ws tail in all_above rest (word_text w) t.1 t.0 h t.2 (e ∙ t.3);
    }

-- what stands in front is no word
pub no_word_in_front : (rest piece : List ℕ) (x : ℕ) (behind : List ℕ) → rest ≡ piece ++ (x ∷ behind) → AreAbove piece
    → x ≤ 32 → IsNoWord piece → HasNoWords rest
no_word_in_front rest piece x behind is h l none =
    record {
      never = λ w ws tail a b e.
          none.never w (record { lawful = a; is = (cut_words piece x behind w ws tail h l a (sym is ∙ e)).0 });
    }

-- what ends the first word is neither a space nor byte 10
pub other_end : (rest piece : List ℕ) (x : ℕ) (behind : List ℕ) → rest ≡ piece ++ (x ∷ behind) → AreAbove piece
    → x ≤ 32 → (x ≡ 32 → ⊥) → (x ≡ 10 → ⊥) → HasNoWords rest
other_end rest piece x behind is h l no_space no_end =
    record {
      never = λ w ws tail a b e.
          no_end ((cut_words piece x behind w ws tail h l a (sym is ∙ e)).1 no_space);
    }

-- ## Writing

pub words_of_more : (ws : List Held) (w : Held) → words_of (ws ++ w ∷ []) ≡ words_of ws ++ word_of w ∷ []
words_of_more [] w = refl
words_of_more (v ∷ ws) w = ap (λ z. word_of v ∷ z) (words_of_more ws w)

-- words with a space between each and the next
abbrev pub joined : List Word → List ℕ
joined [] = []
joined (w ∷ []) = word_text w
joined (w ∷ v ∷ ws) = word_text w ++ (32 ∷ joined (v ∷ ws))

pub joined_more : (ws : List Word) (w : Word) → joined (ws ++ w ∷ []) ≡ joined ws ++ (spacing (length ws) ++ word_text w)
joined_more [] w = refl
joined_more (v ∷ []) w = refl
joined_more (v ∷ u ∷ ws) w =
    ap (λ z. word_text v ++ (32 ∷ z)) (joined_more (u ∷ ws) w)
    ∙ sym (append_assoc (word_text v) (32 ∷ joined (u ∷ ws)) (32 ∷ word_text w))

length_of : (ws : List Held) → length (words_of ws) ≡ length ws
length_of [] = refl
length_of (w ∷ ws) = let h = length_of ws in omega (arith, h)

-- the words up to a place, and that at the place
pub joined_at : (words : List Held) (i : ℕ) (w : Held) (old now new : List ℕ) → i < length words
    → take (i + 1) words ≡ take i words ++ w ∷ [] → now ≡ old ++ joined (words_of (take i words))
    → new ≡ now ++ (spacing i ++ word_text (word_of w)) → new ≡ old ++ joined (words_of (take (i + 1) words))
joined_at words i w old now new l one h e =
    let count : length (words_of (take i words)) ≡ i = length_of (take i words) ∙ length-take-le i words (omega (arith, l)) in
    e ∙ (ap (λ z. z ++ (spacing i ++ word_text (word_of w))) h
    ∙ (append_assoc old (joined (words_of (take i words))) (spacing i ++ word_text (word_of w))
    ∙ ap (λ z. old ++ z) (ap (λ n. joined (words_of (take i words)) ++ (spacing n ++ word_text (word_of w))) (sym count)
    ∙ (sym (joined_more (words_of (take i words)) (word_of w))
    ∙ ap joined (sym (words_of_more (take i words) w) ∙ ap words_of (sym one))))))

pub line_of_joined : (ws : List Word) → line_text ws ≡ joined ws ++ (10 ∷ [])
line_of_joined [] = refl
line_of_joined (w ∷ ws) = by_words w ws
  where
    by_words : (w : Word) (ws : List Word) → words_onto w ws [] ≡ joined (w ∷ ws) ++ (10 ∷ [])
    by_words w [] = refl
    by_words w (v ∷ ws) =
        ap (λ z. word_text w ++ (32 ∷ z)) (by_words v ws)
        ∙ sym (append_assoc (word_text w) (32 ∷ joined (v ∷ ws)) (10 ∷ []))

-- ## Bytes above the space

pub above_more : (bytes : List ℕ) (i : ℕ) → i < length bytes → AreAbove (take i bytes) → 32 < get_or bytes i 0
    → AreAbove (take (i + 1) bytes)
above_more [] i l h k = absurd (omega (arith, l))
above_more (b ∷ bytes) zero l h k = (k, tt)
above_more (b ∷ bytes) (suc i) l h k =
    let e : suc i + 1 ≡ suc (i + 1) = omega arith in
    subst (λ n. AreAbove (take n (b ∷ bytes))) (sym e) (h.0, above_more bytes i (omega (arith, l)) h.1 k)

pub above_all : (bytes : List ℕ) (n : ℕ) → length bytes ≤ n → AreAbove (take n bytes) → AreAbove bytes
above_all bytes n l h = subst AreAbove (take_all n bytes l) h

-- a list around one of its elements
pub around : (bytes : List ℕ) (i : ℕ) → i < length bytes → bytes ≡ take i bytes ++ (get_or bytes i 0 ∷ drop (i + 1) bytes)
around [] i l = absurd (omega (arith, l))
around (b ∷ bytes) zero l = refl
around (b ∷ bytes) (suc i) l =
    let e : suc i + 1 ≡ suc (i + 1) = omega arith in
    ap (λ bs. b ∷ bs) (around bytes i (omega (arith, l)))
    ∙ ap (λ n. b ∷ (take i bytes ++ (get_or bytes i 0 ∷ drop n (b ∷ bytes)))) (sym e)

-- all words, and byte 10
pub line_at : (words : List Held) (i : ℕ) (old now new : List ℕ) → length words ≤ i
    → now ≡ old ++ joined (words_of (take i words)) → new ≡ now ++ (10 ∷ []) → new ≡ old ++ line_text (words_of words)
line_at words i old now new l h e =
    e ∙ (ap (λ z. z ++ (10 ∷ [])) (h ∙ ap (λ ws. old ++ joined (words_of ws)) (take_all i words l))
    ∙ (append_assoc old (joined (words_of words)) (10 ∷ []) ∙ ap (λ z. old ++ z) (sym (line_of_joined (words_of words)))))

-- ## Words as code holds them

pub more_held : (text : List ℕ) (words new : List Held) (w : Held) (rest behind : List ℕ)
    → IsBegun text (words_of words) rest → IsWordAnd rest (word_of w) 32 behind → new ≡ words ++ w ∷ []
    → IsBegun text (words_of new) behind
more_held text words new w rest behind h k e =
    subst (λ ws. IsBegun text ws behind) (sym (ap words_of e ∙ words_of_more words w))
    (more text (words_of words) (word_of w) rest behind h k)

pub whole_held : (text : List ℕ) (words new : List Held) (w : Held) (rest behind : List ℕ)
    → IsBegun text (words_of words) rest → IsWordAnd rest (word_of w) 10 behind → new ≡ words ++ w ∷ []
    → IsNextLine text (words_of new) behind
whole_held text words new w rest behind h k e =
    subst (λ ws. IsNextLine text ws behind) (sym (ap words_of e ∙ words_of_more words w))
    (whole text (words_of words) (word_of w) rest behind h k)

-- ## First words

-- the word in front, by the byte behind it
pub first_of : (bytes : List ℕ) (i n : ℕ) (w : Word) (f : First) → i < length bytes → AreAbove (take i bytes)
    → get_or bytes i 0 ≤ 32 → IsTextOf (take i bytes) w → length bytes ≡ n + (i + 1)
    → IsEnded w (get_or bytes i 0) (take n (drop (i + 1) bytes)) f → IsFirst bytes f
first_of bytes i n w f l h k t m e =
    by_end f (subst (λ z. IsEnded w (get_or bytes i 0) z f) (take_all n (drop (i + 1) bytes) few) e)
  where
    few : length (drop (i + 1) bytes) ≤ n
    few = let d = length-drop (i + 1) bytes in omega (arith, m, d)

    by_end : (f : First) → IsEnded w (get_or bytes i 0) (drop (i + 1) bytes) f → IsFirst bytes f
    by_end (Spaced v more) e =
        record {
          lawful = subst IsWord (sym e.0) t.lawful;
          is = around bytes i l ∙ λ j. (t.is ∙ ap word_text (sym e.0)) j ++ (e.1 j ∷ sym e.2 j);
        }
    by_end (Last v more) e =
        record {
          lawful = subst IsWord (sym e.0) t.lawful;
          is = around bytes i l ∙ λ j. (t.is ∙ ap word_text (sym e.0)) j ++ (e.1 j ∷ sym e.2 j);
        }
    by_end Nothing e =
        other_end bytes (take i bytes) (get_or bytes i 0) (drop (i + 1) bytes) (around bytes i l) h k e.0 e.1

-- what stands behind a word is shorter
pub shorter : (rest behind : List ℕ) (w : Held) → IsWordAnd rest (word_of w) 32 behind → length behind < length rest
shorter rest behind w h =
    let n = length-append (word_text (word_of w)) (32 ∷ behind) in
    let e : length rest ≡ length (word_text (word_of w) ++ (32 ∷ behind)) = ap length h.is in
    omega (arith, n, e)
