-- The source in bytes, by its places and by texts: it is one.
use Rattle.std.proofs.Common.{◌≡◌, ◌∙◌, refl, sym, ap, subst, ℕ, suc, ◌+◌, ◌-◌, ◌<◌, ◌≤◌, ◌^◌, pos, lit≤, lit<, arith}
use Rattle.std.proofs.Common.{List, [], ◌∷◌, ◌++◌, length, take, drop, get_or, length-append, length-drop, append_assoc}
use Rattle.std.proofs.Common.{drop-cons, add-one}
use Rattle.std.specs.Prelude.{Option, Some, slice_get, codes, decimal}
use Rattle.std.proofs.lemmas.Fmt.{decimal_digit}
use Rattle.std.proofs.lemmas.List.{take-append-drop, drop-drop, length-take-le, append_cancel_left}
use Rattle.std.proofs.lemmas.Option.{slice_get_within, get_or_from_slice_get}
use Rattle.std.proofs.Math.Seq.{take-append_seam}
use Rattle.certificate_texts.specs.certificate_words.Words.{Word, tag, number, word_text, Line, IsLine, words_onto}
use Rattle.certificate_texts.specs.certificate_words.Words.{line_onto, lines_text}
use Rattle.program_reports.specs.post_recheck.Pairs.{Pair}
use Rattle.certificate_words.proofs.OneText.{line}
use Rattle.certificate_texts.specs.Limits.{certificate_limit}
use Rattle.certificate_texts.specs.StateLines.{tagged, numbered}
use Rattle.certificate_texts.specs.Certificates.{head_text, certificate_text, pair_lines, IsSplit}
use Rattle.certificate_check.specs.Heads.{head_of, HasSource}

-- ## Heads

-- the head as two lines of words
pub head_is : (n : ℕ) → head_text n ≡ head_of n
head_is n =
    ap (λ (one : List ℕ). codes "tmcert" ++ (32 ∷ (one ++ (10 ∷ (codes "source" ++ (32 ∷ (decimal n ++ (10 ∷ []))))))))
    (decimal_digit 1 (lit< tt))

-- the text of a certificate has its source, and so do bytes that are told of a pair
pub source_of_text : (bytes source : List ℕ) (pair : Pair) → bytes ≡ certificate_text source pair
    → HasSource bytes source (lines_text (pair_lines pair))
source_of_text bytes source pair e = record {
  is = e ∙ ap (λ (h : List ℕ). h ++ (source ++ (10 ∷ lines_text (pair_lines pair)))) (head_is (length source));
}

pub text_of_source : (bytes source told : List ℕ) (pair : Pair) → HasSource bytes source told
    → told ≡ lines_text (pair_lines pair) → bytes ≡ certificate_text source pair
text_of_source bytes source told pair has e =
    has.is ∙ ap (λ (h : List ℕ). h ++ (source ++ (10 ∷ told))) (sym (head_is (length source)))
    ∙ ap (λ (t : List ℕ). head_text (length source) ++ (source ++ (10 ∷ t))) e

-- ## From places to texts

-- where a source stands from one place to another, it is these bytes, and these are behind it
pub source_in : (bytes : List ℕ) (start end : ℕ) → IsSplit bytes start end
    → HasSource bytes (take (end - start) (drop start bytes)) (drop (end + 1) bytes)
source_in bytes start end split =
    let n : ℕ = end - start in
    let rest : List ℕ = drop start bytes in
    let order : start ≤ end = split.order in
    let within : end < length bytes = slice_get_within bytes end 10 split.behind in
    let long : n ≤ length rest = omega (arith, order, within, length-drop start bytes) in
    let count : length (take n rest) ≡ n = length-take-le n rest long in
    let there : get_or bytes end 0 ≡ 10 = get_or_from_slice_get bytes end 10 0 split.behind in
    let ends : start + n ≡ end = omega (arith, order) in
    let next : suc end ≡ end + 1 = omega arith in
    let last : drop n rest ≡ 10 ∷ drop (end + 1) bytes =
    drop-drop n start bytes ∙ ap (λ (k : ℕ). drop k bytes) ends ∙ drop-cons bytes end 0 within
    ∙ ap (λ (x : ℕ). x ∷ drop (suc end) bytes) there ∙ ap (λ (k : ℕ). 10 ∷ drop k bytes) next in
    let parts : bytes ≡ take start bytes ++ rest = sym (take-append-drop start bytes) in
    let behind : rest ≡ take n rest ++ (10 ∷ drop (end + 1) bytes) =
    sym (take-append-drop n rest) ∙ ap (λ (r : List ℕ). take n rest ++ r) last in
    record {
      is = parts ∙ ap (λ (h : List ℕ). h ++ rest) split.head ∙ ap (λ (r : List ℕ). head_text n ++ r) behind
          ∙ ap (λ (k : ℕ). head_text k ++ (take n rest ++ (10 ∷ drop (end + 1) bytes))) (sym count)
          ∙ ap (λ (h : List ℕ). h ++ (take n rest ++ (10 ∷ drop (end + 1) bytes))) (head_is (length (take n rest)));
    }

-- the same, where the source is read from a text of the same bytes
pub source_at : (bytes text : List ℕ) (start end : ℕ) → text ≡ bytes → IsSplit bytes start end
    → HasSource bytes (take (end - start) (drop start text)) (drop (end + 1) bytes)
source_at bytes text start end same split =
    subst (λ (t : List ℕ). HasSource bytes (take (end - start) (drop start t)) (drop (end + 1) bytes)) (sym same)
    (source_in bytes start end split)

-- ## From texts to places

get_behind : (front : List ℕ) (x : ℕ) (more : List ℕ) → slice_get (front ++ (x ∷ more)) (length front) ≡ Some x
get_behind [] x more = refl
get_behind (y ∷ front) x more = get_behind front x more

-- the bytes of a source in a certificate stand behind its head
pub split_by : (bytes source told : List ℕ) → HasSource bytes source told
    → (let h = length (head_text (length source)) in IsSplit bytes h (h + length source))
split_by bytes source told has =
    let n : ℕ = length source in
    let front : List ℕ = head_text n in
    let h : ℕ = length front in
    let whole : bytes ≡ front ++ (source ++ (10 ∷ told)) =
    has.is ∙ ap (λ (x : List ℕ). x ++ (source ++ (10 ∷ told))) (sym (head_is n)) in
    let count : n ≡ h + n - h = omega arith in
    record {
      order = omega arith;
      head = ap (take h) whole ∙ take-append_seam front (source ++ (10 ∷ told)) ∙ ap head_text count;
      behind = subst (λ (b : List ℕ). slice_get b (h + n) ≡ Some 10)
          (append_assoc front source (10 ∷ told) ∙ sym whole)
          (subst (λ (k : ℕ). slice_get ((front ++ source) ++ (10 ∷ told)) k ≡ Some 10) (length-append front source)
          (get_behind (front ++ source) 10 told));
    }

-- ## One source

-- what stands behind a line
onto_append : (w : Word) (ws : List Word) (text rest : List ℕ) → words_onto w ws text ++ rest ≡ words_onto w ws (text ++ rest)
onto_append w [] text rest = append_assoc (word_text w) (10 ∷ text) rest
onto_append w (v ∷ ws) text rest =
    append_assoc (word_text w) (32 ∷ words_onto v ws text) rest
    ∙ ap (λ (r : List ℕ). word_text w ++ (32 ∷ r)) (onto_append v ws text rest)

first_line : Line
first_line = tagged (codes "tmcert") (number (pos 1) ∷ [])

count_line : ℕ → Line
count_line n = numbered (codes "source") n

head_onto : (n : ℕ) (rest : List ℕ) → head_text n ++ rest ≡ line_onto first_line (line_onto (count_line n) rest)
unfolding first_line count_line
head_onto n rest =
    onto_append (tag (codes "tmcert")) (number (pos 1) ∷ []) (line_onto (count_line n) []) rest
    ∙ ap (line_onto first_line) (onto_append (tag (codes "source")) (number (pos n) ∷ []) [] rest)

first_is_line : IsLine first_line
unfolding first_line
first_is_line = (
  (lit≤ tt, lit≤ tt, (lit≤ tt, lit≤ tt, (lit≤ tt, lit≤ tt, (lit≤ tt, lit≤ tt, (lit≤ tt, lit≤ tt, (lit≤ tt, lit≤ tt, tt)))))),
  (lit< tt, tt),
)

count_is_line : (n : ℕ) → n < 2 ^ 64 → IsLine (count_line n)
unfolding count_line
count_is_line n small = (
  (lit≤ tt, lit≤ tt, (lit≤ tt, lit≤ tt, (lit≤ tt, lit≤ tt, (lit≤ tt, lit≤ tt, (lit≤ tt, lit≤ tt, (lit≤ tt, lit≤ tt, tt)))))),
  (small, tt),
)

one_count : (n m : ℕ) → count_line n ≡ count_line m → n ≡ m
unfolding count_line
one_count n m e = let same : number (pos n) ∷ [] ≡ number (pos m) ∷ [] = ap (λ l. l.rest) e in cc

one_head : (n m : ℕ) (rest more : List ℕ) → n < 2 ^ 64 → m < 2 ^ 64 → head_text n ++ rest ≡ head_text m ++ more
    → (n ≡ m) × (rest ≡ more)
one_head n m rest more small few e =
    let whole = sym (head_onto n rest) ∙ e ∙ head_onto m more in
    let behind = line first_line first_line (line_onto (count_line n) rest) (line_onto (count_line m) more)
    first_is_line first_is_line whole in
    let counts = line (count_line n) (count_line m) rest more (count_is_line n small) (count_is_line m few) behind.1 in
    (one_count n m counts.0, counts.1)

-- two texts of one length before the same byte
one_front : (a b more rest : List ℕ) → length a ≡ length b → a ++ more ≡ b ++ rest → (a ≡ b) × (more ≡ rest)
one_front a b more rest same e =
    let front : a ≡ b =
    sym (take-append_seam a more) ∙ ap (take (length a)) e ∙ ap (λ n. take n (b ++ rest)) same
    ∙ take-append_seam b rest in
    (front, append_cancel_left b more rest (ap (λ x. x ++ more) (sym front) ∙ e))

source_length : (bytes source told : List ℕ) → length bytes ≤ certificate_limit → HasSource bytes source told
    → length source < 2 ^ 64
source_length bytes source told short has =
    let all : length bytes ≡ length (head_of (length source)) + length (source ++ (10 ∷ told)) =
    ap length has.is ∙ length-append (head_of (length source)) (source ++ (10 ∷ told)) in
    omega (arith, short, all, length-append source (10 ∷ told))

-- bytes that are not too many have one source, and what is told of it is one
pub one_source : (bytes source told other more : List ℕ) → length bytes ≤ certificate_limit
    → HasSource bytes source told → HasSource bytes other more → (source ≡ other) × (told ≡ more)
one_source bytes source told other more short has with_other =
    let heads = one_head (length source) (length other) (source ++ (10 ∷ told)) (other ++ (10 ∷ more))
    (source_length bytes source told short has) (source_length bytes other more short with_other)
    (ap (λ (h : List ℕ). h ++ (source ++ (10 ∷ told))) (head_is (length source)) ∙ sym has.is ∙ with_other.is
    ∙ ap (λ (h : List ℕ). h ++ (other ++ (10 ∷ more))) (sym (head_is (length other)))) in
    let parts = one_front source other (10 ∷ told) (10 ∷ more) heads.0 heads.1 in
    (parts.0, append_cancel_left (10 ∷ []) told more parts.1)
