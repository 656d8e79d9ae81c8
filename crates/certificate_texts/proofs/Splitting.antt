-- Where the source stands in the text of a certificate.
use Rattle.std.proofs.Common.{◌≡◌, refl, sym, ap, subst, ◌∙◌, ℕ, zero, suc, ◌+◌, ◌-◌, ◌<◌, ◌^◌, List, [], ◌∷◌, ◌++◌}
use Rattle.std.proofs.Common.{length, get_or, take, drop, Some, arith, lit<, append_assoc, length-append}
use Rattle.std.specs.Prelude.{codes, decimal, slice_get, slice_range}
use Rattle.std.specs.Str.Parse.{AllDigits}
use Rattle.std.proofs.lemmas.Fmt.{decimal_digit, decimal_is_IsNumeral, decimal_injective}
use Rattle.std.proofs.lemmas.Str.Parse.{tells_digits}
use Rattle.std.proofs.lemmas.List.{take-append-drop, take_all, drop_more, append_cancel_left, length-take, length-drop}
use Rattle.std.proofs.lemmas.List.Folds.{drop_split}
use Rattle.std.proofs.lemmas.Option.{slice_get_within, get_or_from_slice_get, slice_get-get_or}
use Rattle.std.proofs.Math.Seq.{take-append_seam}
use Rattle.post_recheck.specs.Pairs.{Pair}
use Rattle.certificate_words.specs.Words.{lines_text}
use Rattle.certificate_texts.specs.Certificates.{head_text, certificate_text, pair_lines, IsSplit}
use Rattle.certificate_texts.specs.reading.Counts.{front, IsCounted, HasNoCount}

-- the head of a certificate
pub head_is : (count : ℕ) → head_text count ≡ front ++ (decimal count ++ (10 ∷ []))
head_is count =
    ap (λ one. codes "tmcert" ++ (32 ∷ (one ++ (10 ∷ (codes "source" ++ (32 ∷ (decimal count ++ (10 ∷ []))))))))
    (decimal_digit 1 (lit< tt))

-- ## Bytes before a byte 10

abbrev HasNoBreak : List ℕ → Type 0
HasNoBreak [] = Unit {0}
HasNoBreak (b ∷ bs) = (b ≡ 10 → ⊥) × HasNoBreak bs

pub no_break_before : (n : ℕ) (bytes : List ℕ) → ((k : ℕ) → k < n → get_or bytes k 0 ≡ 10 → ⊥)
    → HasNoBreak (take n bytes)
no_break_before zero bytes none = tt
no_break_before (suc n) [] none = tt
no_break_before (suc n) (b ∷ bytes) none =
    (none 0 (omega arith), no_break_before n bytes (λ k less. none (suc k) (omega (arith, less))))

cut : (a b r s : List ℕ) → HasNoBreak a → HasNoBreak b → a ++ (10 ∷ r) ≡ b ++ (10 ∷ s) → (a ≡ b) × (r ≡ s)
cut [] [] r s h k e = (refl, (let f : r ≡ s = cc in f))
cut [] (c ∷ b) r s h k e = absurd (k.0 (let f : c ≡ 10 = cc in f))
cut (c ∷ a) [] r s h k e = absurd (h.0 (let f : c ≡ 10 = cc in f))
cut (c ∷ a) (d ∷ b) r s h k e =
    let head : c ≡ d = cc in
    let tail : a ++ (10 ∷ r) ≡ b ++ (10 ∷ s) = cc in
    let t = cut a b r s h.1 k.1 tail in
    ((λ i. head i ∷ t.0 i), t.1)

some_break : (a r : List ℕ) → HasNoBreak (a ++ (10 ∷ r)) → ⊥
some_break [] r h = h.0 refl
some_break (c ∷ a) r h = some_break a r h.1

digits_no_break : (ds : List ℕ) → AllDigits 10 ds → HasNoBreak ds
digits_no_break [] h = tt
digits_no_break (d ∷ ds) h =
    let p = tells_digits.parts d ds h in
    let r = p.0 in
    ((λ same. omega (arith, r, same)), digits_no_break ds p.1)

decimal_no_break : (n : ℕ) → n < 2 ^ 64 → HasNoBreak (decimal n)
decimal_no_break n less = digits_no_break (decimal n) (decimal_is_IsNumeral n less).0.1

-- ## The number in the second line

pub no_count_at_end : (told : List ℕ) (digits : ℕ) → digits ≡ length told
    → ((k : ℕ) → k < digits → get_or told k 0 ≡ 10 → ⊥) → HasNoCount told
no_count_at_end told digits size none = record {
  never = λ count rest less is.
      (let all : HasNoBreak told = subst HasNoBreak (ap (λ n. take n told) size ∙ take_all (length told) told (omega arith)) (no_break_before digits told none) in
      some_break (decimal count) rest (subst HasNoBreak is all));
}

-- the line in front and what is behind it
line_and : (told : List ℕ) (digits : ℕ) → digits < length told → get_or told digits 0 ≡ 10
    → told ≡ take digits told ++ (10 ∷ drop (digits + 1) told)
line_and told digits less is =
    sym (take-append-drop digits told)
    ∙ ap (λ t. take digits told ++ t) (drop_more told digits 0 less ∙ ap (λ b. b ∷ drop (digits + 1) told) is)

pub no_count : (told : List ℕ) (digits : ℕ) → digits < length told → get_or told digits 0 ≡ 10
    → ((k : ℕ) → k < digits → get_or told k 0 ≡ 10 → ⊥)
    → ((n : ℕ) → n < 2 ^ 64 → take digits told ≡ decimal n → ⊥) → HasNoCount told
no_count told digits less found none other = record {
  never = λ count rest below is.
      (let t = cut (take digits told) (decimal count) (drop (digits + 1) told) rest (no_break_before digits told none)
      (decimal_no_break count below) (sym (line_and told digits less found) ∙ is) in
      other count below t.0);
}

pub counted : (told : List ℕ) (digits count : ℕ) → digits < length told → get_or told digits 0 ≡ 10 → count < 2 ^ 64
    → take digits told ≡ decimal count → IsCounted told count digits
counted told digits count less found below is = record {
  below = below;
  size = (let size = length-take digits told in omega (arith, ap length is, size, less));
  is = line_and told digits less found ∙ ap (λ t. t ++ (10 ∷ drop (digits + 1) told)) is;
}

-- ## The source

-- a place behind a part
behind_part : (xs ys : List ℕ) (n : ℕ) → slice_get (xs ++ ys) (length xs + n) ≡ slice_get ys n
behind_part [] ys n = ap (slice_get ys) (omega arith)
behind_part (x ∷ xs) ys n =
    ap (slice_get (x ∷ (xs ++ ys))) (let e : length (x ∷ xs) + n ≡ suc (length xs + n) = omega arith in e)
    ∙ behind_part xs ys n

get_seam : (xs ys : List ℕ) → get_or (xs ++ ys) (length xs) 0 ≡ get_or ys 0 0
get_seam [] ys = refl
get_seam (x ∷ xs) ys = get_seam xs ys

-- behind the head stands a source of so many bytes, and byte 10
pub at_head : (bytes rest : List ℕ) (count start : ℕ) → bytes ≡ head_text count ++ rest → slice_get rest count ≡ Some 10
    → start ≡ length (head_text count) → IsSplit bytes start (start + count)
at_head bytes rest count start is behind place = record {
  order = omega arith;
  head =
      ap (λ n. take n bytes) place ∙ ap (take (length (head_text count))) is ∙ take-append_seam (head_text count) rest
      ∙ ap head_text (let e : count ≡ (start + count) - start = omega arith in e);
  behind =
      ap (slice_get bytes) (ap (λ n. n + count) place) ∙ ap (λ t. slice_get t (length (head_text count) + count)) is
      ∙ behind_part (head_text count) rest count ∙ behind;
}

module _ (bytes : List ℕ) (start end : ℕ) (is : IsSplit bytes start end) where
  source : List ℕ
  source = slice_range bytes start end

  rest : List ℕ
  rest = drop (end + 1) bytes

  within : end < length bytes
  within = slice_get_within bytes end 10 is.behind

  from_end : drop end bytes ≡ 10 ∷ drop (end + 1) bytes
  from_end = drop_more bytes end 0 within ∙ ap (λ b. b ∷ drop (end + 1) bytes) (get_or_from_slice_get bytes end 10 0 is.behind)

  pub split_text : bytes ≡ head_text (end - start) ++ (slice_range bytes start end ++ (10 ∷ drop (end + 1) bytes))
  split_text =
      sym (take-append-drop start bytes) ∙ ap (λ t. t ++ drop start bytes) is.head
      ∙ ap (λ t. head_text (end - start) ++ t) (drop_split bytes start end is.order
      ∙ ap (λ t. slice_range bytes start end ++ t) from_end)

  pub source_length : length (slice_range bytes start end) ≡ end - start
  source_length =
      let taken = length-take (end - start) (drop start bytes) in
      let dropped = length-drop start bytes in
      let less = within in
      let order = is.order in
      omega (arith, taken, dropped, less, order)

  -- the front, the number, byte 10, the source, byte 10 and the rest
  pub told_text : bytes ≡ front ++ (decimal (end - start) ++ (10 ∷ (slice_range bytes start end ++ (10 ∷ drop (end + 1) bytes))))
  told_text = split_text ∙ ap (λ t. t ++ (slice_range bytes start end ++ (10 ∷ drop (end + 1) bytes))) (head_is (end - start)) ∙ ap (λ t. front ++ t)
      (append_assoc (decimal (end - start)) (10 ∷ []) (slice_range bytes start end ++ (10 ∷ drop (end + 1) bytes)))

  -- what stands behind the front
  module _ (short : length bytes < 2 ^ 64) (told : List ℕ) (front_is : bytes ≡ front ++ told) where
    small : end - start < 2 ^ 64
    small = let less = within in omega (arith, less, short)

    told_is : told ≡ decimal (end - start) ++ (10 ∷ (slice_range bytes start end ++ (10 ∷ drop (end + 1) bytes)))
    told_is = append_cancel_left front told _ (sym front_is ∙ told_text)

    pub no_count_never : HasNoCount told → ⊥
    no_count_never none = none.never (end - start) _ small told_is

    module _ (count digits : ℕ) (c : IsCounted told count digits) where
      parts : (decimal count ≡ decimal (end - start))
          × (drop (digits + 1) told ≡ slice_range bytes start end ++ (10 ∷ drop (end + 1) bytes))
      parts = cut (decimal count) (decimal (end - start)) (drop (digits + 1) told)
          (slice_range bytes start end ++ (10 ∷ drop (end + 1) bytes)) (decimal_no_break count c.below)
          (decimal_no_break (end - start) small) (sym c.is ∙ told_is)

      pub count_is : count ≡ end - start
      count_is = decimal_injective count (end - start) c.below small parts.0

      pub is_long : count < length (drop (digits + 1) told)
      is_long =
          let sum = length-append (slice_range bytes start end) (10 ∷ drop (end + 1) bytes) in
          let all = ap length parts.1 in
          let same = count_is in
          let size = source_length in
          omega (arith, sum, all, same, size)

      pub break_there : get_or (drop (digits + 1) told) count 0 ≡ 10
      break_there =
          ap (λ t. get_or t count 0) parts.1
          ∙ ap (λ n. get_or (slice_range bytes start end ++ (10 ∷ drop (end + 1) bytes)) n 0) (count_is ∙ sym source_length)
          ∙ get_seam (slice_range bytes start end) (10 ∷ drop (end + 1) bytes)

-- the head and what is behind it
pub counted_head : (bytes told : List ℕ) (count digits : ℕ) → bytes ≡ front ++ told → IsCounted told count digits
    → bytes ≡ head_text count ++ drop (digits + 1) told
counted_head bytes told count digits is c =
    is ∙ ap (λ t. front ++ t) (c.is ∙ sym (append_assoc (decimal count) (10 ∷ []) (drop (digits + 1) told)))
    ∙ ap (λ t. t ++ drop (digits + 1) told) (sym (head_is count))

-- where the source stands that is found
pub found_split : (bytes told : List ℕ) (count digits start : ℕ) → bytes ≡ front ++ told → IsCounted told count digits
    → count < length (drop (digits + 1) told) → get_or (drop (digits + 1) told) count 0 ≡ 10
    → start + length (drop (digits + 1) told) ≡ length bytes → IsSplit bytes start (start + count)
found_split bytes told count digits start is c less behind place =
    let head = counted_head bytes told count digits is c in
    let sum = ap length head ∙ length-append (head_text count) (drop (digits + 1) told) in
    at_head bytes (drop (digits + 1) told) count start head
    (slice_get-get_or (drop (digits + 1) told) count 0 less ∙ ap Some behind) (omega (arith, sum, place))

-- what is behind a place
pub slice_rest : (xs : List ℕ) (k : ℕ) → take (length xs - k) (drop k xs) ≡ drop k xs
slice_rest xs k = let size = length-drop k xs in take_all (length xs - k) (drop k xs) (omega (arith, size))

pub found : (bytes told source : List ℕ) (count digits : ℕ) → source ≡ drop (digits + 1) told → bytes ≡ front ++ told
    → IsCounted told count digits → count < length source → get_or source count 0 ≡ 10
    → IsSplit bytes (length bytes - length source) (length bytes - length source + count)
found bytes told source count digits rest is c less behind =
    let size = ap length rest in
    let dropped = length-drop (digits + 1) told in
    let sum = ap length is ∙ length-append front told in
    found_split bytes told count digits (length bytes - length source) is c (omega (arith, size, less))
    (ap (λ t. get_or t count 0) (sym rest) ∙ behind) (omega (arith, size, dropped, sum))

-- ## Laws

pub one_split : (bytes : List ℕ) (start end from to : ℕ) → length bytes < 2 ^ 64 → IsSplit bytes start end
    → IsSplit bytes from to → (start ≡ from) × (end ≡ to)
one_split bytes start end from to short is other =
    let a = told_text bytes start end is in
    let told = decimal (end - start) ++ (10 ∷ (slice_range bytes start end ++ (10 ∷ drop (end + 1) bytes))) in
    let b = told_is bytes from to other short told a in
    let s = small bytes start end is short told a in
    let t = small bytes from to other short told a in
    let p = cut (decimal (end - start)) (decimal (to - from)) _ _ (decimal_no_break (end - start) s)
    (decimal_no_break (to - from) t) b in
    let n : end - start ≡ to - from = decimal_injective (end - start) (to - from) s t p.0 in
    let behind = ap length p.1 in
    let one = length-append (slice_range bytes start end) (10 ∷ drop (end + 1) bytes) in
    let two = length-append (slice_range bytes from to) (10 ∷ drop (to + 1) bytes) in
    let size = source_length bytes start end is in
    let size' = source_length bytes from to other in
    let here = length-drop (end + 1) bytes in
    let there = length-drop (to + 1) bytes in
    let w = within bytes start end is in
    let w' = within bytes from to other in
    let o = is.order in
    let o' = other.order in
    (omega (arith, n, behind, one, two, size, size', here, there, w, w', o, o'), omega (arith, n, behind, one, two, size, size', here, there, w, w', o, o'))

pub certificate_split : (source : List ℕ) (pair : Pair)
    → (let start = length (head_text (length source)) in IsSplit (certificate_text source pair) start (start + length source))
certificate_split source pair =
    at_head (certificate_text source pair) (source ++ (10 ∷ lines_text (pair_lines pair))) (length source)
    (length (head_text (length source))) refl
    (ap (slice_get (source ++ (10 ∷ lines_text (pair_lines pair)))) (let e : length source ≡ length source + 0 = omega arith in e)
    ∙ behind_part source (10 ∷ lines_text (pair_lines pair)) 0) refl
