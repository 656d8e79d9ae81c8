-- Places in decimal are read back, line by line.
use Rattle.std.proofs.Common.{◌≡◌, ◌≢◌, ◌∙◌, ℕ, zero, suc, ◌<◌, ◌^◌, List, [], ◌∷◌, ◌++◌, length, get_or, refl, sym, ap, subst, arith, append-nil, decimal, Result, Ok, Err}
use Rattle.std.specs.Prelude.{codes, IsUtf8}
use Rattle.std.specs.List.{flat_map}
use Rattle.std.specs.Int.{IsInRange}
use Rattle.std.specs.Str.{IsAscii}
use Rattle.std.specs.Str.Parse.{ParsesUnsigned}
use Rattle.std.proofs.lemmas.Fmt.{parse-decimal, decimal_is_IsNumeral, IsAscii-decimal}
use Rattle.std.proofs.lemmas.List.{append_assoc}
use Rattle.std.proofs.lemmas.Str.{IsAscii-append, IsUtf8-from_ascii}
use Rattle.std.proofs.lemmas.Str.Parse.{digit_at}
use Rattle.tm_terms.specs.declared.places.Place.{Place}
use Rattle.tm_terms.specs.Texts.{place_text}
use Rattle.solution_lines.specs.SolutionTexts.{wait_line, waits_count_line, dead_line, dead_count_line}
use Rattle.report_reading.specs.declared.listings.Listing.{Listing}
use Rattle.report_reading.specs.declared.listings.Listing.TheVariants.{Waits, Dead}
use Rattle.report_reading.specs.Listings.{HasSmallNumbers, HaveSmallNumbers, listing_text}
use Rattle.report_reading.specs.reading.Listed.{word_text, count_word, line_before, count_line, lines_before, AreLeft}

-- ## Numbers

wide : (n : ℕ) → n < 2 ^ 32 → n < 2 ^ 64
wide n small = omega (arith, small)

pub number_read : {E : Type 0} (n m : ℕ) (text : List ℕ) (r : Result ℕ E) → n < 2 ^ 32 → text ≡ decimal n
    → ParsesUnsigned 32 10 text r → r ≡ Ok m → m ≡ n
number_read {E} n m text r small e parsed is =
    let read : r ≡ Ok n = parse-decimal 32 n text r small (wide n small) e parsed in
    let both : Ok m ≡ Ok n = sym is ∙ read in
    cc

pub number_never : {E : Type 0} (n : ℕ) (text : List ℕ) (r : Result ℕ E) (error : E) → n < 2 ^ 32 → text ≡ decimal n
    → ParsesUnsigned 32 10 text r → r ≡ Err error → ⊥
number_never {E} n text r error small e parsed is =
    let read : r ≡ Ok n = parse-decimal 32 n text r small (wide n small) e parsed in
    let both : Err error ≡ Ok n = sym is ∙ read in
    absurd cc

-- ## Bytes that a text does not have

abbrev pub Avoids : ℕ → List ℕ → Type 0
Avoids b text = (i : ℕ) → i < length text → get_or text i 0 ≢ b

pub avoids_nil : (b : ℕ) → Avoids b []
avoids_nil b i lt = absurd (omega (arith, lt))

pub avoids_cons : (b x : ℕ) (text : List ℕ) → x ≢ b → Avoids b text → Avoids b (x ∷ text)
avoids_cons b x text n f zero lt = n
avoids_cons b x text n f (suc i) lt = f i (omega (arith, lt))

pub avoids_append : (b : ℕ) (one other : List ℕ) → Avoids b one → Avoids b other → Avoids b (one ++ other)
avoids_append b [] other f g = g
avoids_append b (x ∷ one) other f g =
    avoids_cons b x (one ++ other) (f zero (omega arith))
    (avoids_append b one other (λ i lt. f (suc i) (omega (arith, lt))) g)

digits_avoid : (b n : ℕ) → n < 2 ^ 64 → ((d : ℕ) → IsInRange 48 57 d → d ≢ b) → Avoids b (decimal n)
digits_avoid b n small others i lt =
    let numeral = decimal_is_IsNumeral n small in
    let digits = numeral.0 in
    others (get_or (decimal n) i 0) (digit_at (decimal n) i digits.1 lt)

pub line_avoids : (place : Place) → HasSmallNumbers place → Avoids 58 (decimal place.line)
line_avoids place small = digits_avoid 58 place.line (wide place.line small.0) (λ d r e. omega (arith, r, e))

pub place_avoids : (place : Place) → HasSmallNumbers place → Avoids 32 (place_text place)
place_avoids place small =
    avoids_append 32 (decimal place.line) (58 ∷ decimal place.col)
    (digits_avoid 32 place.line (wide place.line small.0) (λ d r e. omega (arith, r, e)))
    (avoids_cons 32 58 (decimal place.col) (λ e. omega (arith, e))
    (digits_avoid 32 place.col (wide place.col small.1) (λ d r e. omega (arith, r, e))))

pub place_avoids_end : (place : Place) → HasSmallNumbers place → Avoids 10 (place_text place)
place_avoids_end place small =
    avoids_append 10 (decimal place.line) (58 ∷ decimal place.col)
    (digits_avoid 10 place.line (wide place.line small.0) (λ d r e. omega (arith, r, e)))
    (avoids_cons 10 58 (decimal place.col) (λ e. omega (arith, e))
    (digits_avoid 10 place.col (wide place.col small.1) (λ d r e. omega (arith, r, e))))

pub number_avoids : (n : ℕ) → n < 2 ^ 64 → Avoids 10 (decimal n)
number_avoids n small = digits_avoid 10 n small (λ d r e. omega (arith, r, e))

four_avoid : (b x y z w : ℕ) → x ≢ b → y ≢ b → z ≢ b → w ≢ b → Avoids b (x ∷ y ∷ z ∷ w ∷ [])
four_avoid b x y z w m n o p =
    avoids_cons b x (y ∷ z ∷ w ∷ []) m
    (avoids_cons b y (z ∷ w ∷ []) n (avoids_cons b z (w ∷ []) o (avoids_cons b w [] p (avoids_nil b))))

pub word_avoids : (listing : Listing) → Avoids 10 (word_text listing)
word_avoids Waits =
    four_avoid 10 87 65 73 84 (λ e. omega (arith, e)) (λ e. omega (arith, e)) (λ e. omega (arith, e)) (λ e. omega (arith, e))
word_avoids Dead =
    four_avoid 10 68 69 65 68 (λ e. omega (arith, e)) (λ e. omega (arith, e)) (λ e. omega (arith, e)) (λ e. omega (arith, e))

pub count_avoids : (listing : Listing) → Avoids 32 (count_word listing)
count_avoids Waits =
    avoids_cons 32 119 (97 ∷ 105 ∷ 116 ∷ 115 ∷ []) (λ e. omega (arith, e))
    (four_avoid 32 97 105 116 115 (λ e. omega (arith, e)) (λ e. omega (arith, e)) (λ e. omega (arith, e)) (λ e. omega (arith, e)))
count_avoids Dead =
    four_avoid 32 100 101 97 100 (λ e. omega (arith, e)) (λ e. omega (arith, e)) (λ e. omega (arith, e)) (λ e. omega (arith, e))

-- a number is no word that begins with a letter
pub number_no_letters : (n : ℕ) (word text : List ℕ) → n < 2 ^ 64 → word ≡ decimal n → 57 < get_or text 0 0
    → word ≡ text → ⊥
number_no_letters n word text small e letter f =
    let numeral = decimal_is_IsNumeral n small in
    let digits = numeral.0 in
    let most = digit_at (decimal n) 0 digits.1 digits.0 in
    let same : get_or (decimal n) 0 0 ≡ get_or text 0 0 = ap (λ t. get_or t 0 0) (sym e ∙ f) in
    omega (arith, most, letter, same)

-- a number is not the word of a listing
first_byte : (listing : Listing) → 57 < get_or (word_text listing) 0 0
first_byte Waits = omega arith
first_byte Dead = omega arith

pub number_no_word : (listing : Listing) (n : ℕ) (word : List ℕ) → n < 2 ^ 64 → word ≡ decimal n → word ≡ word_text listing → ⊥
number_no_word listing n word small e f = number_no_letters n word (word_text listing) small e (first_byte listing) f

-- ## Lines

pub line_is : (place word others last : List ℕ)
    → (((place ++ word) ++ (10 ∷ [])) ++ others) ++ last ≡ place ++ (word ++ (10 ∷ (others ++ last)))
line_is place word others last =
    append_assoc ((place ++ word) ++ (10 ∷ [])) others last
    ∙ append_assoc (place ++ word) (10 ∷ []) (others ++ last)
    ∙ append_assoc place word (10 ∷ (others ++ last))

waits_lines : (places : List Place) (count : ℕ)
    → flat_map wait_line places ++ waits_count_line count ≡ lines_before Waits places count
waits_lines [] count = refl
waits_lines (place ∷ places) count =
    line_is (place_text place) (codes " WAIT") (flat_map wait_line places) (waits_count_line count)
    ∙ ap (λ t. place_text place ++ (codes " WAIT" ++ (10 ∷ t))) (waits_lines places count)

dead_lines : (places : List Place) (count : ℕ)
    → flat_map dead_line places ++ dead_count_line count ≡ lines_before Dead places count
dead_lines [] count = refl
dead_lines (place ∷ places) count =
    line_is (place_text place) (codes " DEAD") (flat_map dead_line places) (dead_count_line count)
    ∙ ap (λ t. place_text place ++ (codes " DEAD" ++ (10 ∷ t))) (dead_lines places count)

listing_lines : (listing : Listing) (places : List Place)
    → listing_text listing places ≡ lines_before listing places (length places)
listing_lines Waits places = waits_lines places (length places)
listing_lines Dead places = dead_lines places (length places)

-- ## The places that are left

pub left_first : (listing : Listing) (places : List Place) (text : List ℕ) → HaveSmallNumbers places
    → text ≡ listing_text listing places → AreLeft listing places [] text
left_first listing places text small e = record {
  more = places;
  are = refl;
  small = small;
  lines = e ∙ listing_lines listing places;
}

module _ (listing : Listing) (places found : List Place) (left : List ℕ) where
  -- no place was found
  pub left_none : ((p : Place) (rest : List ℕ) → HasSmallNumbers p → left ≡ line_before listing p rest → ⊥)
      → AreLeft listing places found left → found ≡ places
  left_none none are = by_case are.more are.are are.small are.lines
    where
      by_case : (more : List Place) → places ≡ found ++ more → HaveSmallNumbers more
          → left ≡ lines_before listing more (length places) → found ≡ places
      by_case [] e small lines = sym (append-nil found) ∙ sym e
      by_case (p ∷ more) e small lines = absurd (none p (lines_before listing more (length places)) small.0 lines)

  -- one was
  pub left_some : (place : Place) (behind : List ℕ) → length places < 2 ^ 64
      → ((p : Place) (rest : List ℕ) → HasSmallNumbers p → left ≡ line_before listing p rest
      → (place ≡ p) × (behind ≡ rest)) → ((n : ℕ) → n < 2 ^ 64 → left ≡ count_line listing n → ⊥)
      → AreLeft listing places found left → AreLeft listing places (found ++ (place ∷ [])) behind
  left_some place behind few line last are = by_case are.more are.are are.small are.lines
    where
      by_case : (more : List Place) → places ≡ found ++ more → HaveSmallNumbers more
          → left ≡ lines_before listing more (length places) → AreLeft listing places (found ++ (place ∷ [])) behind
      by_case [] e small lines = absurd (last (length places) few lines)
      by_case (p ∷ more) e small lines =
          let both = line p (lines_before listing more (length places)) small.0 lines in
          record {
            more = more;
            are = e ∙ ap (λ q. found ++ (q ∷ more)) (sym both.0) ∙ sym (append_assoc found (place ∷ []) more);
            small = small.1;
            lines = both.1;
          }

-- ## The text is in ASCII

pub ascii_cons : (b : ℕ) (text : List ℕ) → b < 128 → IsAscii text → IsAscii (b ∷ text)
ascii_cons b text small f zero = small
ascii_cons b text small f (suc i) = f i

pub ascii_nil : IsAscii []
ascii_nil i = omega arith

four_ascii : (x y z w : ℕ) (rest : List ℕ) → x < 128 → y < 128 → z < 128 → w < 128 → IsAscii rest
    → IsAscii (x ∷ y ∷ z ∷ w ∷ rest)
four_ascii x y z w rest a b c d f =
    ascii_cons x (y ∷ z ∷ w ∷ rest) a (ascii_cons y (z ∷ w ∷ rest) b (ascii_cons z (w ∷ rest) c (ascii_cons w rest d f)))

ascii_word : (listing : Listing) (rest : List ℕ) → IsAscii rest → IsAscii (word_text listing ++ rest)
ascii_word Waits rest f = four_ascii 87 65 73 84 rest (omega arith) (omega arith) (omega arith) (omega arith) f
ascii_word Dead rest f = four_ascii 68 69 65 68 rest (omega arith) (omega arith) (omega arith) (omega arith) f

ascii_count : (listing : Listing) (rest : List ℕ) → IsAscii rest → IsAscii (count_word listing ++ rest)
ascii_count Waits rest f =
    ascii_cons 119 (97 ∷ 105 ∷ 116 ∷ 115 ∷ rest) (omega arith)
    (four_ascii 97 105 116 115 rest (omega arith) (omega arith) (omega arith) (omega arith) f)
ascii_count Dead rest f = four_ascii 100 101 97 100 rest (omega arith) (omega arith) (omega arith) (omega arith) f

pub ascii_place : (place : Place) → HasSmallNumbers place → IsAscii (place_text place)
ascii_place place small =
    IsAscii-append (decimal place.line) (58 ∷ decimal place.col) (IsAscii-decimal place.line (wide place.line small.0))
    (ascii_cons 58 (decimal place.col) (omega arith) (IsAscii-decimal place.col (wide place.col small.1)))

ascii_lines : (listing : Listing) (places : List Place) (count : ℕ) → HaveSmallNumbers places → count < 2 ^ 64
    → IsAscii (lines_before listing places count)
ascii_lines listing [] count small few =
    ascii_count listing (32 ∷ (decimal count ++ (10 ∷ []))) (ascii_cons 32 (decimal count ++ (10 ∷ [])) (omega arith)
    (IsAscii-append (decimal count) (10 ∷ []) (IsAscii-decimal count few) (ascii_cons 10 [] (omega arith) ascii_nil)))
ascii_lines listing (place ∷ places) count small few =
    let rest = lines_before listing places count in
    IsAscii-append (place_text place) (32 ∷ (word_text listing ++ (10 ∷ rest))) (ascii_place place small.0)
    (ascii_cons 32 (word_text listing ++ (10 ∷ rest)) (omega arith)
    (ascii_word listing (10 ∷ rest) (ascii_cons 10 rest (omega arith) (ascii_lines listing places count small.1 few))))

pub listing_utf8 : (listing : Listing) (places : List Place) (text : List ℕ) → HaveSmallNumbers places → length places < 2 ^ 64
    → text ≡ listing_text listing places → IsUtf8 text
listing_utf8 listing places text small few e =
    subst IsUtf8 (sym (e ∙ listing_lines listing places))
    (IsUtf8-from_ascii (lines_before listing places (length places)) (ascii_lines listing places (length places) small few))
