-- The texts of a list, appended one after the other.
use Rattle.std.proofs.Common.{
  ◌≡◌,
  refl,
  sym,
  ap,
  ◌∙◌,
  ℕ,
  zero,
  suc,
  ◌+◌,
  ◌<◌,
  ◌≤◌,
  Bool,
  true,
  false,
  ◌||◌,
  cond,
  List,
}
use Rattle.std.proofs.Common.{[], ◌∷◌, ◌++◌, length, map, take, get_or, arith}
use Rattle.std.proofs.lemmas.List.{append_assoc, append-nil, take_more, take_all, length-take-le, map-append}
use Rattle.std.proofs.lemmas.List.Elements.{filter-append}
use Rattle.std.proofs.lemmas.List.FromFn.{length-enumerate_from, get_or-enumerate_from}
use Rattle.std.specs.List.{join_with_byte, filter, range_with_len, enumerate_from}
use Rattle.notes_json.specs.Pieces.{comma_before, listed}
use Rattle.notes_json.specs.reading.Marks.{has_some}

-- ## A text more

-- the byte that stands before it
abbrev mark : ℕ → List (List ℕ) → List ℕ
mark c [] = []
mark c (t ∷ ts) = c ∷ []

joined_more : (c : ℕ) (ts : List (List ℕ)) (t : List ℕ)
    → join_with_byte c (ts ++ t ∷ []) ≡ join_with_byte c ts ++ (mark c ts ++ t)
joined_more c [] t = refl
joined_more c (x ∷ []) t = refl
joined_more c (x ∷ y ∷ ts) t =
    ap (λ z. x ++ (c ∷ z)) (joined_more c (y ∷ ts) t)
    ∙ sym (append_assoc x (c ∷ join_with_byte c (y ∷ ts)) (c ∷ t))

mark_before : {A : Type 0} (f : A → List ℕ) (xs : List A) → mark 44 (map f xs) ≡ comma_before (length xs)
mark_before f [] = refl
mark_before f (x ∷ xs) = refl

mark_if : {A : Type 0} (c : ℕ) (f : A → List ℕ) (xs : List A) → mark c (map f xs) ≡ cond (has_some xs) (c ∷ []) []
mark_if c f [] = refl
mark_if c f (x ∷ xs) = refl

texts_more : {A : Type 0} (c : ℕ) (f : A → List ℕ) (xs : List A) (x : A)
    → join_with_byte c (map f (xs ++ x ∷ [])) ≡ join_with_byte c (map f xs) ++ (mark c (map f xs) ++ f x)
texts_more c f xs x = ap (join_with_byte c) (map-append f xs (x ∷ [])) ∙ joined_more c (map f xs) (f x)

-- ## Whole lists

-- two pieces behind those so far
more : {A : Type 0} (o x a b : List A) {p q r : List A} → p ≡ o ++ x → q ≡ p ++ a → r ≡ q ++ b
    → r ≡ o ++ (x ++ (a ++ b))
more o x a b i j k =
    k ∙ ap (λ z. z ++ b) (j ∙ ap (λ z. z ++ a) i) ∙ append_assoc (o ++ x) a b ∙ append_assoc o x (a ++ b)

-- one text more, behind its comma
next : {A : Type 0} (f : A → List ℕ) (xs ys : List A) (x : A) (n : ℕ) (o : List ℕ) {p q r : List ℕ}
    → ys ≡ xs ++ x ∷ [] → length xs ≡ n → p ≡ o ++ listed f xs → q ≡ p ++ comma_before n → r ≡ q ++ f x
    → r ≡ o ++ listed f ys
next f xs ys x n o e l i j k =
    more o (listed f xs) (comma_before n) (f x) i j k
    ∙ ap (λ z. o ++ (listed f xs ++ (z ++ f x))) (ap comma_before (sym l) ∙ sym (mark_before f xs))
    ∙ ap (λ z. o ++ z) (sym (texts_more 44 f xs x)) ∙ ap (λ z. o ++ listed f z) (sym e)

pub next_listed : {A : Type 0} (f : A → List ℕ) (xs : List A) (n : ℕ) (d : A) (o : List ℕ) {p q r : List ℕ}
    → n < length xs → p ≡ o ++ listed f (take n xs) → q ≡ p ++ comma_before n → r ≡ q ++ f (get_or xs n d)
    → r ≡ o ++ listed f (take (n + 1) xs)
next_listed f xs n d o lt i j k =
    next f (take n xs) (take (n + 1) xs) (get_or xs n d) n o (take_more xs n d lt)
    (length-take-le n xs (omega (arith, lt))) i j k

pub all_listed : {A : Type 0} (f : A → List ℕ) (xs : List A) (n : ℕ) (o : List ℕ) {p : List ℕ} → length xs ≤ n
    → p ≡ o ++ listed f (take n xs) → p ≡ o ++ listed f xs
all_listed f xs n o le i = i ∙ ap (λ z. o ++ listed f z) (take_all n xs le)

-- ## Lists with places

pub next_placed : {A : Type 0} (f : ℕ × A → List ℕ) (xs : List A) (n : ℕ) (d : A) (o : List ℕ) {p q r : List ℕ}
    → n < length xs → p ≡ o ++ listed f (take n (enumerate_from 0 xs)) → q ≡ p ++ comma_before n
    → r ≡ q ++ f (n, get_or xs n d) → r ≡ o ++ listed f (take (n + 1) (enumerate_from 0 xs))
next_placed f xs n d o {q = q} lt i j k =
    let e : 0 + n ≡ n = omega arith in
    let placed : get_or (enumerate_from 0 xs) n (0, d) ≡ (n, get_or xs n d) =
    get_or-enumerate_from 0 xs n (0, d) lt ∙ ap (λ m. (m, get_or xs n d)) e in
    next_listed f (enumerate_from 0 xs) n (0, d) o (omega (arith, lt, length-enumerate_from 0 xs)) i j
    (k ∙ ap (λ z. q ++ f z) (sym placed))

pub all_placed : {A : Type 0} (f : ℕ × A → List ℕ) (xs : List A) (n : ℕ) (o : List ℕ) {p : List ℕ} → length xs ≤ n
    → p ≡ o ++ listed f (take n (enumerate_from 0 xs)) → p ≡ o ++ listed f (enumerate_from 0 xs)
all_placed f xs n o le i = all_listed f (enumerate_from 0 xs) n o (omega (arith, le, length-enumerate_from 0 xs)) i

-- ## Lists of which some are left out

numbers_more : (a n : ℕ) → range_with_len a (suc n) ≡ range_with_len a n ++ (a + n) ∷ []
numbers_more a zero = ap (λ k. k ∷ []) (omega arith)
numbers_more a (suc n) =
    ap (λ z. a ∷ z) (numbers_more (a + 1) n)
    ∙ ap (λ k. a ∷ (range_with_len (a + 1) n ++ k ∷ [])) (omega arith)

-- those of the numbers below a bound that pass a test
pub passing_more : (p : ℕ → Bool) (n : ℕ)
    → filter p (range_with_len 0 (n + 1)) ≡ filter p (range_with_len 0 n) ++ cond (p n) (n ∷ []) []
passing_more p n =
    let next : n + 1 ≡ suc n = omega arith in
    let same : 0 + n ≡ n = omega arith in
    ap (λ k. filter p (range_with_len 0 k)) next ∙ ap (filter p) (numbers_more 0 n)
    ∙ filter-append p (range_with_len 0 n) ((0 + n) ∷ [])
    ∙ ap (λ k. filter p (range_with_len 0 n) ++ cond (p k) (k ∷ []) []) same

-- an element more whose text is joined to the others by a byte, or is left out
text_if : {A : Type 0} (c : ℕ) (f : A → List ℕ) (xs : List A) (x : A) (is : Bool)
    → join_with_byte c (map f (xs ++ cond is (x ∷ []) []))
    ≡ join_with_byte c (map f xs) ++ cond is (cond (has_some xs) (c ∷ []) [] ++ f x) []
text_if c f xs x true =
    texts_more c f xs x ∙ ap (λ z. join_with_byte c (map f xs) ++ (z ++ f x)) (mark_if c f xs)
text_if c f xs x false =
    ap (λ z. join_with_byte c (map f z)) (append-nil xs) ∙ sym (append-nil (join_with_byte c (map f xs)))

has_if : {A : Type 0} (xs : List A) (x : A) (is : Bool) → has_some (xs ++ cond is (x ∷ []) []) ≡ has_some xs || is
has_if [] x true = refl
has_if [] x false = refl
has_if (y ∷ ys) x is = refl

-- its text behind those so far, and whether there are any then
pub next_if : {A : Type 0} (c : ℕ) (f : A → List ℕ) (xs ys : List A) (x : A) (is others : Bool) (o : List ℕ)
    {p q : List ℕ} → ys ≡ xs ++ cond is (x ∷ []) [] → others ≡ has_some xs → p ≡ o ++ join_with_byte c (map f xs)
    → q ≡ p ++ cond is (cond others (c ∷ []) [] ++ f x) [] → q ≡ o ++ join_with_byte c (map f ys)
next_if c f xs ys x is others o e h i j =
    let so_far = join_with_byte c (map f xs) in
    j ∙ ap (λ z. z ++ cond is (cond others (c ∷ []) [] ++ f x) []) i
    ∙ append_assoc o so_far (cond is (cond others (c ∷ []) [] ++ f x) [])
    ∙ ap (λ b. o ++ (so_far ++ cond is (cond b (c ∷ []) [] ++ f x) [])) h ∙ ap (λ z. o ++ z) (sym (text_if c f xs x
    is))
    ∙ ap (λ z. o ++ join_with_byte c (map f z)) (sym e)

pub others_then : {A : Type 0} (xs ys : List A) (x : A) (is others after : Bool) → ys ≡ xs ++ cond is (x ∷ []) []
    → others ≡ has_some xs → others ≡ true → after ≡ true → after ≡ has_some ys
others_then xs ys x is others after e h i j =
    j ∙ ap (λ b. b || is) (sym i ∙ h) ∙ sym (has_if xs x is) ∙ ap has_some (sym e)

pub others_else : {A : Type 0} (xs ys : List A) (x : A) (is others after : Bool) → ys ≡ xs ++ cond is (x ∷ []) []
    → others ≡ has_some xs → others ≡ false → after ≡ is → after ≡ has_some ys
others_else xs ys x is others after e h i j =
    j ∙ ap (λ b. b || is) (sym i ∙ h) ∙ sym (has_if xs x is) ∙ ap has_some (sym e)
