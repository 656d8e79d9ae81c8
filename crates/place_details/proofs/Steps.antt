-- Steps along texts, byte by byte.
use Rattle.std.proofs.Common.{◌≡◌, ◌<◌, ◌+◌, ◌∙◌, ℕ, zero, suc, List, [], ◌∷◌, ◌++◌, length, get_or, drop, map, take, add-one, drop-cons, append_assoc}
use Rattle.std.proofs.Common.{true, false, refl, sym, ap}
use Rattle.std.specs.Prelude.{◌==◌, slice_index}
use Rattle.std.proofs.lemmas.List.{map-append, take_more}
use Rattle.place_details.specs.Functions.{code_from, mode_behind, scanned, shown_in, step}
use Rattle.place_details.specs.TextLines.{starts_behind}
use Rattle.place_details.specs.declared.code.Mode.{Mode}
use Rattle.place_details.specs.declared.functions.Scan.{Scan}

pub drop_next : (text : List ℕ) (i : ℕ) → i < length text → drop i text ≡ get_or text i 0 ∷ drop (i + 1) text
drop_next text i h = rw (add-one, drop-cons text i 0)

-- ## Lines

start_step : (count b : ℕ) (text : List ℕ) → (b == 10) ≡ true
    → starts_behind count (b ∷ text) ≡ (count + 1) ∷ starts_behind (count + 1) text
start_step count b text is = rw is refl

other_step : (count b : ℕ) (text : List ℕ) → (b == 10) ≡ false
    → starts_behind count (b ∷ text) ≡ starts_behind (count + 1) text
other_step count b text other = rw other refl

pub started : (whole done done' text : List ℕ) (i : ℕ) → i < length text → whole ≡ done ++ starts_behind i (drop i text)
    → (get_or text i 0 == 10) ≡ true → done' ≡ done ++ (i + 1) ∷ []
    → whole ≡ done' ++ starts_behind (i + 1) (drop (i + 1) text)
started whole done done' text i h so_far is pushed =
    so_far ∙ ap (λ t. done ++ starts_behind i t) (drop_next text i h)
    ∙ ap (λ t. done ++ t) (start_step i (get_or text i 0) (drop (i + 1) text) is)
    ∙ sym (append_assoc done ((i + 1) ∷ []) (starts_behind (i + 1) (drop (i + 1) text)))
    ∙ ap (λ t. t ++ starts_behind (i + 1) (drop (i + 1) text)) (sym pushed)

pub gone_on : (whole done text : List ℕ) (i : ℕ) → i < length text → whole ≡ done ++ starts_behind i (drop i text)
    → (get_or text i 0 == 10) ≡ false → whole ≡ done ++ starts_behind (i + 1) (drop (i + 1) text)
gone_on whole done text i h so_far other =
    so_far ∙ ap (λ t. done ++ starts_behind i t) (drop_next text i h)
    ∙ ap (λ t. done ++ t) (other_step i (get_or text i 0) (drop (i + 1) text) other)

-- ## Code

-- the byte behind the one at an index
pub first_behind : (text : List ℕ) (i : ℕ) → slice_index (drop i text) 0 ≡ slice_index text i
first_behind text zero = refl
first_behind [] (suc i) = refl
first_behind (b ∷ text) (suc i) = first_behind text i

pub shown_more : (whole done done' text : List ℕ) (i : ℕ) (mode next : Mode) → i < length text
    → whole ≡ done ++ code_from mode (drop i text)
    → next ≡ mode_behind mode (get_or text i 0) (slice_index text (i + 1))
    → done' ≡ done ++ shown_in mode next (get_or text i 0) ∷ []
    → whole ≡ done' ++ code_from next (drop (i + 1) text)
shown_more whole done done' text i mode next h so_far is pushed =
    let same : next ≡ mode_behind mode (get_or text i 0) (slice_index (drop (i + 1) text) 0) =
    is ∙ ap (mode_behind mode (get_or text i 0)) (sym (first_behind text (i + 1))) in
    so_far ∙ ap (λ t. done ++ code_from mode t) (drop_next text i h)
    ∙ ap (λ m. done ++ (shown_in mode m (get_or text i 0) ∷ code_from m (drop (i + 1) text))) (sym same)
    ∙ sym (append_assoc done (shown_in mode next (get_or text i 0) ∷ []) (code_from next (drop (i + 1) text)))
    ∙ ap (λ t. t ++ code_from next (drop (i + 1) text)) (sym pushed)

-- ## What stands before a place

pub scan_next : (code : List ℕ) (i : ℕ) → scanned code (i + 1) ≡ step (scanned code i) i (slice_index code i)
scan_next code i = ap (scanned code) (add-one i)

pub scanned_more : (code : List ℕ) (i : ℕ) (scan next : Scan) → scan ≡ scanned code i → next ≡ step scan i (slice_index code i)
    → next ≡ scanned code (i + 1)
scanned_more code i scan next so_far is =
    is ∙ ap (λ s. step s i (slice_index code i)) so_far ∙ sym (scan_next code i)

-- ## Places

one_more : {X S B : Type 0} (of : S → B) (seen : X → S) (xs : List X) (i : ℕ) (x : X) → i < length xs
    → map of (map seen (take (i + 1) xs)) ≡ map of (map seen (take i xs)) ++ of (seen (get_or xs i x)) ∷ []
one_more of seen xs i x h =
    ap (λ l. map of (map seen l)) (take_more xs i x h)
    ∙ ap (map of) (map-append seen (take i xs) (get_or xs i x ∷ []))
    ∙ map-append of (map seen (take i xs)) (seen (get_or xs i x) ∷ [])

-- what is told of one place more
pub told_more : {X S B : Type 0} (of : S → B) (seen : X → S) (xs : List X) (i : ℕ) (x : X) (old new : List B) (told : B)
    → i < length xs → old ≡ map of (map seen (take i xs)) → new ≡ old ++ told ∷ [] → told ≡ of (seen (get_or xs i x))
    → new ≡ map of (map seen (take (i + 1) xs))
told_more of seen xs i x old new told h before pushed is =
    pushed ∙ ap (λ l. l ++ told ∷ []) before ∙ ap (λ t. map of (map seen (take i xs)) ++ t ∷ []) is
    ∙ sym (one_more of seen xs i x h)
