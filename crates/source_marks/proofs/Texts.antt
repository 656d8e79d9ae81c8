-- Steps along a text, byte by byte.
use Rattle.std.proofs.Common.{◌≡◌, ◌<◌, ◌≤◌, ◌+◌, ◌-◌, ◌*◌, ◌∙◌, ℕ, zero, suc, List, [], ◌∷◌, ◌++◌, length, get_or, drop, add-one, drop-cons}
use Rattle.std.proofs.Common.{append_assoc, arith, true, false, refl, sym, ap, Bool, Option, None, ne_eqb}
use Rattle.std.specs.Prelude.{fold, ◌==◌}
use Rattle.source_marks.specs.Marks.{decimal_value, greatest_line, name_end, number_of}
use Rattle.source_marks.specs.Names.{decoded, decoded_behind, spelled_first}

pub drop_next : (text : List ℕ) (i : ℕ) → i < length text → drop i text ≡ get_or text i 0 ∷ drop (i + 1) text
drop_next text i h = rw (add-one, drop-cons text i 0)

-- ## Digits

-- a value does not fall as digits are read
value_grows : (digits : List ℕ) (value : ℕ) → value ≤ fold (λ v d. v * 10 + (d - 48)) value digits
value_grows [] value = omega arith
value_grows (digit ∷ digits) value = let rest = value_grows digits (value * 10 + (digit - 48)) in omega arith

grown : (digits : List ℕ) (i value next : ℕ) → i < length digits → next ≡ value * 10 + (get_or digits i 0 - 48)
    → decimal_value digits ≡ fold (λ v d. v * 10 + (d - 48)) value (drop i digits) → next ≤ decimal_value digits
grown digits i value next h e so_far =
    let whole : decimal_value digits ≡ fold (λ v d. v * 10 + (d - 48)) (value * 10 + (get_or digits i 0 - 48)) (drop (i + 1) digits) =
    so_far ∙ ap (fold (λ v d. v * 10 + (d - 48)) value) (drop_next digits i h) in
    let rest = value_grows (drop (i + 1) digits) (value * 10 + (get_or digits i 0 - 48)) in omega arith

too_great_by : (digits : List ℕ) → greatest_line < decimal_value digits → number_of digits ≡ None
too_great_by digits h = grind arith

pub too_great : (digits : List ℕ) (i value next : ℕ) → i < length digits → next ≡ value * 10 + (get_or digits i 0 - 48)
    → decimal_value digits ≡ fold (λ v d. v * 10 + (d - 48)) value (drop i digits) → greatest_line < next
    → None ≡ number_of digits
too_great digits i value next h e so_far great =
    let least = grown digits i value next h e so_far in sym (too_great_by digits (omega arith))

-- ## Where a name ends

pub protected_step : (text : List ℕ) (i : ℕ) (was now : Bool) (whole : Option ℕ) → i < length text → was ≡ true → now ≡ false
    → whole ≡ name_end i was (drop i text) → whole ≡ name_end (i + 1) now (drop (i + 1) text)
protected_step text i was now whole h protected free so_far =
    so_far ∙ ap (λ w. name_end i w (drop i text)) protected ∙ ap (name_end i true) (drop_next text i h)
    ∙ ap (λ w. name_end (i + 1) w (drop (i + 1) text)) (sym free)

unprotected_step : (b k : ℕ) (text : List ℕ) → (b == 34) ≡ false → name_end k false (b ∷ text) ≡ name_end (k + 1) (b == 92) text
unprotected_step b k text other = rw other refl

pub plain_step : (text : List ℕ) (i : ℕ) (was now : Bool) (whole : Option ℕ) → i < length text → was ≡ false
    → (get_or text i 0 ≡ 34 → ⊥) → now ≡ (get_or text i 0 == 92)
    → whole ≡ name_end i was (drop i text) → whole ≡ name_end (i + 1) now (drop (i + 1) text)
plain_step text i was now whole h free other is so_far =
    so_far ∙ ap (λ w. name_end i w (drop i text)) free ∙ ap (name_end i false) (drop_next text i h)
    ∙ unprotected_step (get_or text i 0) i (drop (i + 1) text) (ne_eqb _ _ other)
    ∙ ap (λ w. name_end (i + 1) w (drop (i + 1) text)) (sym is)

-- ## The names that are spelled

passed : (k : ℕ) (text : List ℕ) → decoded_behind k text ≡ decoded (drop k text)
passed zero text = refl
passed (suc k) [] = refl
passed (suc k) (b ∷ text) = passed k text

first_spelled : (text : List ℕ) → 0 < length text
    → decoded text ≡ (spelled_first text).byte ∷ decoded (drop ((spelled_first text).more + 1) text)
first_spelled [] some = absurd (omega arith)
first_spelled (b ∷ text) some =
    rw add-one (ap (λ rest. (spelled_first (b ∷ text)).byte ∷ rest) (passed ((spelled_first (b ∷ text)).more) text))

pub name_step : (spelled name name' rest rest' : List ℕ) (byte more : ℕ) → 0 < length rest → byte ≡ (spelled_first rest).byte
    → more ≡ (spelled_first rest).more → decoded spelled ≡ name ++ decoded rest → name' ≡ name ++ byte ∷ []
    → rest' ≡ drop (more + 1) rest → decoded spelled ≡ name' ++ decoded rest'
name_step spelled name name' rest rest' byte more some is_byte is_more so_far pushed passed =
    so_far ∙ ap (λ r. name ++ r) (first_spelled rest some)
    ∙ ap (λ b. name ++ b ∷ decoded (drop ((spelled_first rest).more + 1) rest)) (sym is_byte)
    ∙ ap (λ m. name ++ byte ∷ decoded (drop (m + 1) rest)) (sym is_more)
    ∙ sym (append_assoc name (byte ∷ []) (decoded (drop (more + 1) rest)))
    ∙ ap (λ n. n ++ decoded (drop (more + 1) rest)) (sym pushed)
    ∙ ap (λ r. name' ++ decoded r) (sym passed)
