-- One file more is seen.
use Rattle.std.proofs.Common.{◌≡◌, ◌<◌, ◌+◌, ◌∙◌, ℕ, Bool, true, false, ◌||◌, cond, List, [], ◌∷◌, ◌++◌, length, get_or, take}
use Rattle.std.proofs.Common.{refl, sym, ap, bytes_eq, is_some, Option, Some}
use Rattle.std.specs.List.{list_any}
use Rattle.std.specs.Cmp.Lexicographic.{nat_list_eq_equiv}
use Rattle.std.proofs.lemmas.List.Sums.{fold_more}
use Rattle.report_logs.specs.Uris.{distinct, with_file}

or_last : (b : Bool) → (b || false) ≡ cond b true false
or_last true = refl
or_last false = refl

or_more : (b c r r' : Bool) → r' ≡ cond b true r → (c || r') ≡ cond b true (c || r)
or_more true true r r' is = refl
or_more false true r r' is = refl
or_more b false r r' is = is

seen_more : (files : List (List ℕ)) (file q : List ℕ)
    → list_any (bytes_eq q) (files ++ file ∷ []) ≡ cond (bytes_eq file q) true (list_any (bytes_eq q) files)
seen_more [] file q = ap (λ b. b || false) (nat_list_eq_equiv.symm q file) ∙ or_last (bytes_eq file q)
seen_more (first ∷ files) file q =
    or_more (bytes_eq file q) (bytes_eq q first) (list_any (bytes_eq q) files) (list_any (bytes_eq q) (files ++ file ∷ []))
    (seen_more files file q)

new_file : (files : List (List ℕ)) (file : List ℕ) → list_any (bytes_eq file) files ≡ false
    → with_file files file ≡ files ++ file ∷ []
new_file files file new = rw new refl

pub old_file : (files : List (List ℕ)) (file : List ℕ) → list_any (bytes_eq file) files ≡ true
    → with_file files file ≡ files
old_file files file old = rw old refl

pub next : (files : List (List ℕ)) (i : ℕ) → i < length files
    → distinct (take (i + 1) files) ≡ with_file (distinct (take i files)) (get_or files i [])
next files i h = fold_more with_file [] files i [] h

-- a file that was not seen is added
pub new_files : (files : List (List ℕ)) (file : List ℕ) → list_any (bytes_eq file) files ≡ false
    → (found found' : List (List ℕ)) → found ≡ files → found' ≡ found ++ file ∷ [] → found' ≡ with_file files file
new_files files file new found found' so_far pushed =
    pushed ∙ ap (λ fs. fs ++ file ∷ []) so_far ∙ sym (new_file files file new)

-- and is seen from then on
pub new_seen : (files : List (List ℕ)) (file : List ℕ) → list_any (bytes_eq file) files ≡ false
    → (before after : List ℕ → Bool) → ((q : List ℕ) → before q ≡ list_any (bytes_eq q) files)
    → ((q : List ℕ) → after q ≡ cond (bytes_eq file q) true (before q))
    → (q : List ℕ) → after q ≡ list_any (bytes_eq q) (with_file files file)
new_seen files file new before after so_far is q =
    is q ∙ ap (cond (bytes_eq file q) true) (so_far q) ∙ sym (seen_more files file q)
    ∙ ap (list_any (bytes_eq q)) (sym (new_file files file new))

-- what a map has where a value was put
pub there : (b : Bool) (value : Bool) (other : Option Bool)
    → is_some (cond b (Some value) other) ≡ cond b true (is_some other)
there true value other = refl
there false value other = refl
