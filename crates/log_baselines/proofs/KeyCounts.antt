-- One fingerprint more is counted, and has its key.
use Rattle.std.proofs.Common.{◌≡◌, ◌<◌, ◌+◌, ◌∙◌, ℕ, Bool, List, [], ◌∷◌, ◌++◌, length, get_or, take, drop, append_assoc, cond}
use Rattle.std.proofs.Common.{true, false, refl, sym, ap, ⊎_elim, add-one, drop-cons, unwrap_or, bytes_eq, count_by, Option, Some, Bor, map, zero, suc}
use Rattle.std.specs.Prelude.{slice_get}
use Rattle.std.proofs.lemmas.Option.{same_Some}
use Rattle.log_baselines.specs.reading.Seen.{text_seen}
use Rattle.std.specs.Cmp.Lexicographic.{bytes_decides, nat_list_eq_equiv}
use Rattle.std.proofs.lemmas.Bool.{cases_Bool, cond-true, cond-false}
use Rattle.std.proofs.lemmas.List.{take_more}
use Rattle.std.proofs.lemmas.List.Sums.{count_by_more_yes, count_by_more_no}
use Rattle.log_baselines.specs.Keys.{key_of, keys_behind}

pub read_at : (prints : List (Bor (List ℕ))) (i : ℕ) (print : Bor (List ℕ)) → slice_get prints i ≡ Some print
    → print.now ≡ get_or (map text_seen prints) i []
read_at [] i print is = cc
read_at (first ∷ prints) zero print is = ap text_seen (sym (same_Some first print is))
read_at (first ∷ prints) (suc i) print is = read_at prints i print is

pub unwrapped : (b : Bool) (n : ℕ) (other : Option ℕ) → unwrap_or (cond b (Some n) other) 0 ≡ cond b n (unwrap_or other 0)
unwrapped true n other = refl
unwrapped false n other = refl

pub counted : (prints : List (List ℕ)) (i : ℕ) → i < length prints → (before after : List ℕ → ℕ) (n : ℕ)
    → n ≡ before (get_or prints i [])
    → ((q : List ℕ) → after q ≡ cond (bytes_eq (get_or prints i []) q) (n + 1) (before q))
    → ((q : List ℕ) → before q ≡ count_by (bytes_eq q) (take i prints))
    → (q : List ℕ) → after q ≡ count_by (bytes_eq q) (take (i + 1) prints)
counted prints i h before after n is changed so_far q =
    let print : List ℕ = get_or prints i [] in
    ⊎_elim
    (λ t. let same : q ≡ print = (bytes_decides q print).0 t in
    changed q ∙ cond-true (bytes_eq print q) (n + 1) (before q) (sym (nat_list_eq_equiv.symm q print) ∙ t)
    ∙ ap (λ k. k + 1) (is ∙ ap before (sym same) ∙ so_far q) ∙ sym (count_by_more_yes (bytes_eq q) prints i [] h t))
    (λ f. changed q ∙ cond-false (bytes_eq print q) (n + 1) (before q) (sym (nat_list_eq_equiv.symm q print) ∙ f)
    ∙ so_far q ∙ sym (count_by_more_no (bytes_eq q) prints i [] h f))
    (cases_Bool (bytes_eq q print))

pub marked : (prints whole done done' : List (List ℕ)) (i n : ℕ) (key : List ℕ) → i < length prints
    → whole ≡ done ++ keys_behind (take i prints) (drop i prints)
    → n ≡ count_by (bytes_eq (get_or prints i [])) (take i prints) → key ≡ key_of (get_or prints i []) n
    → done' ≡ done ++ key ∷ []
    → whole ≡ done' ++ keys_behind (take (i + 1) prints) (drop (i + 1) prints)
marked prints whole done done' i n key h so_far counts is pushed =
    let print : List ℕ = get_or prints i [] in
    let next : drop i prints ≡ print ∷ drop (i + 1) prints = rw (add-one, drop-cons prints i []) in
    let rest : List (List ℕ) = keys_behind (take (i + 1) prints) (drop (i + 1) prints) in
    so_far ∙ ap (λ f. done ++ keys_behind (take i prints) f) next
    ∙ ap (λ t. done ++ (key_of print (count_by (bytes_eq print) (take i prints)) ∷ keys_behind t (drop (i + 1) prints)))
    (sym (take_more prints i [] h))
    ∙ ap (λ t. done ++ (t ∷ rest)) (sym (is ∙ ap (key_of print) counts))
    ∙ sym (append_assoc done (key ∷ []) rest) ∙ ap (λ t. t ++ rest) (sym pushed)
