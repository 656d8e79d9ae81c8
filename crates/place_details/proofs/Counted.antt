-- One front more is counted, and has its fingerprint.
use Rattle.std.proofs.Common.{◌≡◌, ◌<◌, ◌+◌, ◌∙◌, ℕ, Bool, List, [], ◌∷◌, ◌++◌, length, get_or, take, drop, append_assoc, cond}
use Rattle.std.proofs.Common.{true, false, refl, sym, ap, ⊎_elim, add-one, drop-cons, unwrap_or, bytes_eq, count_by, Option, Some}
use Rattle.std.specs.Cmp.Lexicographic.{bytes_decides, nat_list_eq_equiv}
use Rattle.std.proofs.lemmas.Bool.{cases_Bool, cond-true, cond-false}
use Rattle.std.proofs.lemmas.List.{take_more}
use Rattle.std.proofs.lemmas.List.Sums.{count_by_more_yes, count_by_more_no}
use Rattle.place_details.specs.Fingerprints.{fingerprint, fingerprints_behind}

pub unwrapped : (b : Bool) (n : ℕ) (other : Option ℕ) → unwrap_or (cond b (Some n) other) 0 ≡ cond b n (unwrap_or other 0)
unwrapped true n other = refl
unwrapped false n other = refl

pub counted : (fronts : List (List ℕ)) (i : ℕ) → i < length fronts → (before after : List ℕ → ℕ) (n : ℕ)
    → n ≡ before (get_or fronts i [])
    → ((q : List ℕ) → after q ≡ cond (bytes_eq (get_or fronts i []) q) (n + 1) (before q))
    → ((q : List ℕ) → before q ≡ count_by (bytes_eq q) (take i fronts))
    → (q : List ℕ) → after q ≡ count_by (bytes_eq q) (take (i + 1) fronts)
counted fronts i h before after n is changed so_far q =
    let front : List ℕ = get_or fronts i [] in
    ⊎_elim
    (λ t. let same : q ≡ front = (bytes_decides q front).0 t in
    changed q ∙ cond-true (bytes_eq front q) (n + 1) (before q) (sym (nat_list_eq_equiv.symm q front) ∙ t)
    ∙ ap (λ k. k + 1) (is ∙ ap before (sym same) ∙ so_far q) ∙ sym (count_by_more_yes (bytes_eq q) fronts i [] h t))
    (λ f. changed q ∙ cond-false (bytes_eq front q) (n + 1) (before q) (sym (nat_list_eq_equiv.symm q front) ∙ f)
    ∙ so_far q ∙ sym (count_by_more_no (bytes_eq q) fronts i [] h f))
    (cases_Bool (bytes_eq q front))

pub marked : (fronts whole done done' : List (List ℕ)) (i n : ℕ) (text : List ℕ) → i < length fronts
    → whole ≡ done ++ fingerprints_behind (take i fronts) (drop i fronts)
    → n ≡ count_by (bytes_eq (get_or fronts i [])) (take i fronts) → text ≡ fingerprint (get_or fronts i []) n
    → done' ≡ done ++ text ∷ []
    → whole ≡ done' ++ fingerprints_behind (take (i + 1) fronts) (drop (i + 1) fronts)
marked fronts whole done done' i n text h so_far counts is pushed =
    let front : List ℕ = get_or fronts i [] in
    let next : drop i fronts ≡ front ∷ drop (i + 1) fronts = rw (add-one, drop-cons fronts i []) in
    let rest : List (List ℕ) = fingerprints_behind (take (i + 1) fronts) (drop (i + 1) fronts) in
    so_far ∙ ap (λ f. done ++ fingerprints_behind (take i fronts) f) next
    ∙ ap (λ t. done ++ (fingerprint front (count_by (bytes_eq front) (take i fronts)) ∷ fingerprints_behind t (drop (i + 1) fronts)))
    (sym (take_more fronts i [] h))
    ∙ ap (λ t. done ++ (t ∷ rest)) (sym (is ∙ ap (fingerprint front) counts))
    ∙ sym (append_assoc done (text ∷ []) rest) ∙ ap (λ t. t ++ rest) (sym pushed)
