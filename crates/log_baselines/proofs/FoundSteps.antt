-- One result more is told.
use Rattle.std.proofs.Common.{◌≡◌, ◌<◌, ◌+◌, ◌∙◌, ℕ, Bool, true, false, Option, List, [], ◌∷◌, ◌++◌, length, get_or, drop, map, append_assoc}
use Rattle.std.proofs.Common.{refl, sym, ap, add-one, drop-cons, cond}
use Rattle.std.proofs.lemmas.List.{drop-map}
use Rattle.serde_json.specs.Data.{Data}
use Rattle.log_baselines.specs.Keys.{has_key}
use Rattle.log_baselines.specs.Results.{absents, found, partner, told_absent, told_by}

next : {A : Type 0} (xs : List A) (i : ℕ) (d : A) → i < length xs → drop i xs ≡ get_or xs i d ∷ drop (i + 1) xs
next xs i d h = rw (add-one, drop-cons xs i d)

-- an item of a list, as what it is seen as
pub item_at : {A B : Type 0} (f : A → B) (xs : List A) (i : ℕ) (d : A) → i < length xs
    → drop i (map f xs) ≡ f (get_or xs i d) ∷ drop (i + 1) (map f xs)
item_at f xs i d h =
    drop-map f i xs ∙ ap (map f) (next xs i d h)
    ∙ ap (λ rest. f (get_or xs i d) ∷ rest) (sym (drop-map f (i + 1) xs))

pub found_more : (compared : Bool) (old_keys : List (List ℕ)) (olds : List Data) (keys : List (List ℕ))
    (remarks results : List Data) (i : ℕ) (key : List ℕ) (remark result : Data) (whole done done' : List Data) (value : Data)
    → drop i keys ≡ key ∷ drop (i + 1) keys → drop i remarks ≡ remark ∷ drop (i + 1) remarks
    → drop i results ≡ result ∷ drop (i + 1) results
    → whole ≡ done ++ found compared old_keys olds (drop i keys) (drop i remarks) (drop i results)
    → value ≡ told_by compared (partner key old_keys olds) remark result
    → done' ≡ done ++ value ∷ []
    → whole ≡ done' ++ found compared old_keys olds (drop (i + 1) keys) (drop (i + 1) remarks) (drop (i + 1) results)
found_more compared old_keys olds keys remarks results i key remark result whole done done' value one_key one_remark one_result so_far is pushed =
    let rest : List Data = found compared old_keys olds (drop (i + 1) keys) (drop (i + 1) remarks) (drop (i + 1) results) in
    so_far
    ∙ ap (λ k. done ++ found compared old_keys olds k (drop i remarks) (drop i results)) one_key
    ∙ ap (λ m. done ++ found compared old_keys olds (key ∷ drop (i + 1) keys) m (drop i results)) one_remark
    ∙ ap (λ r. done ++ found compared old_keys olds (key ∷ drop (i + 1) keys) (remark ∷ drop (i + 1) remarks) r) one_result
    ∙ ap (λ v. done ++ (v ∷ rest)) (sym is)
    ∙ sym (append_assoc done (value ∷ []) rest)
    ∙ ap (λ t. t ++ rest) (sym pushed)

pub told_at : (compared : Bool) (old_keys : List (List ℕ)) (olds : List Data) (key key' : List ℕ)
    (remark remark' result result' : Data) (other : Option Data) (value : Data)
    → value ≡ told_by compared other remark result → other ≡ partner key old_keys olds → key ≡ key' → remark ≡ remark'
    → result ≡ result' → value ≡ told_by compared (partner key' old_keys olds) remark' result'
told_at compared old_keys olds key key' remark remark' result result' other value is has same_key same_remark same_result =
    is ∙ ap (λ p. told_by compared p remark result) (has ∙ ap (λ k. partner k old_keys olds) same_key)
    ∙ ap (λ m. told_by compared (partner key' old_keys olds) m result) same_remark
    ∙ ap (λ r. told_by compared (partner key' old_keys olds) remark' r) same_result

first_of : (there : Bool) (old : Data) (rest : List Data)
    → cond there rest (told_absent old ∷ rest) ≡ cond there [] (told_absent old ∷ []) ++ rest
first_of true old rest = refl
first_of false old rest = refl

-- an old result more is looked at
pub absent_more : (keys : List (List ℕ)) (old_keys : List (List ℕ)) (olds : List Data) (i : ℕ) (key : List ℕ) (old : Data)
    (whole done done' : List Data) → drop i old_keys ≡ key ∷ drop (i + 1) old_keys
    → drop i olds ≡ old ∷ drop (i + 1) olds → whole ≡ done ++ absents keys (drop i old_keys) (drop i olds)
    → done' ≡ done ++ absents keys (key ∷ []) (old ∷ [])
    → whole ≡ done' ++ absents keys (drop (i + 1) old_keys) (drop (i + 1) olds)
absent_more keys old_keys olds i key old whole done done' one_key one_old so_far pushed =
    let rest : List Data = absents keys (drop (i + 1) old_keys) (drop (i + 1) olds) in
    so_far
    ∙ ap (λ k. done ++ absents keys k (drop i olds)) one_key
    ∙ ap (λ o. done ++ absents keys (key ∷ drop (i + 1) old_keys) o) one_old
    ∙ ap (λ t. done ++ t) (first_of (has_key keys key) old rest)
    ∙ sym (append_assoc done (absents keys (key ∷ []) (old ∷ [])) rest)
    ∙ ap (λ t. t ++ rest) (sym pushed)
