-- Lists whose elements are changed one by one, and lists of answers.
use Rattle.std.proofs.Common.{◌≡◌, ℕ, zero, suc, ◌+◌, ◌<◌, ◌≤◌, refl, ap, sym, subst, ◌∙◌, List, [], ◌∷◌, ◌++◌, map, take, drop, set, get_or, length, slice_get, slice_set, Some, None, Result, Ok, Err, arith, ◌⊎◌, inl, inr, vec_items, vec_len, vec_capacity, Vec, Global}
use Rattle.std.specs.Prelude.{IsOk, OnOk}
use Rattle.std.proofs.lemmas.List.{map-set, map-append, append_assoc}
use Rattle.std.proofs.lemmas.Bool.{cases_lt}
use Rattle.std.proofs.Math.Seq.{map-set_same}
use Rattle.std.proofs.lemmas.Option.{slice_get-get_or, slice_get_within}
use Rattle.concrete_values.specs.declared.values.Answer.{Answer}
use Rattle.concrete_worlds.specs.Views.{RoomAt}

-- ## One element after the other

change_at : {A : Type 0} (f : A → A) (xs : List A) (i : ℕ) (d : A) → i < length xs
    → set (map f (take i xs) ++ drop i xs) i (f (get_or (map f (take i xs) ++ drop i xs) i d)) ≡ map f (take (suc i) xs) ++ drop (suc i) xs
change_at f [] i d h = absurd (omega (arith, h))
change_at f (y ∷ ys) zero d h = refl
change_at f (y ∷ ys) (suc i) d h = ap (λ z. f y ∷ z) (change_at f ys i d (omega (arith, h)))

pub change_one : {A : Type 0} (f : A → A) (xs ys : List A) (i j : ℕ) (r d : A) → i < length xs → j ≡ suc i → ys ≡ map f (take i xs) ++ drop i xs → r ≡ f (get_or ys i d)
    → set ys i r ≡ map f (take j xs) ++ drop j xs
change_one f xs ys i j r d h k e e' =
    ap (λ z. set z i r) e ∙ ap (λ z. set (map f (take i xs) ++ drop i xs) i z) (e' ∙ ap (λ z. f (get_or z i d)) e) ∙ change_at f xs i d h
    ∙ ap (λ z. map f (take z xs) ++ drop z xs) (sym k)

-- ## Answers

abbrev pub Answered : Type 0
Answered = Vec Answer Global

get_map : {A B : Type 0} (f : A → B) (xs : List A) (i : ℕ) (x : A) (d : B) → slice_get xs i ≡ Some x → get_or (map f xs) i d ≡ f x
get_map f [] zero x d e = absurd cc
get_map f [] (suc i) x d e = absurd cc
get_map f (y ∷ ys) zero x d e = let same : y ≡ x = cc in ap f same
get_map f (y ∷ ys) (suc i) x d e = get_map f ys i x d e

get_none : {A B : Type 0} (f : A → B) (xs : List A) (i : ℕ) (d : B) → slice_get xs i ≡ None → get_or (map f xs) i d ≡ d
get_none f [] zero d e = refl
get_none f [] (suc i) d e = refl
get_none f (y ∷ ys) zero d e = absurd cc
get_none f (y ∷ ys) (suc i) d e = get_none f ys i d e

pub answers_there : (vs : List Answered) (i : ℕ) (v : Answered) → slice_get vs i ≡ Some v → get_or (map vec_items vs) i [] ≡ v.items
answers_there vs i v e = get_map vec_items vs i v [] e

pub no_answers_there : (vs : List Answered) (i : ℕ) → slice_get vs i ≡ None → get_or (map vec_items vs) i [] ≡ []
no_answers_there vs i e = get_none vec_items vs i [] e

pub set_none : (vs : List Answered) (i : ℕ) (x : List Answer) → slice_get vs i ≡ None → slice_set (map vec_items vs) i x ≡ map vec_items vs
set_none [] zero x e = refl
set_none [] (suc i) x e = refl
set_none (v ∷ vs) zero x e = absurd cc
set_none (v ∷ vs) (suc i) x e = ap (λ z. vec_items v ∷ z) (set_none vs i x e)

pub answer_one : (vs : List Answered) (i : ℕ) (x w : Answered) (a : Answer) → i < length vs → x ≡ get_or vs i x → w.items ≡ x.items ++ a ∷ []
    → map vec_items (slice_set vs i w) ≡ slice_set (map vec_items vs) i (get_or (map vec_items vs) i [] ++ a ∷ [])
answer_one vs i x w a h e k =
    map-set vec_items vs i w
    ∙ ap (λ z. set (map vec_items vs) i z)
    (k ∙ ap (λ z. z ++ a ∷ []) (sym (answers_there vs i x (slice_get-get_or vs i x h ∙ ap Some (sym e)))))

pub same_one : (vs : List Answered) (i : ℕ) (x w : Answered) → x ≡ get_or vs i x → w.items ≡ x.items → map vec_items (slice_set vs i w) ≡ map vec_items vs
same_one vs i x w e k = map-set_same vec_items vs i w x (k ∙ ap vec_items e)

pub same_at : (vs : List Answered) (i : ℕ) (d w : Answered) → w.items ≡ vec_items (get_or vs i d) → map vec_items (slice_set vs i w) ≡ map vec_items vs
same_at vs i d w e = map-set_same vec_items vs i w d e

-- ## Room

pub get_same : (lists : List Answered) (k : ℕ) (w v : Answered) → slice_get (slice_set lists k w) k ≡ Some v → w ≡ v
get_same [] zero w v e = absurd cc
get_same [] (suc k) w v e = absurd cc
get_same (x ∷ lists) zero w v e = cc
get_same (x ∷ lists) (suc k) w v e = get_same lists k w v e

get_other : (lists : List Answered) (k i : ℕ) (w : Answered) → i < k → slice_get (slice_set lists k w) i ≡ slice_get lists i
get_other [] k i w h = refl
get_other (x ∷ lists) zero i w h = absurd (omega (arith, h))
get_other (x ∷ lists) (suc k) zero w h = refl
get_other (x ∷ lists) (suc k) (suc i) w h = get_other lists k i w (omega (arith, h))

pub room_here : (lists : List Answered) (k : ℕ) (w : Answered) → vec_len w < vec_capacity w → RoomAt (slice_set lists k w) k
room_here lists k w h v e = let P : Answered → Type 0 = λ z. vec_len z < vec_capacity z in subst P (get_same lists k w v e) h

pub room_nowhere : (lists : List Answered) (k : ℕ) → (k < length lists → ⊥) → RoomAt lists k
room_nowhere lists k none v e = absurd (none (slice_get_within lists k v e))

pub on_ok : {A E : Type 0} {P Q : Type 0} (r : Result A E) → (P → Q) → OnOk r P → OnOk r Q
on_ok (Ok a) f p = f p
on_ok (Err e) f p = tt

pub get_ok : {A E : Type 0} {P : Type 0} (r : Result A E) → IsOk r → OnOk r P → P
get_ok (Ok a) is p = p
get_ok (Err e) is p = absurd cc

pub room_more : (lists : List Answered) (k : ℕ) (w : Answered) → vec_len w < vec_capacity w
    → ((i : ℕ) → i < k → RoomAt lists i) → (i : ℕ) → i < k + 1 → RoomAt (slice_set lists k w) i
room_more lists k w h old i lt = by_place (cases_lt i k)
  where
    by_place : (i < k) ⊎ (k ≤ i) → RoomAt (slice_set lists k w) i
    by_place (inl l) = λ v e. old i l v (sym (get_other lists k i w l) ∙ e)
    by_place (inr g) = λ v e. let P : Answered → Type 0 = λ z. vec_len z < vec_capacity z in
        subst P (get_same lists k w v (ap (λ z. slice_get (slice_set lists k w) z) (let same : k ≡ i = omega (arith, g, lt) in same) ∙ e)) h

pub room_all : (lists : List Answered) (k : ℕ) → length lists ≤ k → ((i : ℕ) → i < k → RoomAt lists i) → (i : ℕ) → RoomAt lists i
room_all lists k h old i v e = old i (let lt = slice_get_within lists i v e in omega (arith, lt, h)) v e

-- ## Where an element is

pub found_within : {A : Type 0} (xs : List A) (i : ℕ) → i < length xs → (x : A) × (slice_get xs i ≡ Some x)
found_within [] i h = absurd (omega (arith, h))
found_within (x ∷ xs) zero h = (x, refl)
found_within (x ∷ xs) (suc i) h = found_within xs i (omega (arith, h))

pub none_past : {A : Type 0} (xs : List A) (i : ℕ) → length xs ≤ i → slice_get xs i ≡ None
none_past [] i h = refl
none_past (x ∷ xs) zero h = absurd (omega (arith, h))
none_past (x ∷ xs) (suc i) h = none_past xs i (omega (arith, h))

-- ## No answers

abbrev pub none_of : {A : Type 0} → A → List Answer
none_of s = []

drop_first : {A : Type 0} (ss : List A) (i j : ℕ) → j ≡ suc i → i < length ss → map none_of (drop i ss) ≡ [] ∷ map none_of (drop j ss)
drop_first [] i j e h = absurd (omega (arith, h))
drop_first (s ∷ ss) i zero e h = absurd (omega (arith, e))
drop_first (s ∷ ss) zero (suc j) e h = let none : j ≡ 0 = omega (arith, e) in ap (λ z. [] ∷ map none_of (drop z ss)) (sym none)
drop_first (s ∷ ss) (suc i) (suc j) e h = drop_first ss i j (omega (arith, e)) (omega (arith, h))

pub no_answers_more : {A : Type 0} (vs ws : List Answered) (v : Answered) (ss : List A) (i : ℕ) → i < length ss → ws ≡ vs ++ v ∷ [] → v.items ≡ []
    → map vec_items vs ++ map none_of (drop i ss) ≡ map none_of ss → map vec_items ws ++ map none_of (drop (i + 1) ss) ≡ map none_of ss
no_answers_more vs ws v ss i h e k inv =
    ap (λ z. map vec_items z ++ map none_of (drop (i + 1) ss)) e
    ∙ ap (λ z. z ++ map none_of (drop (i + 1) ss)) (map-append vec_items vs (v ∷ []) ∙ ap (λ z. map vec_items vs ++ z ∷ []) k)
    ∙ append_assoc (map vec_items vs) ([] ∷ []) (map none_of (drop (i + 1) ss))
    ∙ ap (λ z. map vec_items vs ++ z) (sym (drop_first ss i (i + 1) (omega arith) h)) ∙ inv

pub no_answers_of : {A B : Type 0} (f : A → B) (xs : List A) → map none_of xs ≡ map none_of (map f xs)
no_answers_of f [] = refl
no_answers_of f (x ∷ xs) = ap (λ z. [] ∷ z) (no_answers_of f xs)
