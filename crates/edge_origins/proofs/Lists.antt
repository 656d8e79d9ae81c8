-- Elements of lists that are made of other lists.
use Rattle.std.proofs.Common.{◌≡◌, ℕ, zero, suc, ◌+◌, ◌<◌, Bool, true, false, cond, List, [], ◌∷◌, ◌++◌, length}
use Rattle.std.proofs.Common.{map, get_or, take, Some, None, refl, sym, ap, ◌∙◌, subst}
use Rattle.std.proofs.Common.{inl, inr, ◌⊎◌, arith, append_assoc}
use Rattle.std.specs.Prelude.{Contains, slice_get}
use Rattle.std.specs.List.{flat_map}
use Rattle.std.proofs.lemmas.List.{length-map, get_or-map, take_more, map_more, append-nil}
use Rattle.std.proofs.lemmas.List.Elements.{Contains-append_left, Contains-append_right, Contains-append_cases}
use Rattle.std.proofs.lemmas.List.Concat.{flat_map-append}

-- ## One element more

not_in_none : {A : Type 0} (y : A) → Contains [] y → ⊥
not_in_none y c = let h : c.0 < 0 = c.1 in omega (arith, h)

first_or_later : {A : Type 0} (x y : A) (xs : List A) (k : ℕ) → k < length (x ∷ xs) → get_or (x ∷ xs) k y ≡ y
    → (x ≡ y) ⊎ Contains xs y
first_or_later x y xs zero lt e = inl e
first_or_later x y xs (suc k) lt e = inr (k, (let h : k < length xs = omega (arith, lt) in h), e)

head_or_tail : {A : Type 0} (x y : A) (xs : List A) → Contains (x ∷ xs) y → (x ≡ y) ⊎ Contains xs y
head_or_tail x y xs c = first_or_later x y xs c.0 c.1 c.2

at_head : {A : Type 0} (x : A) (xs : List A) → Contains (x ∷ xs) x
at_head x xs = (0, (let h : 0 < suc (length xs) = omega arith in h), refl)

in_tail : {A : Type 0} (x y : A) (xs : List A) → Contains xs y → Contains (x ∷ xs) y
in_tail x y xs c = (
  suc c.0,
  (let k = c.0 in let lt : k < length xs = c.1 in
      let h : suc k < suc (length xs) = omega (arith, lt) in h),
  c.2,
)

-- ## Of `map` and `flat_map`

pub to_mapped : {A B : Type 0} (f : A → B) (xs : List A) (x : A) → Contains xs x → Contains (map f xs) (f x)
to_mapped f xs x c =
    let lt : c.0 < length (map f xs) = subst (λ n. c.0 < n) (sym (length-map xs f)) c.1 in
    (c.0, lt, get_or-map f xs c.0 x (f x) c.1 ∙ ap f c.2)

pub from_mapped : {A B : Type 0} (f : A → B) (xs : List A) (y : B) → Contains (map f xs) y
    → (x : A) × Contains xs x × (y ≡ f x)
from_mapped f [] y c = absurd (not_in_none y c)
from_mapped f (x ∷ xs) y c = elim (head_or_tail (f x) y (map f xs) c) [
  | inl e ↦ (x, at_head x xs, sym e)
  | inr t ↦ let r = from_mapped f xs y t in (r.0, in_tail x r.0 xs r.1, r.2)
]

pub to_flat : {A B : Type 0} (f : A → List B) (xs : List A) (x : A) (y : B) → Contains xs x → Contains (f x) y
    → Contains (flat_map f xs) y
to_flat f [] x y c h = absurd (not_in_none x c)
to_flat {A} {B} f (w ∷ ws) x y c h = elim (head_or_tail w x ws c) [
  | inl e ↦ let P : A → Type 0 = λ v. Contains (f v) y in
      Contains-append_left (f w) (flat_map f ws) y (subst P (sym e) h)
  | inr t ↦ Contains-append_right (f w) (flat_map f ws) y (to_flat f ws x y t h)
]

pub from_flat : {A B : Type 0} (f : A → List B) (xs : List A) (y : B) → Contains (flat_map f xs) y
    → (x : A) × Contains xs x × Contains (f x) y
from_flat f [] y c = absurd (not_in_none y c)
from_flat f (x ∷ xs) y c = elim (Contains-append_cases (f x) (flat_map f xs) y c) [
  | inl h ↦ (x, at_head x xs, h)
  | inr t ↦ let r = from_flat f xs y t in (r.0, in_tail x r.0 xs r.1, r.2)
]

-- a list that stands only where a test holds
pub from_cond : {A : Type 0} (b : Bool) (xs : List A) (y : A) → Contains (cond b xs []) y → (b ≡ true) × Contains xs y
from_cond true xs y c = (refl, c)
from_cond false xs y c = absurd (not_in_none y c)

-- what a list has at a number
pub read_all : {A : Type 0} (xs : List A) (k : ℕ) → slice_get xs k ≡ get_or (map Some xs) k None
read_all [] k = refl
read_all (x ∷ xs) zero = refl
read_all (x ∷ xs) (suc k) = read_all xs k

-- ## The turns of loops

pub map_next : {A B : Type 0} (f : A → B) (xs : List A) (i : ℕ) (d : A) (start old new : List B) → i < length xs
    → old ≡ start ++ map f (take i xs) → new ≡ old ++ f (get_or xs i d) ∷ [] → new ≡ start ++ map f (take (i + 1) xs)
map_next f xs i d start old new lt before pushed =
    pushed ∙ ap (λ l. l ++ f (get_or xs i d) ∷ []) before
    ∙ append_assoc start (map f (take i xs)) (f (get_or xs i d) ∷ [])
    ∙ ap (λ l. start ++ l) (sym (map_more f xs i d lt))

pub flat_more : {A B : Type 0} (f : A → List B) (xs : List A) (i : ℕ) (d : A) → i < length xs
    → flat_map f (take (i + 1) xs) ≡ flat_map f (take i xs) ++ f (get_or xs i d)
flat_more f xs i d lt =
    ap (flat_map f) (take_more xs i d lt) ∙ flat_map-append f (take i xs) (get_or xs i d ∷ [])
    ∙ ap (λ l. flat_map f (take i xs) ++ l) (append-nil (f (get_or xs i d)))

pub flat_next : {A B : Type 0} (f : A → List B) (xs : List A) (i : ℕ) (d : A) (old new : List B) → i < length xs
    → old ≡ flat_map f (take i xs) → new ≡ old ++ f (get_or xs i d) → new ≡ flat_map f (take (i + 1) xs)
flat_next f xs i d old new lt before pushed =
    pushed ∙ ap (λ l. l ++ f (get_or xs i d)) before ∙ sym (flat_more f xs i d lt)
