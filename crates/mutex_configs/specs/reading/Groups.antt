-- Elements by a number that each of them has.
use Rattle.std.specs.Prelude.{◌≡◌, ◌<◌, ℕ, suc, ◌==◌, cond, List, [], ◌∷◌, ◌++◌, length, map, get_or, Vec}
use Rattle.std.specs.declared.alloc.Global.{Global}

-- the places in a list of the elements that have this number, where the first that is looked at has this place
abbrev pub numbers_of : {A : Type 0} → (A → ℕ) → ℕ → ℕ → List A → List ℕ
numbers_of key p k [] = []
numbers_of key p k (x ∷ xs) = cond (key x == p) (k ∷ numbers_of key p (suc k) xs) (numbers_of key p (suc k) xs)

-- the list at a place; an empty one where there is none
abbrev pub list_of : List (Vec ℕ Global) → ℕ → List ℕ
list_of groups p = get_or (map (λ v. v.items) groups) p []

-- a number is put at the end of one of the lists
pub record IsPushed (old : List (Vec ℕ Global)) (place number : ℕ) (new : List (Vec ℕ Global)) : Type 0 where
  pub count : length new ≡ length old
  pub here : list_of new place ≡ list_of old place ++ number ∷ []
  pub others : (p : ℕ) → (p ≡ place → ⊥) → list_of new p ≡ list_of old p

-- for each number below this one the places of the elements that have it
pub record AreGroups {A : Type 0} (key : A → ℕ) (xs : List A) (count : ℕ) (groups : List (Vec ℕ Global)) : Type 0 where
  pub count_is : length groups ≡ count
  pub groups_are : (p : ℕ) → p < count → list_of groups p ≡ numbers_of key p 0 xs
