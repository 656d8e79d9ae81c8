-- What is read of the tables of a file.
use Rattle.std.proofs.Common.{◌≡◌, refl, ℕ, zero, suc, List, [], ◌∷◌, map, get_or, Some, None}
use Rattle.std.specs.Prelude.{slice_get}

pub get_or-map : {A : Type 0} {B : Type 0} (g : A → B) (xs : List A) (i : ℕ) (d : B) (x : A) → slice_get xs i ≡ Some x → get_or (map g xs) i d ≡ g x
get_or-map g [] i d x e = absurd cc
get_or-map g (y ∷ ys) zero d x e = cc
get_or-map g (y ∷ ys) (suc i) d x e = get_or-map g ys i d x e

pub get_or-map_past : {A : Type 0} {B : Type 0} (g : A → B) (xs : List A) (i : ℕ) (d : B) → slice_get xs i ≡ None → get_or (map g xs) i d ≡ d
get_or-map_past g [] i d e = refl
get_or-map_past g (y ∷ ys) zero d e = absurd cc
get_or-map_past g (y ∷ ys) (suc i) d e = get_or-map_past g ys i d e

pub ruleset reads = (get_or-map, get_or-map_past)
