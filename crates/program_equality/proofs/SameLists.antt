-- Lists are the same exactly where their elements are.
use Rattle.std.proofs.Common.{◌≡◌, ◌∙◌, ◌+◌, ◌<◌, ℕ, Bool, true, false, ◌&&◌, List, [], ◌∷◌, ap, arith, get_or, length, map}
use Rattle.std.proofs.Common.{refl, sym, take}
use Rattle.std.proofs.lemmas.List.{get_or-map, length-map, take_more_same}
use Rattle.std.proofs.lemmas.Slice.Eq.{bytes_eq-Decides, slice_eq-Decides}
use Rattle.std.specs.Bool.{Decides}
use Rattle.std.specs.Cmp.Lexicographic.{pointwise}
use Rattle.std.specs.Prelude.{Vec}
use Rattle.std.specs.declared.alloc.Global.{Global}
use lib.Dec.{eqb}
use mathlib.Core.Bool.{beq}
use Rattle.graph_facts.specs.Lists.{numbers}

-- ## Lists of flags

pub same_flag : (a b : Bool) → Decides (beq a b) (a ≡ b)
same_flag true true = (λ _. refl, λ _. refl)
same_flag true false = (λ e. absurd cc, λ e. absurd cc)
same_flag false true = (λ e. absurd cc, λ e. absurd cc)
same_flag false false = (λ _. refl, λ _. refl)

-- ## Lists of lists

of_items : (xs ys : List (Vec ℕ Global))
    → pointwise (λ v w. pointwise eqb v.items w.items) xs ys ≡ pointwise (pointwise eqb) (numbers xs) (numbers ys)
of_items [] [] = refl
of_items [] (w ∷ ys) = refl
of_items (v ∷ xs) [] = refl
of_items (v ∷ xs) (w ∷ ys) = ap (λ b. pointwise eqb v.items w.items && b) (of_items xs ys)

pub same_numbers : (xs ys : List (Vec ℕ Global)) (r : Bool)
    → r ≡ pointwise (λ v w. pointwise eqb v.items w.items) xs ys → Decides r (numbers xs ≡ numbers ys)
same_numbers xs ys r e = slice_eq-Decides bytes_eq-Decides (numbers xs) (numbers ys) r (e ∙ of_items xs ys)

-- ## Lists of what is read of elements

module _ {X Y : Type 0} (f : X → Y) (xs ys : List X) (i : ℕ) (x y : X) (equal : length xs ≡ length ys) (lt : i < length xs)
    (is_x : x ≡ get_or xs i x) (is_y : y ≡ get_or ys i y) where
  lt_other : i < length ys
  lt_other = omega (arith, equal, lt)

  at_one : get_or (map f xs) i (f x) ≡ f x
  at_one = get_or-map f xs i x (f x) lt ∙ ap f (sym is_x)

  at_other : get_or (map f ys) i (f x) ≡ f y
  at_other = get_or-map f ys i y (f x) lt_other ∙ ap f (sym is_y)

  -- lists that are the same have the same elements
  pub same_there : map f xs ≡ map f ys → f x ≡ f y
  same_there e = sym at_one ∙ ap (λ zs. get_or zs i (f x)) e ∙ at_other

  -- one more element that is the same
  pub same_more : take i (map f xs) ≡ take i (map f ys) → f x ≡ f y → take (i + 1) (map f xs) ≡ take (i + 1) (map f ys)
  same_more e h = take_more_same (map f xs) (map f ys) i (f x)
      (let l = length-map xs f in omega (arith, l, lt)) (let l = length-map ys f in omega (arith, l, lt_other))
      e (at_one ∙ h ∙ sym at_other)
