-- What each of some things leaves open is added, one behind the other.
use Rattle.std.proofs.Common.{◌≡◌, ap, sym, subst, ◌∙◌, ℕ, ◌+◌, ◌<◌, ◌≤◌, List, [], ◌∷◌, ◌++◌, length, get_or, take, inl, inr, ◌⊎◌, arith}
use Rattle.std.specs.Prelude.{Contains}
use Rattle.std.proofs.lemmas.List.{take_more, take_all}
use Rattle.std.proofs.lemmas.List.Elements.{Contains-append_left, Contains-push, Contains-push_cases}
use Rattle.text_choices.specs.declared.kinds.Choice.{Choice}
use Rattle.text_choices.specs.Choices.{Adds}
use Rattle.text_choices.proofs.Additions.{Adds-nothing, Adds-same, Adds-behind}

module _ {X : Type 0} (is : X → Choice → Type 0) where
  -- one of them does
  abbrev pub OneOf : List X → Choice → Type 0
  OneOf xs c = (x : X) × Contains xs x × is x c

  -- none of none
  pub none_of : (xs : List X) (old : List Choice) → Adds old old (OneOf (take 0 xs))
  none_of xs old = Adds-nothing old (OneOf (take 0 xs)) (λ c w. omega (arith, w.1.1))

  -- one more
  pub one_more : (xs : List X) (i : ℕ) (x : X) (old new newer : List Choice) → i < length xs → x ≡ get_or xs i x
      → Adds old new (OneOf (take i xs)) → Adds new newer (is x) → Adds old newer (OneOf (take (i + 1) xs))
  one_more xs i x old new newer h e before here =
      Adds-same old newer (λ c. OneOf (take i xs) c ⊎ is x c) (OneOf (take (i + 1) xs)) to fro
      (Adds-behind old new newer (OneOf (take i xs)) (is x) before here)
    where
      taken : take (i + 1) xs ≡ take i xs ++ x ∷ []
      taken = take_more xs i x h ∙ ap (λ y. take i xs ++ y ∷ []) (sym e)

      to : (c : Choice) → OneOf (take i xs) c ⊎ is x c → OneOf (take (i + 1) xs) c
      to c (inl w) = (w.0, subst (λ ys. Contains ys w.0) (sym taken) (Contains-append_left (take i xs) (x ∷ []) w.0 w.1), w.2)
      to c (inr w) = (x, subst (λ ys. Contains ys x) (sym taken) (Contains-push (take i xs) x), w)

      by : (c : Choice) (y : X) → is y c → Contains (take i xs) y ⊎ (x ≡ y) → OneOf (take i xs) c ⊎ is x c
      by c y w (inl k) = inl (y, k, w)
      by c y w (inr q) = inr (subst (λ z. is z c) (sym q) w)

      fro : (c : Choice) → OneOf (take (i + 1) xs) c → OneOf (take i xs) c ⊎ is x c
      fro c w = by c w.0 w.2 (Contains-push_cases (take i xs) x w.0 (subst (λ ys. Contains ys w.0) taken w.1))

  -- all of them
  pub one_of : (xs : List X) (n : ℕ) (old new : List Choice) → length xs ≤ n → Adds old new (OneOf (take n xs)) → Adds old new (OneOf xs)
  one_of xs n old new h before = subst (λ ys. Adds old new (OneOf ys)) (take_all n xs h) before
