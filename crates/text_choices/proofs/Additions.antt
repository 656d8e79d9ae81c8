-- Lists to which exactly so much is added: nothing, one thing, one thing behind another, and step by step.
use Rattle.std.proofs.Common.{◌≡◌, ℕ, ◌+◌, ◌<◌, ◌≤◌, List, [], ◌∷◌, ◌++◌, sym, inl, inr, ◌⊎◌, arith}
use Rattle.std.specs.Prelude.{Contains}
use Rattle.std.proofs.lemmas.Bool.{cases_lt}
use Rattle.std.proofs.lemmas.List.Elements.{Contains-append_left, Contains-push, Contains-push_cases}
use Rattle.text_choices.specs.reading.Added.{AddsTo, OneBelow}

module _ {X : Type 0} where
  -- where it holds of nothing, the list stays
  pub Adds-nothing : (old : List X) (is : X → Type 0) → ((x : X) → is x → ⊥) → AddsTo old old is
  Adds-nothing old is none = λ x. (λ h. inl h, λ h. back x h)
    where
      back : (x : X) → Contains old x ⊎ is x → Contains old x
      back x (inl h) = h
      back x (inr h) = absurd (none x h)

  -- one thing at the end
  pub Adds-pushed : (old : List X) (y : X) → AddsTo old (old ++ y ∷ []) (λ x. x ≡ y)
  Adds-pushed old y = λ x. (λ h. there x (Contains-push_cases old y x h), λ h. back x h)
    where
      there : (x : X) → Contains old x ⊎ (y ≡ x) → Contains old x ⊎ (x ≡ y)
      there x (inl h) = inl h
      there x (inr h) = inr (sym h)

      back : (x : X) → Contains old x ⊎ (x ≡ y) → Contains (old ++ y ∷ []) x
      back x (inl h) = Contains-append_left old (y ∷ []) x h
      back x (inr h) = rw h (Contains-push old y)

  -- what comes to the same
  pub Adds-same : (old new : List X) (is other : X → Type 0) → ((x : X) → is x → other x) → ((x : X) → other x → is x)
      → AddsTo old new is → AddsTo old new other
  Adds-same old new is other to fro h = λ x. (λ c. there x ((h x).0 c), λ c. (h x).1 (back x c))
    where
      there : (x : X) → Contains old x ⊎ is x → Contains old x ⊎ other x
      there x (inl c) = inl c
      there x (inr c) = inr (to x c)

      back : (x : X) → Contains old x ⊎ other x → Contains old x ⊎ is x
      back x (inl c) = inl c
      back x (inr c) = inr (fro x c)

  -- one thing behind another
  pub Adds-behind : (old new newer : List X) (is more : X → Type 0) → AddsTo old new is → AddsTo new newer more
      → AddsTo old newer (λ x. is x ⊎ more x)
  Adds-behind old new newer is more h k = λ x. (λ c. there x ((k x).0 c), λ c. (k x).1 (back x c))
    where
      first : (x : X) → Contains old x ⊎ is x → Contains old x ⊎ (is x ⊎ more x)
      first x (inl c) = inl c
      first x (inr c) = inr (inl c)

      there : (x : X) → Contains new x ⊎ more x → Contains old x ⊎ (is x ⊎ more x)
      there x (inl c) = first x ((h x).0 c)
      there x (inr c) = inr (inr c)

      back : (x : X) → Contains old x ⊎ (is x ⊎ more x) → Contains new x ⊎ more x
      back x (inl c) = inl ((h x).1 (inl c))
      back x (inr (inl c)) = inl ((h x).1 (inr c))
      back x (inr (inr c)) = inr c

  -- before the first step
  pub Adds-none_below : (old : List X) (is : ℕ → X → Type 0) → AddsTo old old (OneBelow 0 is)
  Adds-none_below old is = Adds-nothing old (OneBelow 0 is) (λ x h. omega (arith, h.1))

  -- one step more
  pub Adds-one_more : (old new newer : List X) (n : ℕ) (is : ℕ → X → Type 0) → AddsTo old new (OneBelow n is) → AddsTo new newer (is n)
      → AddsTo old newer (OneBelow (n + 1) is)
  Adds-one_more old new newer n is h k = Adds-same old newer (λ x. OneBelow n is x ⊎ is n x) (OneBelow (n + 1) is) to fro (Adds-behind old new newer (OneBelow n is) (is n) h k)
    where
      to : (x : X) → OneBelow n is x ⊎ is n x → OneBelow (n + 1) is x
      to x (inl c) = (c.0, omega (arith, c.1), c.2)
      to x (inr c) = (n, omega arith, c)

      by_order : (x : X) (k : ℕ) → k < n + 1 → is k x → (k < n) ⊎ (n ≤ k) → OneBelow n is x ⊎ is n x
      by_order x k below c (inl less) = inl (k, less, c)
      by_order x k below c (inr more) = let same : k ≡ n = omega arith in inr (rw same at c)

      fro : (x : X) → OneBelow (n + 1) is x → OneBelow n is x ⊎ is n x
      fro x c = by_order x c.0 c.1 c.2 (cases_lt c.0 n)
