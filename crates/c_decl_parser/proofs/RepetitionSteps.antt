-- One step of each loop over a repetition, as the code makes it.
use Rattle.std.proofs.Common.{◌≡◌, ℕ, zero, suc, List, [], ◌∷◌, ◌++◌, map, Option, Some, None, refl, ap, ◌∙◌}
use Rattle.std.proofs.lemmas.List.{map-append}
use Rattle.tm_terms.specs.declared.tokens.Token.{Token}
use Rattle.c_expr_parser.specs.declared.marks.Mark.TheVariants as Marks
use Rattle.c_expr_parser.specs.reading.Parts.{then_read, after}
use Rattle.c_decl_parser.specs.reading.Repetitions.{separated_by, separated, ended_by, until_brace, braced_by, braced}

-- the trees of a vector with one more element
pub pushed_tree : {A B : Type 0} (f : A → B) (xs ys : List A) (x : A) → ys ≡ xs ++ x ∷ [] → map f ys ≡ map f xs ++ f x ∷ []
pushed_tree f xs ys x e = ap (map f) e ∙ map-append f xs (x ∷ [])

module _ {A : Type 0} (read : List Token → Option (A × List Token)) where
  -- ## With a `,` between each two

  pub separated_stop : (n : ℕ) (found : List A) (ts : List Token) → after Marks.Comma ts ≡ None → separated read n found ts ≡ Some (found, ts)
  unfolding separated
  separated_stop zero found ts e = refl
  separated_stop (suc n) found ts e = ap (λ o. separated_by o (found, ts) (λ a. then_read (read a) (λ x rest. separated read n (found ++ x ∷ []) rest))) e

  pub separated_done : (n : ℕ) (found : List A) (ts : List Token) → n ≡ 0 → separated read n found ts ≡ Some (found, ts)
  unfolding separated
  separated_done zero found ts e = refl
  separated_done (suc n) found ts e = cc

  one_more : (n m : ℕ) (found : List A) (ts a : List Token) → n ≡ suc m → after Marks.Comma ts ≡ Some a → separated read n found ts ≡ then_read (read a) (λ x rest. separated read m (found ++ x ∷ []) rest)
  unfolding separated
  one_more n m found ts a e c =
      ap (λ k. separated read k found ts) e
      ∙ ap (λ o. separated_by o (found, ts) (λ a. then_read (read a) (λ x rest. separated read m (found ++ x ∷ []) rest))) c

  pub separated_stuck : (n m : ℕ) (found : List A) (ts a : List Token) → n ≡ suc m → after Marks.Comma ts ≡ Some a → read a ≡ None → separated read n found ts ≡ None
  separated_stuck n m found ts a e c r = one_more n m found ts a e c ∙ ap (λ o. then_read o (λ x rest. separated read m (found ++ x ∷ []) rest)) r

  pub separated_next : (n m : ℕ) (found : List A) (ts a : List Token) (x : A) (rest : List Token) → n ≡ suc m → after Marks.Comma ts ≡ Some a → read a ≡ Some (x, rest) → separated read n found ts ≡ separated read m (found ++ x ∷ []) rest
  separated_next n m found ts a x rest e c r = one_more n m found ts a e c ∙ ap (λ o. then_read o (λ x rest. separated read m (found ++ x ∷ []) rest)) r

  -- ## Up to a `}`

  pub until_brace_done : (n : ℕ) (found : List A) (ts : List Token) → n ≡ 0 → until_brace read n found ts ≡ None
  unfolding until_brace
  until_brace_done zero found ts e = refl
  until_brace_done (suc n) found ts e = cc

  pub until_brace_end : (n m : ℕ) (found : List A) (ts rest : List Token) → n ≡ suc m → after Marks.CloseBrace ts ≡ Some rest → until_brace read n found ts ≡ Some (found, rest)
  unfolding until_brace
  until_brace_end n m found ts rest e c =
      ap (λ k. until_brace read k found ts) e
      ∙ ap (λ o. ended_by o found (then_read (read ts) (λ x rest. until_brace read m (found ++ x ∷ []) rest))) c

  one_within : (n m : ℕ) (found : List A) (ts : List Token) → n ≡ suc m → after Marks.CloseBrace ts ≡ None → until_brace read n found ts ≡ then_read (read ts) (λ x rest. until_brace read m (found ++ x ∷ []) rest)
  unfolding until_brace
  one_within n m found ts e c =
      ap (λ k. until_brace read k found ts) e
      ∙ ap (λ o. ended_by o found (then_read (read ts) (λ x rest. until_brace read m (found ++ x ∷ []) rest))) c

  pub until_brace_stuck : (n m : ℕ) (found : List A) (ts : List Token) → n ≡ suc m → after Marks.CloseBrace ts ≡ None → read ts ≡ None → until_brace read n found ts ≡ None
  until_brace_stuck n m found ts e c r = one_within n m found ts e c ∙ ap (λ o. then_read o (λ x rest. until_brace read m (found ++ x ∷ []) rest)) r

  pub until_brace_next : (n m : ℕ) (found : List A) (ts : List Token) (x : A) (rest : List Token) → n ≡ suc m → after Marks.CloseBrace ts ≡ None → read ts ≡ Some (x, rest) → until_brace read n found ts ≡ until_brace read m (found ++ x ∷ []) rest
  until_brace_next n m found ts x rest e c r = one_within n m found ts e c ∙ ap (λ o. then_read o (λ x rest. until_brace read m (found ++ x ∷ []) rest)) r

  -- ## Up to a `}`, with a `,` between each two

  pub braced_done : (n : ℕ) (found : List A) (ts : List Token) → n ≡ 0 → braced read n found ts ≡ None
  unfolding braced
  braced_done zero found ts e = refl
  braced_done (suc n) found ts e = cc

  pub braced_end : (n m : ℕ) (found : List A) (ts rest : List Token) → n ≡ suc m → after Marks.CloseBrace ts ≡ Some rest → braced read n found ts ≡ Some (found, rest)
  unfolding braced
  braced_end n m found ts rest e c =
      ap (λ k. braced read k found ts) e
      ∙ ap (λ o. ended_by o found (braced_by (after Marks.Comma ts) (λ a. ended_by (after Marks.CloseBrace a) found (then_read (read a) (λ x rest. braced read m (found ++ x ∷ []) rest))))) c

  open_yet : (n m : ℕ) (found : List A) (ts : List Token) (o : Option (List Token)) → n ≡ suc m → after Marks.CloseBrace ts ≡ None → after Marks.Comma ts ≡ o → braced read n found ts ≡ braced_by o (λ a. ended_by (after Marks.CloseBrace a) found (then_read (read a) (λ x rest. braced read m (found ++ x ∷ []) rest)))
  unfolding braced
  open_yet n m found ts o e c d =
      ap (λ k. braced read k found ts) e
      ∙ ap (λ o. ended_by o found (braced_by (after Marks.Comma ts) (λ a. ended_by (after Marks.CloseBrace a) found (then_read (read a) (λ x rest. braced read m (found ++ x ∷ []) rest))))) c
      ∙ ap (λ o. braced_by o (λ a. ended_by (after Marks.CloseBrace a) found (then_read (read a) (λ x rest. braced read m (found ++ x ∷ []) rest)))) d

  pub braced_unparted : (n m : ℕ) (found : List A) (ts : List Token) → n ≡ suc m → after Marks.CloseBrace ts ≡ None → after Marks.Comma ts ≡ None → braced read n found ts ≡ None
  braced_unparted n m found ts e c d = open_yet n m found ts None e c d

  parted : (n m : ℕ) (found : List A) (ts a : List Token) (o : Option (List Token)) → n ≡ suc m → after Marks.CloseBrace ts ≡ None → after Marks.Comma ts ≡ Some a → after Marks.CloseBrace a ≡ o → braced read n found ts ≡ ended_by o found (then_read (read a) (λ x rest. braced read m (found ++ x ∷ []) rest))
  parted n m found ts a o e c d f =
      open_yet n m found ts (Some a) e c d ∙ ap (λ o. ended_by o found (then_read (read a) (λ x rest. braced read m (found ++ x ∷ []) rest))) f

  pub braced_last : (n m : ℕ) (found : List A) (ts a rest : List Token) → n ≡ suc m → after Marks.CloseBrace ts ≡ None → after Marks.Comma ts ≡ Some a → after Marks.CloseBrace a ≡ Some rest → braced read n found ts ≡ Some (found, rest)
  braced_last n m found ts a rest e c d f = parted n m found ts a (Some rest) e c d f

  pub braced_stuck : (n m : ℕ) (found : List A) (ts a : List Token) → n ≡ suc m → after Marks.CloseBrace ts ≡ None → after Marks.Comma ts ≡ Some a → after Marks.CloseBrace a ≡ None → read a ≡ None → braced read n found ts ≡ None
  braced_stuck n m found ts a e c d f r = parted n m found ts a None e c d f ∙ ap (λ o. then_read o (λ x rest. braced read m (found ++ x ∷ []) rest)) r

  pub braced_next : (n m : ℕ) (found : List A) (ts a : List Token) (x : A) (rest : List Token) → n ≡ suc m → after Marks.CloseBrace ts ≡ None → after Marks.Comma ts ≡ Some a → after Marks.CloseBrace a ≡ None → read a ≡ Some (x, rest) → braced read n found ts ≡ braced read m (found ++ x ∷ []) rest
  braced_next n m found ts a x rest e c d f r = parted n m found ts a None e c d f ∙ ap (λ o. then_read o (λ x rest. braced read m (found ++ x ∷ []) rest)) r
