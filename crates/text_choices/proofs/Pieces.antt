-- Lists to which a piece for one thing after another is appended.
use Rattle.std.proofs.Common.{◌≡◌, sym, ap, ◌∙◌, ℕ, ◌+◌, ◌<◌, ◌≤◌, List, [], ◌∷◌, ◌++◌, length, get_or, drop}
use Rattle.std.proofs.lemmas.List.{append_assoc, append-nil, at_drop_more, at_drop_all}

module _ {X Y : Type 0} (all : List X → List Y) (of : X → List Y) where
  -- one piece more
  pub piece_more : (xs : List X) (i : ℕ) (x : X) (old new whole : List Y) → ((y : X) (ys : List X) → all (y ∷ ys) ≡ of y ++ all ys)
      → i < length xs → x ≡ get_or xs i x → new ≡ old ++ of x → old ++ all (drop i xs) ≡ whole → new ++ all (drop (i + 1) xs) ≡ whole
  piece_more xs i x old new whole law inside is added before =
      ap (λ ys. ys ++ all (drop (i + 1) xs)) added
      ∙ append_assoc old (of x) (all (drop (i + 1) xs))
      ∙ ap (λ ys. old ++ ys)
      (sym (at_drop_more all xs i x inside ∙ law (get_or xs i x) (drop (i + 1) xs) ∙ ap (λ y. of y ++ all (drop (i + 1) xs)) (sym is)))
      ∙ before

  -- all of them
  pub pieces_all : (xs : List X) (i : ℕ) (old whole : List Y) → all [] ≡ [] → length xs ≤ i → old ++ all (drop i xs) ≡ whole → old ≡ whole
  pieces_all xs i old whole none past before =
      sym (append-nil old) ∙ ap (λ ys. old ++ ys) (sym (at_drop_all all xs i past ∙ none)) ∙ before
