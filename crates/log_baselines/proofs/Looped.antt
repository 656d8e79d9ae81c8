-- One item more of a list that a loop goes over.
use Rattle.std.proofs.Common.{◌≡◌, ◌<◌, ◌+◌, ◌∙◌, ℕ, Bool, true, false, cond, List, [], ◌∷◌, ◌++◌, length, get_or}
use Rattle.std.proofs.Common.{Option, Some, None, append-nil, append_assoc, drop, map, refl, sym, ap, take}
use Rattle.std.specs.List.{filter, flat_map}
use Rattle.std.specs.Prelude.{option_map}
use Rattle.std.proofs.lemmas.List.{drop_more, flat_map_more, map_more}
use Rattle.std.proofs.lemmas.List.Elements.{filter-append}
use Rattle.serde_json.specs.Data.{Data}
use Rattle.log_baselines.specs.Logs.{before, print_of, prints_of}

module _ {A B : Type 0} (f : A → B) (xs : List A) (i : ℕ) (x : A) (lt : i < length xs) (is : x ≡ get_or xs i x) where
  front : map f (take (i + 1) xs) ≡ map f (take i xs) ++ f x ∷ []
  front = map_more f xs i x lt ∙ ap (λ y. map f (take i xs) ++ f y ∷ []) (sym is)

  back : map f (drop i xs) ≡ f x ∷ map f (drop (i + 1) xs)
  back = ap (map f) (drop_more xs i x lt) ∙ ap (λ y. f y ∷ map f (drop (i + 1) xs)) (sym is)

  pub texts_more : {C : Type 0} (h : B → List C) (old new : List C) → old ≡ flat_map h (map f (take i xs))
      → new ≡ old ++ h (f x) → new ≡ flat_map h (map f (take (i + 1) xs))
  texts_more h old new so_far pushed =
      pushed ∙ ap (λ z. z ++ h (f x)) so_far ∙ flat_map_more h [] (map f (take i xs)) (f x)
      ∙ sym (ap (flat_map h) front)

  filter_more : (p : B → Bool) → filter p (map f (take (i + 1) xs))
      ≡ filter p (map f (take i xs)) ++ cond (p (f x)) (f x ∷ []) []
  filter_more p = ap (filter p) front ∙ filter-append p (map f (take i xs)) (f x ∷ [])

  pub kept_more : (p : B → Bool) (first old new : List B) → old ≡ first ++ filter p (map f (take i xs)) → true ≡ p (f x)
      → new ≡ old ++ f x ∷ [] → new ≡ first ++ filter p (map f (take (i + 1) xs))
  kept_more p first old new so_far passes pushed =
      pushed ∙ ap (λ z. z ++ f x ∷ []) so_far ∙ append_assoc first (filter p (map f (take i xs))) (f x ∷ [])
      ∙ ap (λ b. first ++ (filter p (map f (take i xs)) ++ cond b (f x ∷ []) [])) passes
      ∙ ap (λ z. first ++ z) (sym (filter_more p))

  pub left_out : (p : B → Bool) (first old : List B) → old ≡ first ++ filter p (map f (take i xs)) → false ≡ p (f x)
      → old ≡ first ++ filter p (map f (take (i + 1) xs))
  left_out p first old so_far fails =
      so_far ∙ ap (λ z. first ++ z) (sym (append-nil (filter p (map f (take i xs))))
      ∙ ap (λ b. filter p (map f (take i xs)) ++ cond b (f x ∷ []) []) fails ∙ sym (filter_more p))

module _ {A : Type 0} (seen : A → Data) (xs : List A) (i : ℕ) (x : A) (lt : i < length xs) (is : x ≡ get_or xs i x)
    (whole : Option (List (List ℕ))) (prints : List (List ℕ)) where
  abbrev pub behind : List (List ℕ) → Option (List (List ℕ)) → Option (List (List ℕ))
  behind done rest = option_map (λ (more : List (List ℕ)). done ++ more) rest

  at_next : whole ≡ behind prints (prints_of (map seen (drop i xs)))
      → whole ≡ behind prints (before (print_of (seen x)) (prints_of (map seen (drop (i + 1) xs))))
  at_next so_far = so_far ∙ ap (λ (rest : List Data). behind prints (prints_of rest)) (back seen xs i x lt is)

  pub print_lacks : whole ≡ behind prints (prints_of (map seen (drop i xs))) → None ≡ print_of (seen x) → None ≡ whole
  print_lacks so_far none =
      sym (at_next so_far ∙ ap (λ p. behind prints (before p (prints_of (map seen (drop (i + 1) xs))))) (sym none))

  joined : (print : List ℕ) (rest : Option (List (List ℕ)))
      → behind prints (before (Some print) rest) ≡ behind (prints ++ print ∷ []) rest
  joined print None = refl
  joined print (Some rest) = ap Some (sym (append_assoc prints (print ∷ []) rest))

  pub print_more : (print : List ℕ) → whole ≡ behind prints (prints_of (map seen (drop i xs)))
      → Some print ≡ print_of (seen x) → whole ≡ behind (prints ++ print ∷ []) (prints_of (map seen (drop (i + 1) xs)))
  print_more print so_far has =
      at_next so_far ∙ ap (λ p. behind prints (before p (prints_of (map seen (drop (i + 1) xs))))) (sym has)
      ∙ joined print (prints_of (map seen (drop (i + 1) xs)))
