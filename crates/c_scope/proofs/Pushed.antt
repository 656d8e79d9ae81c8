-- A further declaration hides those of its name.
use Rattle.std.proofs.Common.{◌≡◌, refl, ap, sym, ◌∙◌, subst, ℕ, zero, suc, ◌≤◌, Bool, true, false, cond, List, [], ◌∷◌, ◌++◌, length, take, Option, Some, None, ◌⊎◌, inl, inr, arith}
use Rattle.std.specs.Prelude.{slice_get, option_map}
use Rattle.std.proofs.lemmas.List.{map-append, length-map, take-append-le, take_all}
use Rattle.tm_terms.specs.declared.tokens.Name.{Name}
use Rattle.tm_terms.specs.Names.{is_same_name}
use Rattle.tm_typed.specs.Scopes.{or_else}
use Rattle.c_scope.specs.declared.positions.Declared.{Declared}
use Rattle.c_scope.specs.reading.Positions.{last_position, names_of, joined}

first_of_two : (same : Bool) → or_else {A = ℕ} None (cond same (Some 0) None) ≡ or_else (cond same (Some 0) None) None
first_of_two true = refl
first_of_two false = refl

one_further : (same : Bool) (k : ℕ) (o own : Option ℕ) → or_else (option_map suc (or_else (cond same (Some k) None) o)) own ≡ or_else (cond same (Some (suc k)) None) (or_else (option_map suc o) own)
one_further true k o own = refl
one_further false k o own = refl

pub last_position-push : (ms : List Name) (m n : Name) → last_position (ms ++ m ∷ []) n ≡ or_else (cond (is_same_name m n) (Some (length ms)) None) (last_position ms n)
last_position-push [] m n = first_of_two (is_same_name m n)
last_position-push (x ∷ xs) m n =
    ap (λ o. or_else (option_map suc o) (cond (is_same_name x n) (Some 0) None)) (last_position-push xs m n)
    ∙ one_further (is_same_name m n) (length xs) (last_position xs n) (cond (is_same_name x n) (Some 0) None)

joined_by : (same : Bool) (k : ℕ) (o : Option (Option ℕ)) → joined (cond same (Some (Some k)) o) ≡ or_else (cond same (Some k) None) (joined o)
joined_by true k o = refl
joined_by false k o = refl

-- the index with one entry more
pub indexed : (old new : List Declared) (x : Declared) (k : ℕ) (n : Name) (before behind : Option (Option ℕ)) → new ≡ old ++ x ∷ [] → k ≡ length old → behind ≡ cond (is_same_name x.name n) (Some (Some k)) before → joined before ≡ last_position (names_of old) n → joined behind ≡ last_position (names_of new) n
indexed old new x k n before behind e l u h =
    ap joined u
    ∙ joined_by (is_same_name x.name n) k before
    ∙ ap (λ o. or_else (cond (is_same_name x.name n) (Some k) None) o) h
    ∙ ap (λ i. or_else (cond (is_same_name x.name n) (Some i) None) (last_position (names_of old) n)) (l ∙ sym (length-map old (λ (y : Declared). y.name)))
    ∙ sym (last_position-push (names_of old) x.name n)
    ∙ ap (λ ns. last_position ns n) (sym (map-append (λ (y : Declared). y.name) old (x ∷ [])))
    ∙ ap (λ ds. last_position (names_of ds) n) (sym e)

at_end : (xs : List Declared) (x d : Declared) (i : ℕ) → slice_get (xs ++ x ∷ []) i ≡ Some d → ((slice_get xs i ≡ Some d) × (i ≤ length xs)) ⊎ ((i ≡ length xs) × (x ≡ d))
at_end [] x d zero h = inr (refl, cc)
at_end [] x d (suc i) h = absurd cc
at_end (y ∷ ys) x d zero h = inl (h, omega arith)
at_end (y ∷ ys) x d (suc i) h = elim (at_end ys x d i h) [ inl p ↦ inl (p.0, let q = p.1 in omega (arith, q)) | inr p ↦ inr (ap suc p.0, p.1) ]

-- each entry still says what its name was before
pub hiding : (old new : List Declared) (x : Declared) → new ≡ old ++ x ∷ [] → x.before ≡ last_position (names_of old) x.name → ((i : ℕ) (d : Declared) → slice_get old i ≡ Some d → d.before ≡ last_position (names_of (take i old)) d.name) → (i : ℕ) (d : Declared) → slice_get new i ≡ Some d → d.before ≡ last_position (names_of (take i new)) d.name
hiding old new x same s h i d g = by_place (at_end old x d i (ap (λ ds. slice_get ds i) (sym same) ∙ g))
  where
    front : i ≤ length old → take i new ≡ take i old
    front q = ap (λ ds. take i ds) same ∙ take-append-le i old (x ∷ []) q

    by_place : ((slice_get old i ≡ Some d) × (i ≤ length old)) ⊎ ((i ≡ length old) × (x ≡ d)) → d.before ≡ last_position (names_of (take i new)) d.name
    by_place (inl p) = h i d p.0 ∙ ap (λ ds. last_position (names_of ds) d.name) (sym (front p.1))
    by_place (inr p) = let P : Declared → Type 0 = λ y. y.before ≡ last_position (names_of (take i new)) y.name in
        subst P p.1 (s ∙ ap (λ ds. last_position (names_of ds) x.name) (sym (whole p.0)))
      where
        whole : i ≡ length old → take i new ≡ old
        whole q = front (omega (arith, q)) ∙ ap (λ k. take k old) q ∙ take_all (length old) old (omega arith)
