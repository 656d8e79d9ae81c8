-- The last declaration is gone: its name is what it was before.
use Rattle.std.proofs.Common.{◌≡◌, refl, ap, sym, ◌∙◌, subst, ℕ, zero, suc, ◌-◌, ◌+◌, ◌<◌, ◌≤◌, Bool, true, false, cond, List, [], ◌∷◌, ◌++◌, length, take, map, Option, Some, None, arith}
use Rattle.std.specs.Prelude.{◌&&◌, ◌==◌, slice_get, option_to_list}
use Rattle.std.proofs.lemmas.List.{map-append, length-map, length-append, take-append-le, take_all}
use Rattle.std.proofs.lemmas.Bool.Decides.{nat_tests}
use Rattle.tm_terms.specs.declared.tokens.Name.{Name}
use Rattle.tm_terms.specs.Names.{is_same_name}
use Rattle.tm_typed.specs.Scopes.{or_else}
use Rattle.c_scope.specs.declared.positions.Declared.{Declared}
use Rattle.c_scope.specs.reading.Positions.{last_position, names_of, joined}
use Rattle.c_scope.proofs.Pushed.{last_position-push}

both_true : (a b : Bool) → (a && b) ≡ true → (a ≡ true) × (b ≡ true)
both_true true b e = (refl, e)
both_true false b e = absurd cc

same_number : (m n : ℕ) → (m == n) ≡ true → m ≡ n
same_number m n e = grind (arith, nat_tests)

pub same_is : (m n : Name) → is_same_name m n ≡ true → m ≡ n
same_is m n e =
    let b : ((m.start == n.start) ≡ true) × ((m.length == n.length) ≡ true) = both_true (m.start == n.start) (m.length == n.length) e in
    let s : m.start ≡ n.start = same_number m.start n.start b.0 in
    let l : m.length ≡ n.length = same_number m.length n.length b.1 in
    let F : ℕ → ℕ → Name = λ x y. record { start = x; length = y } in
    ap (λ x. F x m.length) s ∙ ap (λ y. F n.start y) l

same_self : (n : Name) → is_same_name n n ≡ true
same_self n = grind (arith, nat_tests)

-- a name that the last declaration had
pub had : (front : List Name) (m n : Name) → is_same_name m n ≡ true → last_position (front ++ m ∷ []) n ≡ Some (length front)
had front m n e = last_position-push front m n ∙ ap (λ b. or_else (cond b (Some (length front)) None) (last_position front n)) e

-- another name
pub not_had : (front : List Name) (m n : Name) → is_same_name m n ≡ false → last_position (front ++ m ∷ []) n ≡ last_position front n
not_had front m n e = last_position-push front m n ∙ ap (λ b. or_else (cond b (Some (length front)) None) (last_position front n)) e

names_pushed : (front : List Declared) (d : Declared) → names_of (front ++ d ∷ []) ≡ names_of front ++ d.name ∷ []
names_pushed front d = map-append (λ (y : Declared). y.name) front (d ∷ [])

by_same : (front : List Declared) (d : Declared) (n : Name) (before behind : Option (Option ℕ)) (b : Bool) → is_same_name d.name n ≡ b
    → behind ≡ cond b (Some d.before) before → joined before ≡ last_position (names_of (front ++ d ∷ [])) n → d.before ≡ last_position (names_of front) d.name → joined behind ≡ last_position (names_of front) n
by_same front d n before behind true s u h w =
    ap joined u ∙ w ∙ ap (λ m. last_position (names_of front) m) (same_is d.name n s)
by_same front d n before behind false s u h w =
    ap joined u ∙ h ∙ ap (λ ns. last_position ns n) (names_pushed front d) ∙ not_had (names_of front) d.name n s

pub indexed_again : (old front : List Declared) (d : Declared) (n : Name) (before behind : Option (Option ℕ)) → old ≡ front ++ d ∷ [] → behind ≡ cond (is_same_name d.name n) (Some d.before) before
    → joined before ≡ last_position (names_of old) n → d.before ≡ last_position (names_of front) d.name → joined behind ≡ last_position (names_of front) n
indexed_again old front d n before behind e u h w =
    by_same front d n before behind (is_same_name d.name n) refl u (h ∙ ap (λ ds. last_position (names_of ds) n) e) w

at_last : (front : List Declared) (d : Declared) → slice_get (front ++ d ∷ []) (length front) ≡ Some d
at_last [] d = refl
at_last (x ∷ xs) d = at_last xs d

pub hidden_before : (old front : List Declared) (d : Declared) → old ≡ front ++ d ∷ [] → ((i : ℕ) (x : Declared) → slice_get old i ≡ Some x → x.before ≡ last_position (names_of (take i old)) x.name) → d.before ≡ last_position (names_of front) d.name
hidden_before old front d e h =
    h (length front) d (ap (λ ds. slice_get ds (length front)) e ∙ at_last front d)
    ∙ ap (λ ds. last_position (names_of (take (length front) ds)) d.name) e
    ∙ ap (λ ds. last_position (names_of ds) d.name) (take-append-le (length front) front (d ∷ []) (omega arith) ∙ take_all (length front) front (omega arith))

in_front : (front : List Declared) (d x : Declared) (i : ℕ) → slice_get front i ≡ Some x → (slice_get (front ++ d ∷ []) i ≡ Some x) × (i ≤ length front)
in_front [] d x i h = absurd cc
in_front (y ∷ ys) d x zero h = (h, omega arith)
in_front (y ∷ ys) d x (suc i) h = let r = in_front ys d x i h in (r.0, let q = r.1 in omega (arith, q))

pub hiding_still : (old front : List Declared) (d : Declared) → old ≡ front ++ d ∷ [] → ((i : ℕ) (x : Declared) → slice_get old i ≡ Some x → x.before ≡ last_position (names_of (take i old)) x.name)
    → (i : ℕ) (x : Declared) → slice_get front i ≡ Some x → x.before ≡ last_position (names_of (take i front)) x.name
hiding_still old front d e h i x g =
    let r = in_front front d x i g in
    h i x (ap (λ ds. slice_get ds i) e ∙ r.0)
    ∙ ap (λ ds. last_position (names_of (take i ds)) x.name) e
    ∙ ap (λ ds. last_position (names_of ds) x.name) (take-append-le i front (d ∷ []) r.1)

joined_some : (o : Option (Option ℕ)) (i : ℕ) → o ≡ None → joined o ≡ Some i → ⊥
joined_some o i e h = absurd cc

-- the last name has an entry in the index
pub has_entry : (old front : List Declared) (d : Declared) (o : Option (Option ℕ)) → old ≡ front ++ d ∷ [] → joined o ≡ last_position (names_of old) d.name → o ≡ None → ⊥
has_entry old front d o e h n =
    joined_some o (length (names_of front)) n (h ∙ ap (λ ds. last_position (names_of ds) d.name) e ∙ ap (λ ns. last_position ns d.name) (names_pushed front d) ∙ had (names_of front) d.name d.name (same_self d.name))
