-- Trees of calls do not become deeper than there are functions, where these stand behind those that they call.
use Rattle.std.proofs.Common.{◌≡◌, refl, ap, sym, subst, ◌∙◌, ℕ, zero, suc, ◌+◌, ◌<◌, ◌≤◌, inl, inr, Bool, true, false, cond, List, [], ◌∷◌, ◌++◌, length, get_or, append_assoc, arith}
use Rattle.std.specs.Prelude.{All, Contains}
use Rattle.std.proofs.Math.Dec.{eqb, ltb}
use Rattle.std.proofs.lemmas.Bool.{cases_Bool, cases_lt, eqb-true, eqb-false, eq-eqb, ltb-true, lt-ltb, le-ltb}
use Rattle.std.proofs.lemmas.List.{get_or_past, length_push}
use Rattle.std.proofs.lemmas.List.Elements.{All-contains}
use Rattle.tm_typed.specs.CallGraph.{AreBehind, AreCalleesFirst, calls_in}
use Rattle.tm_typed.specs.Files.{TypedFileTree}
use Rattle.tm_laid.specs.Layable.{IsLayable}
use Rattle.tm_laid.specs.CallTrees.{CallTree, a_call_of, no_calls, and_call, trees_of, call_tree}

-- ## Places in an order

-- where g stands first, or the length
place : ℕ → List ℕ → ℕ
place g [] = 0
place g (x ∷ xs) = cond (eqb x g) 0 (suc (place g xs))

place_here : (x g : ℕ) (xs : List ℕ) → eqb x g ≡ true → place g (x ∷ xs) ≡ 0
unfolding place
place_here x g xs e = ap (λ b. cond b 0 (suc (place g xs))) e

place_there : (x g : ℕ) (xs : List ℕ) → eqb x g ≡ false → place g (x ∷ xs) ≡ suc (place g xs)
unfolding place
place_there x g xs e = ap (λ b. cond b 0 (suc (place g xs))) e

place_within : (xs : List ℕ) (g k : ℕ) → k < length xs → get_or xs k g ≡ g → place g xs < length xs
unfolding place
place_within [] g k h e = absurd (omega (arith, h))
place_within (x ∷ xs) g zero h e = let f = place_here x g xs (eq-eqb x g e) in omega (arith, f)
place_within (x ∷ xs) g (suc k) h e = elim (cases_Bool (eqb x g)) [
  | inl t ↦ (let f = place_here x g xs t in omega (arith, f))
  | inr t ↦ (let f = place_there x g xs t in let m = place_within xs g k (omega (arith, h)) e in omega (arith, f, m))
]

place_at_most : (xs : List ℕ) (g : ℕ) → place g xs ≤ length xs
unfolding place
place_at_most [] g = omega arith
place_at_most (x ∷ xs) g = elim (cases_Bool (eqb x g)) [
  | inl t ↦ (let f = place_here x g xs t in omega (arith, f))
  | inr t ↦ (let f = place_there x g xs t in let m = place_at_most xs g in omega (arith, f, m))
]

place_left : (xs ys : List ℕ) (g : ℕ) → place g xs < length xs → place g (xs ++ ys) ≡ place g xs
unfolding place
place_left [] ys g h = absurd (omega (arith, h))
place_left (x ∷ xs) ys g h = elim (cases_Bool (eqb x g)) [
  | inl t ↦ place_here x g (xs ++ ys) t ∙ sym (place_here x g xs t)
  | inr t ↦ place_there x g (xs ++ ys) t ∙ ap suc (place_left xs ys g (let f = place_there x g xs t in omega (arith, f, h))) ∙ sym (place_there x g xs t)
]

place_right : (xs ys : List ℕ) (g : ℕ) → place g xs ≡ length xs → place g (xs ++ ys) ≡ length xs + place g ys
unfolding place
place_right [] ys g h = let z : place g ys ≡ 0 + place g ys = omega arith in z
place_right (x ∷ xs) ys g h = elim (cases_Bool (eqb x g)) [
  | inl t ↦ absurd (let f = place_here x g xs t in omega (arith, f, h))
  | inr t ↦ (let f = place_there x g xs t in let m = place_right xs ys g (omega (arith, f, h)) in let n = place_there x g (xs ++ ys) t in omega (arith, n, m))
]

-- what a function calls stands before it
behind : (calls : ℕ → List ℕ) (before fs : List ℕ) (f k : ℕ) → AreBehind calls before fs → place f before ≡ length before → k < length fs → get_or fs k f ≡ f
    → (g : ℕ) → Contains (calls f) g → place g (before ++ fs) < place f (before ++ fs)
unfolding place
behind calls before [] f k a n h e g c = absurd (omega (arith, h))
behind calls before (x ∷ xs) f k a n h e g c = elim (cases_Bool (eqb x f)) [
  | inl t ↦
      (let same : x ≡ f = eqb-true x f t in
      let P : ℕ → Type 0 = λ y. All (Contains before) (calls y) in
      let d : Contains before g = All-contains (Contains before) (calls f) g (subst P same a.0) c in
      let w : place g before < length before = place_within before g d.0 d.1 d.2 in
      let l = place_left before (x ∷ xs) g w in
      let r = place_right before (x ∷ xs) f n in
      omega (arith, l, r, w))
  | inr t ↦
      (let P : List ℕ → Type 0 = λ zs. place g zs < place f zs in
      let alone : place f (x ∷ []) ≡ 1 = place_there x f [] t in
      let leading : place f (before ++ x ∷ []) ≡ length (before ++ x ∷ []) =
      (let m = place_right before (x ∷ []) f n in let l = length_push before x in omega (arith, m, l, alone)) in
      subst P (append_assoc before (x ∷ []) xs)
      (behind_later k h e t (λ j h' e'. behind calls (before ++ x ∷ []) xs f j a.1 leading h' e' g c)))
]
  where
    Later : Type 0
    Later = place g ((before ++ x ∷ []) ++ xs) < place f ((before ++ x ∷ []) ++ xs)

    behind_later : (j : ℕ) → j < suc (length xs) → get_or (x ∷ xs) j f ≡ f → eqb x f ≡ false → ((i : ℕ) → i < length xs → get_or xs i f ≡ f → Later) → Later
    behind_later zero j' e' t' next = absurd (eqb-false x f t' e')
    behind_later (suc j) j' e' t' next = next j (omega (arith, j')) e'

-- ## Ranks below the number of functions

count : (ℕ → Bool) → ℕ → ℕ
count p zero = 0
count p (suc n) = cond (p n) (suc (count p n)) (count p n)

count_at_most : (p : ℕ → Bool) (n : ℕ) → count p n ≤ n
unfolding count
count_at_most p zero = omega arith
count_at_most p (suc n) = let m = count_at_most p n in elim (cases_Bool (p n)) [
  | inl t ↦ (let e : cond (p n) (suc (count p n)) (count p n) ≡ suc (count p n) = ap (λ b. cond b (suc (count p n)) (count p n)) t in omega (arith, e, m))
  | inr t ↦ (let e : cond (p n) (suc (count p n)) (count p n) ≡ count p n = ap (λ b. cond b (suc (count p n)) (count p n)) t in omega (arith, e, m))
]

counted : (p : ℕ → Bool) (n : ℕ) → p n ≡ true → count p (suc n) ≡ suc (count p n)
unfolding count
counted p n t = ap (λ b. cond b (suc (count p n)) (count p n)) t

uncounted : (p : ℕ → Bool) (n : ℕ) → p n ≡ false → count p (suc n) ≡ count p n
unfolding count
uncounted p n t = ap (λ b. cond b (suc (count p n)) (count p n)) t

count_more : (p q : ℕ → Bool) (n : ℕ) → ((k : ℕ) → p k ≡ true → q k ≡ true) → count p n ≤ count q n
unfolding count
count_more p q zero h = omega arith
count_more p q (suc n) h = let m = count_more p q n h in elim (cases_Bool (p n)) [
  | inl t ↦ (let a = counted p n t in let b = counted q n (h n t) in omega (arith, a, b, m))
  | inr t ↦ elim (cases_Bool (q n)) [
    | inl u ↦ (let a = uncounted p n t in let b = counted q n u in omega (arith, a, b, m))
    | inr u ↦ (let a = uncounted p n t in let b = uncounted q n u in omega (arith, a, b, m))
  ]
]

count_strict : (p q : ℕ → Bool) (n m : ℕ) → ((k : ℕ) → p k ≡ true → q k ≡ true) → m < n → p m ≡ false → q m ≡ true → count p n < count q n
count_strict p q zero m h l f t = absurd (omega (arith, l))
count_strict p q (suc n) m h l f t = elim (cases_lt m n) [
  | inl lt ↦ (let r = count_strict p q n m h lt f t in elim (cases_Bool (p n)) [
    | inl u ↦ (let a = counted p n u in let b = counted q n (h n u) in omega (arith, a, b, r))
    | inr u ↦ elim (cases_Bool (q n)) [
      | inl v ↦ (let a = uncounted p n u in let b = counted q n v in omega (arith, a, b, r))
      | inr v ↦ (let a = uncounted p n u in let b = uncounted q n v in omega (arith, a, b, r))
    ]
  ])
  | inr ge ↦
      (let same : m ≡ n = omega (arith, l, ge) in
      let P : ℕ → Type 0 = λ j. p j ≡ false in
      let Q : ℕ → Type 0 = λ j. q j ≡ true in
      let a = uncounted p n (subst P same f) in
      let b = counted q n (subst Q same t) in
      let r = count_more p q n h in
      omega (arith, a, b, r))
]

-- how many functions stand before f
rank_in : List ℕ → ℕ → ℕ → ℕ
rank_in order n f = count (λ g. ltb (place g order) (place f order)) n

rank_at_most : (order : List ℕ) (n f : ℕ) → rank_in order n f ≤ n
unfolding rank_in
rank_at_most order n f = count_at_most (λ g. ltb (place g order) (place f order)) n

rank_below : (order : List ℕ) (n f g : ℕ) → g < n → place g order < place f order → rank_in order n g < rank_in order n f
unfolding rank_in
rank_below order n f g l h =
    count_strict (λ k. ltb (place k order) (place g order)) (λ k. ltb (place k order) (place f order)) n g
    (λ k t. let a = ltb-true (place k order) (place g order) t in lt-ltb (place k order) (place f order) (omega (arith, a, h)))
    l (le-ltb (place g order) (place g order) (omega arith)) (lt-ltb (place g order) (place f order) h)

-- ## Trees

-- each function calls functions of lower rank
IsRanked : (ℕ → List ℕ) → (ℕ → ℕ) → Type 0
IsRanked calls rank = (f g : ℕ) → Contains (calls f) g → rank g < rank f

same_trees : (rank : ℕ → ℕ) (s t : ℕ → CallTree) (gs : List ℕ) → ((g : ℕ) → Contains gs g → s g ≡ t g) → trees_of s gs ≡ trees_of t gs
same_trees rank s t [] h = refl
same_trees rank s t (g ∷ gs) h =
    ap (λ u. and_call u (trees_of s gs)) (h g (0, omega arith, refl)) ∙ ap (λ us. and_call (t g) us) (same_trees rank s t gs (λ x c. h x (suc c.0, (let l = c.1 in omega (arith, l)), c.2)))

none_called : (rank : ℕ → ℕ) (f : ℕ) (gs : List ℕ) → ((g : ℕ) → Contains gs g → rank g < rank f) → rank f ≤ 0 → gs ≡ []
none_called rank f [] h z = refl
none_called rank f (g ∷ gs) h z = absurd (let l = h g (0, omega arith, refl) in omega (arith, l, z))

leaf : (calls : ℕ → List ℕ) (rank : ℕ → ℕ) → IsRanked calls rank → (m f : ℕ) → rank f ≤ 0 → call_tree calls m f ≡ a_call_of f no_calls
unfolding call_tree IsRanked
leaf calls rank r zero f z = refl
leaf calls rank r (suc m) f z = ap (λ gs. a_call_of f (trees_of (call_tree calls m) gs)) (none_called rank f (calls f) (r f) z)

deep_enough : (calls : ℕ → List ℕ) (rank : ℕ → ℕ) → IsRanked calls rank → (n m f : ℕ) → rank f ≤ n → rank f ≤ m → call_tree calls n f ≡ call_tree calls m f
unfolding call_tree IsRanked
deep_enough calls rank r zero m f a b = sym (leaf calls rank r m f a)
deep_enough calls rank r (suc n) zero f a b = leaf calls rank r (suc n) f b
deep_enough calls rank r (suc n) (suc m) f a b =
    ap (a_call_of f) (same_trees rank (call_tree calls n) (call_tree calls m) (calls f) (λ g c. let l = r f g c in deep_enough calls rank r n m g (omega (arith, l, a)) (omega (arith, l, b))))

once_more : (calls : ℕ → List ℕ) (n f : ℕ) → call_tree calls (suc n) f ≡ a_call_of f (trees_of (call_tree calls n) (calls f))
unfolding call_tree
once_more calls n f = refl

-- the functions of a file are ranked by their order
ranked : (graph : List (List ℕ)) (order : List ℕ) → All (All (λ g. g < length graph)) graph → AreCalleesFirst (calls_in graph) order → ((f : ℕ) → f < length graph → Contains order f)
    → IsRanked (calls_in graph) (rank_in order (length graph))
unfolding IsRanked place
ranked graph order w a whole f g c = elim (cases_lt f (length graph)) [
  | inl lt ↦
      (let d : Contains order f = whole f lt in
      let within : g < length graph = All-contains (λ h. h < length graph) (calls_in graph f) g (w f [] lt) c in
      rank_below order (length graph) f g within (behind (calls_in graph) [] order f d.0 a refl d.1 d.2 g c))
  | inr ge ↦ absurd (let e : length (calls_in graph f) ≡ 0 = ap length (get_or_past graph f [] ge) in let l = c.1 in omega (arith, e, l))
]

-- A function's tree of calls has the trees of those that it calls.
pub tree_opens : (graph : List (List ℕ)) (order : List ℕ) → All (All (λ g. g < length graph)) graph → AreCalleesFirst (calls_in graph) order → ((f : ℕ) → f < length graph → Contains order f)
    → (f : ℕ) → call_tree (calls_in graph) (length graph) f ≡ a_call_of f (trees_of (call_tree (calls_in graph) (length graph)) (calls_in graph f))
tree_opens graph order w a whole f =
    deep_enough (calls_in graph) (rank_in order (length graph)) (ranked graph order w a whole) (length graph) (suc (length graph)) f
    (rank_at_most order (length graph) f) (let l = rank_at_most order (length graph) f in omega (arith, l))
    ∙ once_more (calls_in graph) (length graph) f

-- ## Ranks of the functions of a file

pub rank_of_file : TypedFileTree → List ℕ → ℕ → ℕ
rank_of_file file order f = rank_in order (length file.calls) f

pub rank_falls : (file : TypedFileTree) (order : List ℕ) → IsLayable file order → (f g : ℕ) → Contains (calls_in file.calls f) g → rank_of_file file order g < rank_of_file file order f
unfolding rank_of_file IsRanked
rank_falls file order h f g c =
    let same : length file.calls ≡ length file.functions = h.graph in
    let P : ℕ → Type 0 = λ n. All (All (λ x. x < n)) file.calls in
    let Q : ℕ → Type 0 = λ n. (x : ℕ) → x < n → Contains order x in
    ranked file.calls order (subst P (sym same) h.calls) h.callees_first (subst Q (sym same) h.whole) f g c
