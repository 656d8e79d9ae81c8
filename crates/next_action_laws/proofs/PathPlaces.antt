-- Call paths of bodies: which body a path has, how deep calls go, and how many cells the objects of all paths have.
use Rattle.std.proofs.Common.{◌≡◌, refl, ap, sym, subst, ◌∙◌, ℕ, zero, suc, ◌+◌, ◌-◌, ◌<◌, ◌≤◌, ltb, inl, inr, Bool}
use Rattle.std.proofs.Common.{true, false, cond, List, [], ◌∷◌, ◌++◌, length, get_or, Option, Some, None, arith}
use Rattle.std.specs.Prelude.{Contains}
use Rattle.std.proofs.lemmas.Bool.{cases_Bool, cases_lt, ltb-true, lt-ltb, le-ltb}
use Rattle.std.proofs.lemmas.List.{length-append, get_or_append_left, get_or-append_right}
use Rattle.cell_layout.specs.tm_typed.declared.files.LocalEntry.{LocalEntry}
use Rattle.cell_layout.specs.tm_typed.CallGraph.{calls_in}
use Rattle.cell_layout.specs.tm_typed.Files.{TypedFileTree}
use Rattle.cell_layout.specs.tm_laid.declared.paths.Caller.{Caller}
use Rattle.cell_layout.specs.tm_laid.declared.paths.CallPath.{CallPath}
use Rattle.cell_layout.specs.tm_laid.CallTrees.{CallTree, a_call_of, CallTrees, no_calls, and_call, trees_of, weight}
use Rattle.cell_layout.specs.tm_laid.CallTrees.{weights, one}
use Rattle.cell_layout.specs.tm_laid.Paths.{tree_of, bodies_of, body_trees, locals_of, tree_paths, called_paths}
use Rattle.cell_layout.specs.tm_laid.Paths.{body_paths}
use Rattle.cell_layout.specs.tm_laid.Paths.{numbers_from, paths_of}
use Rattle.cell_layout.specs.tm_laid.Objects.{local_objects, path_objects, static_objects}
use Rattle.cell_layout.specs.tm_laid.Layable.{IsLayable}
use Rattle.cell_layout.specs.tm_laid.Layouts.{no_path, summed_types, own_cells, over_objects}
use Rattle.cell_layout.proofs.CallDepth.{rank_of_file, rank_falls}
use Rattle.cell_layout.proofs.PathSteps.{counted, called_counted}
use Rattle.next_action_laws.proofs.ObjectPlaces.{sum_append}

-- ## How many cells

paths_sum : (ℕ → ℕ) → List CallPath → ℕ
paths_sum w [] = 0
paths_sum w (p ∷ ps) = w p.function + paths_sum w ps

paths_append : (w : ℕ → ℕ) (ps qs : List CallPath) → paths_sum w (ps ++ qs) ≡ paths_sum w ps + paths_sum w qs
unfolding paths_sum
paths_append w [] qs = omega arith
paths_append w (p ∷ ps) qs = let e = paths_append w ps qs in omega (arith, e)

mutual
  unfolding paths_sum

  tree_sum : (w : ℕ → ℕ) (body : ℕ) (c : Option Caller) (n : ℕ) (t : CallTree)
      → paths_sum w (tree_paths body c n t) ≡ weight w t
  tree_sum w body c n (a_call_of f ts) = ap (λ x. w f + x) (called_sum w body n 0 (suc n) ts)

  called_sum : (w : ℕ → ℕ) (body path site n : ℕ) (ts : CallTrees)
      → paths_sum w (called_paths body path site n ts) ≡ weights w ts
  called_sum w body path site n no_calls = refl
  called_sum w body path site n (and_call t ts) =
      let c : Option Caller = Some (record { path = path; site = site }) in
      let e = paths_append w (tree_paths body c n t) (called_paths body path (suc site) (n + weight one t) ts) in
      let a = tree_sum w body c n t in
      let b = called_sum w body path (suc site) (n + weight one t) ts in
      omega (arith, e, a, b)

body_sum : (w : ℕ → ℕ) (body n : ℕ) (ts : CallTrees) → paths_sum w (body_paths body n ts) ≡ weights w ts
unfolding paths_sum
body_sum w body n no_calls = refl
body_sum w body n (and_call t ts) =
    let e = paths_append w (tree_paths body None n t) (body_paths (suc body) (n + weight one t) ts) in
    let a = tree_sum w body None n t in
    let b = body_sum w (suc body) (n + weight one t) ts in
    omega (arith, e, a, b)

same_sum : (count : ℕ → ℕ) (p q : ℕ) (ls : List LocalEntry)
    → summed_types count (local_objects p ls) ≡ summed_types count (local_objects q ls)
same_sum count p q [] = refl
same_sum count p q (l ∷ ls) = ap (λ x. count l.of.number + x) (same_sum count p q ls)

objects_sum : (file : TypedFileTree) (count : ℕ → ℕ) (n : ℕ) (ps : List CallPath)
    → summed_types count (path_objects file n ps) ≡ paths_sum (own_cells file count) ps
unfolding paths_sum
objects_sum file count n [] = refl
objects_sum file count n (p ∷ ps) =
    let e = sum_append count (local_objects n (locals_of file p.function)) (path_objects file (suc n) ps) in
    let a = same_sum count n 0 (locals_of file p.function) in
    let b = objects_sum file count (suc n) ps in
    omega (arith, e, a, b)

pub all_cells : (file : TypedFileTree) (count : ℕ → ℕ)
    → summed_types count (static_objects file.statics ++ path_objects file 0 (paths_of file)) ≡ over_objects file count
all_cells file count =
    let e = sum_append count (static_objects file.statics) (path_objects file 0 (paths_of file)) in
    let a = objects_sum file count 0 (paths_of file) in
    let b = body_sum (own_cells file count) 0 0 (body_trees file) in
    omega (arith, e, a, b)

-- ## The body of a path

record IsIn (body : ℕ) (ps : List CallPath) (i : ℕ) : Type 0 where
  same : (get_or ps i no_path).body ≡ body
  ends : i + (get_or ps i no_path).paths ≤ length ps

in_left : (body : ℕ) (ps qs : List CallPath) (i : ℕ) → i < length ps → IsIn body ps i → IsIn body (ps ++ qs) i
in_left body ps qs i lt h =
    let e = get_or_append_left ps qs no_path i lt in
    let l = length-append ps qs in
    let x = ap (λ p. p.paths) e in
    let y = h.ends in
    record { same = ap (λ p. p.body) e ∙ h.same; ends = omega (arith, l, x, y) }

in_right : (body : ℕ) (ps qs : List CallPath) (i : ℕ) → length ps ≤ i → IsIn body qs (i - length ps)
    → IsIn body (ps ++ qs) i
in_right body ps qs i le h =
    let e = get_or-append_right ps qs (length ps) i no_path refl le in
    let l = length-append ps qs in
    let x = ap (λ p. p.paths) e in
    let y = h.ends in
    record { same = ap (λ p. p.body) e ∙ h.same; ends = omega (arith, l, x, y, le) }

mutual
  tree_in : (body : ℕ) (c : Option Caller) (n : ℕ) (t : CallTree) (i : ℕ) → i < length (tree_paths body c n t)
      → IsIn body (tree_paths body c n t) i
  tree_in body c n (a_call_of f ts) zero lt =
      record { same = refl; ends = let e = called_counted body n 0 (suc n) ts in omega (arith, e) }
  tree_in body c n (a_call_of f ts) (suc i) lt =
      let h = called_in body n 0 (suc n) ts i (omega (arith, lt)) in
      let e = h.ends in
      record { same = h.same; ends = omega (arith, e) }

  called_in : (body path site n : ℕ) (ts : CallTrees) (i : ℕ) → i < length (called_paths body path site n ts)
      → IsIn body (called_paths body path site n ts) i
  called_in body path site n no_calls i lt = absurd (omega (arith, lt))
  called_in body path site n (and_call t ts) i lt =
      let c : Option Caller = Some (record { path = path; site = site }) in
      let now : List CallPath = tree_paths body c n t in
      let next : List CallPath = called_paths body path (suc site) (n + weight one t) ts in
      let l = length-append now next in
      elim (cases_lt i (length now)) [
        | inl here ↦ in_left body now next i here (tree_in body c n t i here)
        | inr later ↦ in_right body now next i later
            (called_in body path (suc site) (n + weight one t) ts (i - length now) (omega (arith, lt, l, later)))
      ]

-- a path and one that goes on from it
record AreTogether (ps : List CallPath) (q p : ℕ) : Type 0 where
  within : p < length ps
  same : (get_or ps p no_path).body ≡ (get_or ps q no_path).body

together : (body n : ℕ) (ts : CallTrees) (q p : ℕ) → q < length (body_paths body n ts) → q ≤ p
    → p < q + (get_or (body_paths body n ts) q no_path).paths → AreTogether (body_paths body n ts) q p
together body n no_calls q p lt le in' = absurd (omega (arith, lt))
together body n (and_call t ts) q p lt le in' =
    let now : List CallPath = tree_paths body None n t in
    let next : List CallPath = body_paths (suc body) (n + weight one t) ts in
    let l = length-append now next in
    elim (cases_lt q (length now)) [
      | inl here ↦
          (let e = get_or_append_left now next no_path q here in
          let x = ap (λ y. y.paths) e in
          let h = tree_in body None n t q here in
          let z = h.ends in
          let lp : p < length now = omega (arith, in', x, z) in
          let f = get_or_append_left now next no_path p lp in
          record {
            within = omega (arith, lp, l);
            same = ap (λ y. y.body) f ∙ (tree_in body None n t p lp).same
                ∙ sym (ap (λ y. y.body) e ∙ h.same);
          })
      | inr later ↦
          (let e = get_or-append_right now next (length now) q no_path refl later in
          let x = ap (λ y. y.paths) e in
          let r = together (suc body) (n + weight one t) ts (q - length now) (p - length now)
          (omega (arith, lt, l, later)) (omega (arith, le)) (omega (arith, in', x, later, le)) in
          let f = get_or-append_right now next (length now) p no_path refl (omega (arith, later, le)) in
          let w = r.within in
          record {
            within = omega (arith, w, l, later, le);
            same = ap (λ y. y.body) f ∙ r.same
                ∙ sym (ap (λ y. y.body) e);
          })
    ]

pub same_body : (file : TypedFileTree) (q p : ℕ) → q < length (paths_of file) → q ≤ p
    → p < q + (get_or (paths_of file) q no_path).paths
    → (p < length (paths_of file)) × ((get_or (paths_of file) p no_path).body ≡ (get_or (paths_of file) q no_path).body)
same_body file q p lt le in' = let r = together 0 0 (body_trees file) q p lt le in' in (r.within, r.same)

-- the first path of a body
record IsFirst (ps : List CallPath) (n q body : ℕ) : Type 0 where
  least : n ≤ q
  within : q - n < length ps
  same : (get_or ps (q - n) no_path).body ≡ body

tree_root : (body : ℕ) (c : Option Caller) (n : ℕ) (t : CallTree) (qs : List CallPath)
    → IsFirst (tree_paths body c n t ++ qs) n n body
tree_root body c n (a_call_of f ts) qs =
    let z : 0 ≡ n - n = omega arith in
    let ps : List CallPath = tree_paths body c n (a_call_of f ts) ++ qs in
    record {
      least = omega arith;
      within = omega arith;
      same = subst (λ i. (get_or ps i no_path).body ≡ body) z refl;
    }

count_trees : CallTrees → ℕ
count_trees no_calls = 0
count_trees (and_call t ts) = suc (count_trees ts)

first_at : (body n : ℕ) (ts : CallTrees) (i : ℕ) → i < count_trees ts
    → IsFirst (body_paths body n ts) n (get_or (numbers_from n ts) i 0) (body + i)
unfolding count_trees
first_at body n no_calls i lt = absurd (omega (arith, lt))
first_at body n (and_call t ts) zero lt =
    let z : body ≡ body + 0 = omega arith in
    subst (λ x. IsFirst (body_paths body n (and_call t ts)) n n x) z
    (tree_root body None n t (body_paths (suc body) (n + weight one t) ts))
first_at body n (and_call t ts) (suc i) lt =
    let r = first_at (suc body) (n + weight one t) ts i (omega (arith, lt)) in
    let now : List CallPath = tree_paths body None n t in
    let next : List CallPath = body_paths (suc body) (n + weight one t) ts in
    let q : ℕ = get_or (numbers_from (n + weight one t) ts) i 0 in
    let a = r.least in
    let b = r.within in
    let l = length-append now next in
    let c = counted body None n t in
    let e = get_or-append_right now next (length now) (q - n) no_path refl (omega (arith, a, c)) in
    let z : q - n - length now ≡ q - (n + weight one t) = omega (arith, c) in
    let w : suc body + i ≡ body + suc i = omega arith in
    record {
      least = omega (arith, a);
      within = omega (arith, a, b, l, c);
      same = ap (λ p. p.body) (e ∙ ap (λ k. get_or next k no_path) z) ∙ r.same ∙ w;
    }

count_of : (tree : ℕ → CallTree) (gs : List ℕ) → count_trees (trees_of tree gs) ≡ length gs
unfolding count_trees
count_of tree [] = refl
count_of tree (g ∷ gs) = ap suc (count_of tree gs)

pub first_of : (file : TypedFileTree) (i : ℕ) → i < length (bodies_of file)
    → (get_or (numbers_from 0 (body_trees file)) i 0 < length (paths_of file))
    × ((get_or (paths_of file) (get_or (numbers_from 0 (body_trees file)) i 0) no_path).body ≡ i)
first_of file i lt =
    let n = count_of (tree_of file) (bodies_of file) in
    let r = first_at 0 0 (body_trees file) i (omega (arith, lt, n)) in
    let q : ℕ = get_or (numbers_from 0 (body_trees file)) i 0 in
    let b = r.within in
    let z : q ≡ q - 0 = omega arith in
    let w : 0 + i ≡ i = omega arith in
    (omega (arith, b), ap (λ k. (get_or (paths_of file) k no_path).body) z ∙ r.same ∙ w)

-- ## How deep calls go

count : (ℕ → Bool) → ℕ → ℕ
count p zero = 0
count p (suc n) = cond (p n) (suc (count p n)) (count p n)

counts : (p : ℕ → Bool) (n : ℕ) → p n ≡ true → count p (suc n) ≡ suc (count p n)
unfolding count
counts p n t = ap (λ b. cond b (suc (count p n)) (count p n)) t

passes : (p : ℕ → Bool) (n : ℕ) → p n ≡ false → count p (suc n) ≡ count p n
unfolding count
passes p n t = ap (λ b. cond b (suc (count p n)) (count p n)) t

count_more : (p q : ℕ → Bool) (n : ℕ) → ((k : ℕ) → p k ≡ true → q k ≡ true) → count p n ≤ count q n
unfolding count
count_more p q zero h = omega arith
count_more p q (suc n) h = let m = count_more p q n h in elim (cases_Bool (p n)) [
  | inl t ↦ (let a = counts p n t in let b = counts q n (h n t) in omega (arith, a, b, m))
  | inr t ↦ elim (cases_Bool (q n)) [
    | inl u ↦ (let a = passes p n t in let b = counts q n u in omega (arith, a, b, m))
    | inr u ↦ (let a = passes p n t in let b = passes q n u in omega (arith, a, b, m))
  ]
]

count_strict : (p q : ℕ → Bool) (n m : ℕ) → ((k : ℕ) → p k ≡ true → q k ≡ true) → m < n → p m ≡ false → q m ≡ true
    → count p n < count q n
count_strict p q zero m h l f t = absurd (omega (arith, l))
count_strict p q (suc n) m h l f t = elim (cases_lt m n) [
  | inl lt ↦ (let r = count_strict p q n m h lt f t in elim (cases_Bool (p n)) [
    | inl u ↦ (let a = counts p n u in let b = counts q n (h n u) in omega (arith, a, b, r))
    | inr u ↦ elim (cases_Bool (q n)) [
      | inl v ↦ (let a = passes p n u in let b = counts q n v in omega (arith, a, b, r))
      | inr v ↦ (let a = passes p n u in let b = passes q n v in omega (arith, a, b, r))
    ]
  ])
  | inr ge ↦
      (let same : m ≡ n = omega (arith, l, ge) in
      let a = passes p n (subst (λ j. p j ≡ false) same f) in
      let b = counts q n (subst (λ j. q j ≡ true) same t) in
      let r = count_more p q n h in
      omega (arith, a, b, r))
]

every : ℕ → Bool
every k = true

count_every : (n : ℕ) → count every n ≡ n
unfolding count every
count_every zero = refl
count_every (suc n) = ap suc (count_every n)

-- how many functions of the file have a lower rank
pub depth_of : TypedFileTree → List ℕ → ℕ → ℕ
depth_of file order f = count (λ g. ltb (rank_of_file file order g) (rank_of_file file order f)) (length file.functions)

pub depth_falls : (file : TypedFileTree) (order : List ℕ) → IsLayable file order → (f g : ℕ) → g < length file.functions
    → Contains (calls_in file.calls f) g → depth_of file order g < depth_of file order f
unfolding depth_of
depth_falls file order h f g lt c =
    let r : ℕ → ℕ = rank_of_file file order in
    let l = rank_falls file order h f g c in
    count_strict (λ k. ltb (r k) (r g)) (λ k. ltb (r k) (r f)) (length file.functions) g
    (λ k t. let a = ltb-true (r k) (r g) t in lt-ltb (r k) (r f) (omega (arith, a, l)))
    lt (le-ltb (r g) (r g) (omega arith)) (lt-ltb (r g) (r f) l)

pub depth_below : (file : TypedFileTree) (order : List ℕ) (f : ℕ) → f < length file.functions
    → depth_of file order f < length file.functions
unfolding depth_of every
depth_below file order f lt =
    let r : ℕ → ℕ = rank_of_file file order in
    let s = count_strict (λ k. ltb (r k) (r f)) every (length file.functions) f (λ k t. refl) lt
    (le-ltb (r f) (r f) (omega arith)) refl in
    let e = count_every (length file.functions) in
    omega (arith, s, e)
