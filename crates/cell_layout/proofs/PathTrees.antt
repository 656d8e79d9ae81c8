-- How call paths lie within one another.
use Rattle.std.proofs.Common.{◌≡◌, refl, ap, sym, subst, ◌∙◌, ℕ, zero, suc, ◌+◌, ◌-◌, ◌<◌, ◌≤◌, ◌⊎◌, inl, inr, Bool, true, false, List, [], ◌∷◌, ◌++◌, length, get_or, arith, Option, Some, None}
use Rattle.std.specs.Prelude.{◌↔◌, nat_le, nat_lt, ◌&&◌}
use Rattle.std.proofs.lemmas.Bool.{cases_lt, cases_eq, and_parts, and_from, leb-true, le-leb, ltb-true, lt-ltb}
use Rattle.std.proofs.lemmas.List.{length-append, get_or_append_left, get_or-append-add}
use Rattle.tm_typed.specs.Files.{TypedFileTree}
use Rattle.tm_laid.specs.declared.paths.Caller.{Caller}
use Rattle.tm_laid.specs.declared.paths.CallPath.{CallPath}
use Rattle.tm_laid.specs.CallTrees.{CallTree, a_call_of, CallTrees, no_calls, and_call, weight, weights, one}
use Rattle.tm_laid.specs.Paths.{body_trees, tree_paths, called_paths, body_paths, paths_of}
use Rattle.tm_laid.specs.Layouts.{LaidTree, layout_of, path_at, no_path, is_on_path}
use Rattle.cell_layout.specs.Laws.{GoesOnFrom, at_once, by_call}
use Rattle.cell_layout.proofs.PathSteps.{counted, called_counted}

at : List CallPath → ℕ → CallPath
at ps i = get_or ps i no_path

-- a path is called by this one
IsCalledBy : CallPath → ℕ → Type 0
IsCalledBy p n = (site : ℕ) × (p.caller ≡ Some (record { path = n; site = site }))

-- it is called by one of the list, which begins with the number n, and lies within that
record IsWithin (n : ℕ) (ps : List CallPath) (i : ℕ) : Type 0 where
  caller : ℕ
  called : IsCalledBy (at ps i) (n + caller)
  before : caller < i
  inside : i + (at ps i).paths ≤ caller + (at ps caller).paths

-- paths of trees, whose roots have such callers
record IsForest (Root : CallPath → Type 0) (n : ℕ) (ps : List CallPath) : Type 0 where
  some : (i : ℕ) → i < length ps → 1 ≤ (at ps i).paths
  bound : (i : ℕ) → i < length ps → i + (at ps i).paths ≤ length ps
  called : (i : ℕ) → i < length ps → Root (at ps i) ⊎ IsWithin n ps i
  inner : (j i : ℕ) → j < i → i < j + (at ps j).paths → j < length ps → (k : ℕ) × (j ≤ k) × IsCalledBy (at ps i) (n + k)

-- paths of one tree, whose root is the first
record IsTree (n : ℕ) (ps : List CallPath) : Type 0 where
  some : (i : ℕ) → i < length ps → 1 ≤ (at ps i).paths
  bound : (i : ℕ) → i < length ps → i + (at ps i).paths ≤ length ps
  called : (i : ℕ) → 1 ≤ i → i < length ps → IsWithin n ps i
  inner : (j i : ℕ) → j < i → i < j + (at ps j).paths → j < length ps → (k : ℕ) × (j ≤ k) × IsCalledBy (at ps i) (n + k)

at_left : (ps qs : List CallPath) (i : ℕ) → i < length ps → at (ps ++ qs) i ≡ at ps i
unfolding at
at_left ps qs i lt = get_or_append_left ps qs no_path i lt

at_right : (ps qs : List CallPath) (i : ℕ) → length ps ≤ i → at (ps ++ qs) i ≡ at qs (i - length ps)
unfolding at
at_right ps qs i le =
    ap (λ k. get_or (ps ++ qs) k no_path) (let e : i ≡ length ps + (i - length ps) = omega (arith, le) in e) ∙ get_or-append-add ps qs (i - length ps) no_path

no_forest : (Root : CallPath → Type 0) (n : ℕ) → IsForest Root n []
no_forest Root n = record {
  some = λ i lt. absurd (omega (arith, lt));
  bound = λ i lt. absurd (omega (arith, lt));
  called = λ i lt. absurd (omega (arith, lt));
  inner = λ j i a b lt. absurd (omega (arith, lt));
}

-- a tree before a forest
module _ (Root : CallPath → Type 0) (n : ℕ) (ps qs : List CallPath) (t : IsTree n ps) (some_root : 1 ≤ length ps) (root : Root (at ps 0)) (f : IsForest Root (n + length ps) qs) where
  size : ℕ
  size = length ps

  all : length (ps ++ qs) ≡ length ps + length qs
  all = length-append ps qs

  and_some : (i : ℕ) → i < length (ps ++ qs) → 1 ≤ (at (ps ++ qs) i).paths
  and_some i lt = elim (cases_lt i (length ps)) [
    | inl l ↦ (let e = ap (λ p. p.paths) (at_left ps qs i l) in let a = t.some i l in omega (arith, e, a))
    | inr g ↦ (let e = ap (λ p. p.paths) (at_right ps qs i g) in let l = all in let a = f.some (i - length ps) (omega (arith, lt, l, g)) in omega (arith, e, a))
  ]

  and_bound : (i : ℕ) → i < length (ps ++ qs) → i + (at (ps ++ qs) i).paths ≤ length (ps ++ qs)
  and_bound i lt = elim (cases_lt i (length ps)) [
    | inl l ↦ (let e = ap (λ p. p.paths) (at_left ps qs i l) in let a = t.bound i l in let b = all in omega (arith, e, a, b))
    | inr g ↦ (let e = ap (λ p. p.paths) (at_right ps qs i g) in let b = all in let a = f.bound (i - length ps) (omega (arith, lt, b, g)) in omega (arith, e, a, b, g))
  ]

  left_within : (i : ℕ) → i < length ps → IsWithin n ps i → IsWithin n (ps ++ qs) i
  left_within i l w =
      let P : CallPath → Type 0 = λ p. IsCalledBy p (n + w.caller) in
      let lk : w.caller < length ps = (let b = w.before in omega (arith, l, b)) in
      record {
        caller = w.caller;
        called = subst P (sym (at_left ps qs i l)) w.called;
        before = w.before;
        inside = (let a = ap (λ p. p.paths) (at_left ps qs i l) in let b = ap (λ p. p.paths) (at_left ps qs w.caller lk) in let c = w.inside in omega (arith, a, b, c));
      }

  right_within : (i : ℕ) → length ps ≤ i → IsWithin (n + length ps) qs (i - length ps) → IsWithin n (ps ++ qs) i
  right_within i g w =
      let P : CallPath → Type 0 = λ p. IsCalledBy p (n + (length ps + w.caller)) in
      let Q : ℕ → Type 0 = λ k. IsCalledBy (at qs (i - length ps)) k in
      let e : (n + length ps) + w.caller ≡ n + (length ps + w.caller) = omega arith in
      let there : at (ps ++ qs) (length ps + w.caller) ≡ at qs w.caller =
      at_right ps qs (length ps + w.caller) (omega arith) ∙ ap (at qs) (let z : length ps + w.caller - length ps ≡ w.caller = omega arith in z) in
      record {
        caller = length ps + w.caller;
        called = subst P (sym (at_right ps qs i g)) (subst Q e w.called);
        before = (let b = w.before in omega (arith, b, g));
        inside = (let a = ap (λ p. p.paths) (at_right ps qs i g) in let b = ap (λ p. p.paths) there in let c = w.inside in omega (arith, a, b, c, g));
      }

  and_called : (i : ℕ) → i < length (ps ++ qs) → Root (at (ps ++ qs) i) ⊎ IsWithin n (ps ++ qs) i
  and_called zero lt = inl (subst Root (sym (at_left ps qs 0 (omega (arith, some_root)))) root)
  and_called (suc i) lt = elim (cases_lt (suc i) (length ps)) [
    | inl l ↦ inr (left_within (suc i) l (t.called (suc i) (omega arith) l))
    | inr g ↦ (let b = all in elim (f.called (suc i - length ps) (omega (arith, lt, b, g))) [
      | inl r ↦ inl (subst Root (sym (at_right ps qs (suc i) g)) r)
      | inr w ↦ inr (right_within (suc i) g w)
    ])
  ]

  and_inner : (j i : ℕ) → j < i → i < j + (at (ps ++ qs) j).paths → j < length (ps ++ qs) → (k : ℕ) × (j ≤ k) × IsCalledBy (at (ps ++ qs) i) (n + k)
  and_inner j i a b lt = elim (cases_lt j (length ps)) [
    | inl l ↦
        (let e = ap (λ p. p.paths) (at_left ps qs j l) in
        let c = t.bound j l in
        let li : i < length ps = omega (arith, b, e, c) in
        let r = t.inner j i a (omega (arith, b, e)) l in
        let P : CallPath → Type 0 = λ p. IsCalledBy p (n + r.0) in
        (r.0, r.1, subst P (sym (at_left ps qs i li)) r.2))
    | inr g ↦
        (let e = ap (λ p. p.paths) (at_right ps qs j g) in
        let m = all in
        let r = f.inner (j - length ps) (i - length ps) (omega (arith, a, g)) (omega (arith, b, e, g, a)) (omega (arith, lt, m, g)) in
        let P : CallPath → Type 0 = λ p. IsCalledBy p (n + (length ps + r.0)) in
        let Q : ℕ → Type 0 = λ k. IsCalledBy (at qs (i - length ps)) k in
        let x : (n + length ps) + r.0 ≡ n + (length ps + r.0) = omega arith in
        let y = r.1 in
        (length ps + r.0, omega (arith, y, g), subst P (sym (at_right ps qs i (omega (arith, g, a)))) (subst Q x r.2)))
  ]

  with_tree : IsForest Root n (ps ++ qs)
  with_tree = record { some = and_some; bound = and_bound; called = and_called; inner = and_inner }

-- a path before the forest of those that it calls
module _ (n : ℕ) (p : CallPath) (ps : List CallPath) (f : IsForest (λ q. IsCalledBy q n) (suc n) ps) (whole : p.paths ≡ suc (length ps)) where
  above_some : (i : ℕ) → i < length (p ∷ ps) → 1 ≤ (at (p ∷ ps) i).paths
  unfolding at
  above_some zero lt = omega (arith, whole)
  above_some (suc i) lt = f.some i (omega (arith, lt))

  above_bound : (i : ℕ) → i < length (p ∷ ps) → i + (at (p ∷ ps) i).paths ≤ length (p ∷ ps)
  unfolding at
  above_bound zero lt = omega (arith, whole)
  above_bound (suc i) lt = let a = f.bound i (omega (arith, lt)) in omega (arith, a)

  above_called : (i : ℕ) → 1 ≤ i → i < length (p ∷ ps) → IsWithin n (p ∷ ps) i
  unfolding at
  above_called zero a lt = absurd (omega (arith, a))
  above_called (suc i) a lt = elim (f.called i (omega (arith, lt))) [
    | inl r ↦ (let P : ℕ → Type 0 = λ k. IsCalledBy (get_or ps i no_path) k in let e : n ≡ n + 0 = omega arith in record {
      caller = 0;
      called = subst P e r;
      before = omega arith;
      inside = (let b = f.bound i (omega (arith, lt)) in omega (arith, b, whole));
    })
    | inr w ↦ (let P : ℕ → Type 0 = λ k. IsCalledBy (get_or ps i no_path) k in let e : suc n + w.caller ≡ n + suc w.caller = omega arith in record {
      caller = suc w.caller;
      called = subst P e w.called;
      before = (let b = w.before in omega (arith, b));
      inside = (let b = w.inside in omega (arith, b));
    })
  ]

  above_inner : (j i : ℕ) → j < i → i < j + (at (p ∷ ps) j).paths → j < length (p ∷ ps) → (k : ℕ) × (j ≤ k) × IsCalledBy (at (p ∷ ps) i) (n + k)
  unfolding at
  above_inner j zero a b lt = absurd (omega (arith, a))
  above_inner zero (suc i) a b lt = let w = above_called (suc i) (omega arith) (omega (arith, b, whole)) in (w.caller, omega arith, w.called)
  above_inner (suc j) (suc i) a b lt =
      let r = f.inner j i (omega (arith, a)) (omega (arith, b)) (omega (arith, lt)) in
      let P : ℕ → Type 0 = λ k. IsCalledBy (get_or ps i no_path) k in
      let e : suc n + r.0 ≡ n + suc r.0 = omega arith in
      let c = r.1 in
      (suc r.0, omega (arith, c), subst P e r.2)

  above : IsTree n (p ∷ ps)
  above = record { some = above_some; bound = above_bound; called = above_called; inner = above_inner }

first_caller : (body : ℕ) (c : Option Caller) (n : ℕ) (t : CallTree) → (at (tree_paths body c n t) 0).caller ≡ c
unfolding at
first_caller body c n (a_call_of f ts) = refl

some_paths : (body : ℕ) (c : Option Caller) (n : ℕ) (t : CallTree) → 1 ≤ length (tree_paths body c n t)
some_paths body c n (a_call_of f ts) = omega arith

same_end : (Root : CallPath → Type 0) (n m k : ℕ) (ps : List CallPath) → m ≡ k → IsForest Root (n + m) ps → IsForest Root (n + k) ps
same_end Root n m k ps e f = let P : ℕ → Type 0 = λ x. IsForest Root (n + x) ps in subst P e f

mutual
  unfolding IsCalledBy

  trees_nest : (body : ℕ) (c : Option Caller) (n : ℕ) (t : CallTree) → IsTree n (tree_paths body c n t)
  trees_nest body c n (a_call_of f ts) =
      above n (record { body = body; function = f; caller = c; paths = weight one (a_call_of f ts) }) (called_paths body n 0 (suc n) ts) (calls_nest body n 0 (suc n) ts)
      (let e = called_counted body n 0 (suc n) ts in omega (arith, e))

  calls_nest : (body path site n : ℕ) (ts : CallTrees) → IsForest (λ q. IsCalledBy q path) n (called_paths body path site n ts)
  calls_nest body path site n no_calls = no_forest (λ q. IsCalledBy q path) n
  calls_nest body path site n (and_call t ts) =
      let c : Option Caller = Some (record { path = path; site = site }) in
      with_tree (λ q. IsCalledBy q path) n (tree_paths body c n t) (called_paths body path (suc site) (n + weight one t) ts)
      (trees_nest body c n t) (some_paths body c n t) (site, first_caller body c n t)
      (same_end (λ q. IsCalledBy q path) n (weight one t) (length (tree_paths body c n t)) (called_paths body path (suc site) (n + weight one t) ts) (sym (counted body c n t))
      (calls_nest body path (suc site) (n + weight one t) ts))

IsBody : CallPath → Type 0
IsBody p = p.caller ≡ None

bodies_nest : (body n : ℕ) (ts : CallTrees) → IsForest IsBody n (body_paths body n ts)
unfolding IsBody
bodies_nest body n no_calls = no_forest (λ p. p.caller ≡ None) n
bodies_nest body n (and_call t ts) =
    with_tree IsBody n (tree_paths body None n t) (body_paths (suc body) (n + weight one t) ts) (trees_nest body None n t) (some_paths body None n t) (first_caller body None n t)
    (same_end IsBody n (weight one t) (length (tree_paths body None n t)) (body_paths (suc body) (n + weight one t) ts) (sym (counted body None n t)) (bodies_nest (suc body) (n + weight one t) ts))

-- ## Intervals

no_body : (p : CallPath) (n site : ℕ) → p.caller ≡ None → p.caller ≡ Some (record { path = n; site = site }) → ⊥
no_body p n site a b = absurd cc

same_caller : (p : CallPath) (k m s r : ℕ) → p.caller ≡ Some (record { path = k; site = s }) → p.caller ≡ Some (record { path = m; site = r }) → k ≡ m
same_caller p k m s r a b =
    let path_in : Option Caller → ℕ = λ c. elim c as (λ x. ℕ) [ None ↦ k | Some x ↦ x.path ] in
    sym (ap path_in a) ∙ ap path_in b

module _ (file : TypedFileTree) where
  ps : List CallPath
  ps = paths_of file

  nest : IsForest IsBody 0 (paths_of file)
  nest = bodies_nest 0 0 (body_trees file)

  forth : (q p : ℕ) → q < length (paths_of file) → p < length (paths_of file) → GoesOnFrom (layout_of file) q p
      → (q ≤ p) × (p + (at (paths_of file) p).paths ≤ q + (at (paths_of file) q).paths)
  unfolding at layout_of nest IsCalledBy IsBody
  forth q _ lq lp at_once = (omega arith, omega arith)
  forth q _ lq lr (by_call p r site l e g) = elim (nest.called r lr) [
    | inl b ↦ absurd (no_body (get_or (paths_of file) r no_path) p site b e)
    | inr w ↦
        (let same : 0 + w.caller ≡ p = same_caller (get_or (paths_of file) r no_path) (0 + w.caller) p w.called.0 site w.called.1 e in
        let P : ℕ → Type 0 = λ k. r + (get_or (paths_of file) r no_path).paths ≤ k + (get_or (paths_of file) k no_path).paths in
        let is : w.caller ≡ p = omega (arith, same) in
        let inside = subst P is w.inside in
        let b = w.before in
        let f = forth q p lq (omega (arith, b, is, lr)) g in
        let f0 = f.0 in
        let f1 = f.1 in
        (omega (arith, b, is, f0), omega (arith, inside, f1)))
  ]

  back : (fuel q p : ℕ) → p ≤ fuel → q < length (paths_of file) → p < length (paths_of file) → q ≤ p → p < q + (at (paths_of file) q).paths → GoesOnFrom (layout_of file) q p
  unfolding at layout_of nest IsCalledBy IsBody
  back zero q p le lq lp a b = let e : q ≡ p = omega (arith, le, a) in let P : ℕ → Type 0 = λ x. GoesOnFrom (layout_of file) q x in subst P e at_once
  back (suc fuel) q p le lq lp a b = elim (cases_eq q p) [
    | inl e ↦ (let P : ℕ → Type 0 = λ x. GoesOnFrom (layout_of file) q x in subst P e at_once)
    | inr other ↦
        (let lt : q < p = (let o : q ≡ p → ⊥ = other in omega (arith, a, o)) in
        let r = nest.inner q p lt b lq in
        let k : ℕ = r.0 in
        let c = r.1 in
        let w = nest.called p lp in
        elim w [
          | inl none ↦ absurd (no_body (get_or (paths_of file) p no_path) (0 + k) r.2.0 none r.2.1)
          | inr x ↦
              (let same : 0 + k ≡ 0 + x.caller = same_caller (get_or (paths_of file) p no_path) (0 + k) (0 + x.caller) r.2.0 x.called.0 r.2.1 x.called.1 in
              let y = x.before in
              let less : 0 + k < p = omega (arith, same, y) in
              by_call (0 + k) p r.2.0 lp r.2.1 (back fuel q (0 + k) (omega (arith, less, le)) lq (omega (arith, less, lp)) (omega (arith, c)) (omega (arith, less, b))))
        ])
  ]

pub intervals : (file : TypedFileTree) (q p : ℕ) → q < length (layout_of file).paths → p < length (layout_of file).paths → (is_on_path (layout_of file) q p ≡ true) ↔ GoesOnFrom (layout_of file) q p
unfolding layout_of at nest
intervals file q p lq lp = (
  (λ t. let both = and_parts (nat_le q p) (nat_lt p (q + (path_at (layout_of file) q).paths)) t in
      back file p q p (omega arith) lq lp (leb-true q p both.0) (ltb-true p (q + (path_at (layout_of file) q).paths) both.1)),
  (λ g. let f = forth file q p lq lp g in let s = (nest file).some p lp in let a = f.1 in
      and_from (nat_le q p) (nat_lt p (q + (path_at (layout_of file) q).paths)) (le-leb q p f.0) (lt-ltb p (q + (path_at (layout_of file) q).paths) (omega (arith, a, s)))),
)
