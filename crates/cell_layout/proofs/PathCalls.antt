-- Where a path goes on by its calls.
use Rattle.std.proofs.Common.{◌≡◌, refl, ap, sym, subst, ◌∙◌, ℕ, zero, suc, ◌+◌, ◌-◌, ◌<◌, ◌≤◌, ◌⊎◌, inl, inr, List, [], ◌∷◌, ◌++◌, length, take, get_or, arith, Option, Some, None}
use Rattle.std.specs.Prelude.{All, Contains}
use Rattle.std.proofs.lemmas.Bool.{cases_lt}
use Rattle.std.proofs.lemmas.List.{length-append, get_or_append_left, get_or-append-add}
use Rattle.tm_typed.specs.CallGraph.{calls_in}
use Rattle.tm_typed.specs.Files.{TypedFileTree}
use Rattle.tm_laid.specs.declared.paths.Caller.{Caller}
use Rattle.tm_laid.specs.declared.paths.CallPath.{CallPath}
use Rattle.tm_laid.specs.CallTrees.{CallTree, a_call_of, CallTrees, no_calls, and_call, trees_of, weight, weights, one}
use Rattle.tm_laid.specs.Paths.{tree_of, bodies_of, body_trees, tree_paths, called_paths, body_paths, numbers_from, tree_callees, called_callees, paths_of, callees_of}
use Rattle.tm_laid.specs.Layouts.{layout_of, path_at, no_path, callee}
use Rattle.tm_laid.specs.Layable.{IsLayable}
use Rattle.cell_layout.specs.Laws.{GoesOnBy, counted_calls, calls_on}
use Rattle.cell_layout.proofs.CallDepth.{rank_of_file, rank_falls}
use Rattle.cell_layout.proofs.PathSteps.{counted, called_counted}
use Rattle.cell_layout.proofs.Totals.{opens}

-- ## Trees of the file

mutual
  Follows : TypedFileTree → CallTree → Type 0
  Follows file (a_call_of f ts) = (ts ≡ trees_of (tree_of file) (calls_in file.calls f)) × AllFollow file ts

  AllFollow : TypedFileTree → CallTrees → Type 0
  AllFollow file no_calls = Unit {0}
  AllFollow file (and_call t ts) = Follows file t × AllFollow file ts

all_follow : (file : TypedFileTree) (gs : List ℕ) → ((g : ℕ) → Contains gs g → Follows file (tree_of file g)) → AllFollow file (trees_of (tree_of file) gs)
unfolding Follows AllFollow
all_follow file [] h = tt
all_follow file (g ∷ gs) h = (h g (0, omega arith, refl), all_follow file gs (λ x c. h x (suc c.0, (let l = c.1 in omega (arith, l)), c.2)))

follows_to : (file : TypedFileTree) (order : List ℕ) → IsLayable file order → (fuel f : ℕ) → rank_of_file file order f < fuel → Follows file (tree_of file f)
unfolding Follows AllFollow
follows_to file order h zero f lt = absurd (omega (arith, lt))
follows_to file order h (suc fuel) f lt =
    let P : CallTree → Type 0 = λ t. Follows file t in
    subst P (sym (opens file order h f))
    (refl, all_follow file (calls_in file.calls f) (λ g c. let r = rank_falls file order h f g c in follows_to file order h fuel g (omega (arith, r, lt))))

follows : (file : TypedFileTree) (order : List ℕ) → IsLayable file order → (f : ℕ) → Follows file (tree_of file f)
follows file order h f = follows_to file order h (suc (rank_of_file file order f)) f (omega arith)

-- ## Calls

at : List CallPath → ℕ → CallPath
at ps i = get_or ps i no_path

listed : List (List ℕ) → ℕ → List ℕ
listed ks i = get_or ks i []

-- a call leads to this path of the list, which begins with the number n
record LeadsTo (n : ℕ) (ps : List CallPath) (body path site function q : ℕ) : Type 0 where
  place : ℕ
  is : q ≡ n + place
  within : place < length ps
  caller : (at ps place).caller ≡ Some (record { path = path; site = site })
  function' : (at ps place).function ≡ function
  body' : (at ps place).body ≡ body

-- the paths of a list and those that go on from them
record AreCalls (file : TypedFileTree) (n : ℕ) (ps : List CallPath) (ks : List (List ℕ)) : Type 0 where
  same : length ks ≡ length ps
  numbers : (i : ℕ) → i < length ps → listed ks i ≡ numbers_from (suc (n + i)) (trees_of (tree_of file) (calls_in file.calls (at ps i).function))
  leads : (i s : ℕ) → i < length ps → s < length (calls_in file.calls (at ps i).function)
      → LeadsTo n ps (at ps i).body (n + i) s (get_or (calls_in file.calls (at ps i).function) s 0) (get_or (listed ks i) s 0)

at_left : (ps qs : List CallPath) (i : ℕ) → i < length ps → at (ps ++ qs) i ≡ at ps i
unfolding at
at_left ps qs i lt = get_or_append_left ps qs no_path i lt

at_right : (ps qs : List CallPath) (i : ℕ) → at (ps ++ qs) (length ps + i) ≡ at qs i
unfolding at
at_right ps qs i = get_or-append-add ps qs i no_path

at_behind : (ps qs : List CallPath) (i : ℕ) → length ps ≤ i → at (ps ++ qs) i ≡ at qs (i - length ps)
at_behind ps qs i le = ap (at (ps ++ qs)) (let e : i ≡ length ps + (i - length ps) = omega (arith, le) in e) ∙ at_right ps qs (i - length ps)

listed_left : (ks ls : List (List ℕ)) (i : ℕ) → i < length ks → listed (ks ++ ls) i ≡ listed ks i
unfolding listed
listed_left ks ls i lt = get_or_append_left ks ls [] i lt

listed_behind : (ks ls : List (List ℕ)) (i : ℕ) → length ks ≤ i → listed (ks ++ ls) i ≡ listed ls (i - length ks)
unfolding listed
listed_behind ks ls i le = ap (λ k. get_or (ks ++ ls) k []) (let e : i ≡ length ks + (i - length ks) = omega (arith, le) in e) ∙ get_or-append-add ks ls (i - length ks) []

leads_left : (n : ℕ) (ps qs : List CallPath) (body path site f q : ℕ) → LeadsTo n ps body path site f q → LeadsTo n (ps ++ qs) body path site f q
leads_left n ps qs body path site f q l = record {
  place = l.place;
  is = l.is;
  within = (let a = l.within in let b = length-append ps qs in omega (arith, a, b));
  caller = ap (λ p. p.caller) (at_left ps qs l.place l.within) ∙ l.caller;
  function' = ap (λ p. p.function) (at_left ps qs l.place l.within) ∙ l.function';
  body' = ap (λ p. p.body) (at_left ps qs l.place l.within) ∙ l.body';
}

leads_right : (n m : ℕ) (ps qs : List CallPath) (body path site f q : ℕ) → m ≡ n + length ps → LeadsTo m qs body path site f q → LeadsTo n (ps ++ qs) body path site f q
leads_right n m ps qs body path site f q e l = record {
  place = length ps + l.place;
  is = (let a = l.is in omega (arith, a, e));
  within = (let a = l.within in let b = length-append ps qs in omega (arith, a, b));
  caller = ap (λ p. p.caller) (at_right ps qs l.place) ∙ l.caller;
  function' = ap (λ p. p.function) (at_right ps qs l.place) ∙ l.function';
  body' = ap (λ p. p.body) (at_right ps qs l.place) ∙ l.body';
}

module _ (file : TypedFileTree) (n m : ℕ) (ps qs : List CallPath) (ks ls : List (List ℕ)) (h : AreCalls file n ps ks) (e : m ≡ n + length ps) (g : AreCalls file m qs ls) where
  and_same : length (ks ++ ls) ≡ length (ps ++ qs)
  and_same = let a = length-append ks ls in let b = length-append ps qs in let c = h.same in let d = g.same in omega (arith, a, b, c, d)

  and_numbers : (i : ℕ) → i < length (ps ++ qs) → listed (ks ++ ls) i ≡ numbers_from (suc (n + i)) (trees_of (tree_of file) (calls_in file.calls (at (ps ++ qs) i).function))
  and_numbers i lt = elim (cases_lt i (length ps)) [
    | inl l ↦ listed_left ks ls i (let a = h.same in omega (arith, a, l)) ∙ h.numbers i l
        ∙ ap (λ p. numbers_from (suc (n + i)) (trees_of (tree_of file) (calls_in file.calls p.function))) (sym (at_left ps qs i l))
    | inr r ↦
        (let a = h.same in
        let b = length-append ps qs in
        listed_behind ks ls i (omega (arith, a, r)) ∙ ap (λ k. listed ls (i - k)) a ∙ g.numbers (i - length ps) (omega (arith, lt, b, r))
        ∙ ap (λ k. numbers_from (suc k) (trees_of (tree_of file) (calls_in file.calls (at qs (i - length ps)).function))) (let x : m + (i - length ps) ≡ n + i = omega (arith, e, r) in x)
        ∙ ap (λ p. numbers_from (suc (n + i)) (trees_of (tree_of file) (calls_in file.calls p.function))) (sym (at_behind ps qs i r)))
  ]

  and_leads : (i s : ℕ) → i < length (ps ++ qs) → s < length (calls_in file.calls (at (ps ++ qs) i).function)
      → LeadsTo n (ps ++ qs) (at (ps ++ qs) i).body (n + i) s (get_or (calls_in file.calls (at (ps ++ qs) i).function) s 0) (get_or (listed (ks ++ ls) i) s 0)
  and_leads i s lt ls' = elim (cases_lt i (length ps)) [
    | inl l ↦
        (let here = at_left ps qs i l in
        let P : CallPath → Type 0 = λ p. LeadsTo n (ps ++ qs) p.body (n + i) s (get_or (calls_in file.calls p.function) s 0) (get_or (listed (ks ++ ls) i) s 0) in
        let Q : List ℕ → Type 0 = λ xs. LeadsTo n (ps ++ qs) (at ps i).body (n + i) s (get_or (calls_in file.calls (at ps i).function) s 0) (get_or xs s 0) in
        let R : CallPath → Type 0 = λ p. s < length (calls_in file.calls p.function) in
        subst P (sym here) (subst Q (sym (listed_left ks ls i (let a = h.same in omega (arith, a, l))))
        (leads_left n ps qs (at ps i).body (n + i) s (get_or (calls_in file.calls (at ps i).function) s 0) (get_or (listed ks i) s 0) (h.leads i s l (subst R here ls')))))
    | inr r ↦
        (let a = h.same in
        let b = length-append ps qs in
        let here = at_behind ps qs i r in
        let j : ℕ = i - length ps in
        let P : CallPath → Type 0 = λ p. LeadsTo n (ps ++ qs) p.body (n + i) s (get_or (calls_in file.calls p.function) s 0) (get_or (listed (ks ++ ls) i) s 0) in
        let Q : List ℕ → Type 0 = λ xs. LeadsTo n (ps ++ qs) (at qs j).body (n + i) s (get_or (calls_in file.calls (at qs j).function) s 0) (get_or xs s 0) in
        let R : CallPath → Type 0 = λ p. s < length (calls_in file.calls p.function) in
        let S : ℕ → Type 0 = λ k. LeadsTo n (ps ++ qs) (at qs j).body k s (get_or (calls_in file.calls (at qs j).function) s 0) (get_or (listed ls j) s 0) in
        let x : m + j ≡ n + i = omega (arith, e, r) in
        subst P (sym here) (subst Q (sym (listed_behind ks ls i (omega (arith, a, r)) ∙ ap (λ k. listed ls (i - k)) a))
        (subst S x (leads_right n m ps qs (at qs j).body (m + j) s (get_or (calls_in file.calls (at qs j).function) s 0) (get_or (listed ls j) s 0) e
        (g.leads j s (omega (arith, lt, b, r)) (subst R here ls'))))))
  ]

  calls_append : AreCalls file n (ps ++ qs) (ks ++ ls)
  calls_append = record { same = and_same; numbers = and_numbers; leads = and_leads }

-- ## Trees

root : CallTree → ℕ
root (a_call_of f ts) = f

roots : CallTrees → List ℕ
roots no_calls = []
roots (and_call t ts) = root t ∷ roots ts

first_caller : (body : ℕ) (c : Option Caller) (n : ℕ) (t : CallTree) → (at (tree_paths body c n t) 0).caller ≡ c
unfolding at
first_caller body c n (a_call_of f ts) = refl

first_function : (body : ℕ) (c : Option Caller) (n : ℕ) (t : CallTree) → (at (tree_paths body c n t) 0).function ≡ root t
unfolding at root
first_function body c n (a_call_of f ts) = refl

first_body : (body : ℕ) (c : Option Caller) (n : ℕ) (t : CallTree) → (at (tree_paths body c n t) 0).body ≡ body
unfolding at
first_body body c n (a_call_of f ts) = refl

some_paths : (body : ℕ) (c : Option Caller) (n : ℕ) (t : CallTree) → 1 ≤ length (tree_paths body c n t)
some_paths body c n (a_call_of f ts) = omega arith

roots_lead : (body path site n : ℕ) (ts : CallTrees) (s : ℕ) → s < length (roots ts)
    → LeadsTo n (called_paths body path site n ts) body path (site + s) (get_or (roots ts) s 0) (get_or (numbers_from n ts) s 0)
unfolding roots
roots_lead body path site n no_calls s lt = absurd (omega (arith, lt))
roots_lead body path site n (and_call t ts) zero lt =
    let c : Option Caller = Some (record { path = path; site = site }) in
    let now : List CallPath = tree_paths body c n t in
    let some = some_paths body c n t in
    let here = at_left now (called_paths body path (suc site) (n + weight one t) ts) 0 (omega (arith, some)) in
    record {
      place = 0;
      is = omega arith;
      within = (let a = length-append now (called_paths body path (suc site) (n + weight one t) ts) in omega (arith, a, some));
      caller = ap (λ p. p.caller) here ∙ first_caller body c n t ∙ ap (λ k. Some (record { path = path; site = k })) (let e : site ≡ site + 0 = omega arith in e);
      function' = ap (λ p. p.function) here ∙ first_function body c n t;
      body' = ap (λ p. p.body) here ∙ first_body body c n t;
    }
roots_lead body path site n (and_call t ts) (suc s) lt =
    let c : Option Caller = Some (record { path = path; site = site }) in
    let P : ℕ → Type 0 = λ k. LeadsTo n (tree_paths body c n t ++ called_paths body path (suc site) (n + weight one t) ts) body path k (get_or (roots ts) s 0) (get_or (numbers_from (n + weight one t) ts) s 0) in
    let e : suc site + s ≡ site + suc s = omega arith in
    subst P e
    (leads_right n (n + weight one t) (tree_paths body c n t) (called_paths body path (suc site) (n + weight one t) ts) body path (suc site + s) (get_or (roots ts) s 0) (get_or (numbers_from (n + weight one t) ts) s 0)
    (let a = counted body c n t in omega (arith, a)) (roots_lead body path (suc site) (n + weight one t) ts s (omega (arith, lt))))

roots_of : (file : TypedFileTree) (order : List ℕ) → IsLayable file order → (gs : List ℕ) → roots (trees_of (tree_of file) gs) ≡ gs
unfolding roots root
roots_of file order h [] = refl
roots_of file order h (g ∷ gs) = ap (λ x. x ∷ roots (trees_of (tree_of file) gs)) (ap root (opens file order h g)) ∙ ap (λ xs. g ∷ xs) (roots_of file order h gs)

no_calls_at : (file : TypedFileTree) (n : ℕ) → AreCalls file n [] []
no_calls_at file n = record { same = refl; numbers = λ i lt. absurd (omega (arith, lt)); leads = λ i s lt. absurd (omega (arith, lt)) }

module _ (file : TypedFileTree) (order : List ℕ) (h : IsLayable file order) where
  above : (body : ℕ) (c : Option Caller) (n f : ℕ) (ts : CallTrees) → ts ≡ trees_of (tree_of file) (calls_in file.calls f) → AreCalls file (suc n) (called_paths body n 0 (suc n) ts) (called_callees (suc n) ts)
      → AreCalls file n (tree_paths body c n (a_call_of f ts)) (tree_callees n (a_call_of f ts))
  unfolding at listed
  above body c n f ts e g = record { same = ap suc g.same; numbers = numbers; leads = leads }
    where
      ps : List CallPath
      ps = called_paths body n 0 (suc n) ts

      first : CallPath
      first = record { body = body; function = f; caller = c; paths = weight one (a_call_of f ts) }

      ks : List (List ℕ)
      ks = called_callees (suc n) ts

      numbers : (i : ℕ) → i < suc (length ps) → get_or (numbers_from (suc n) ts ∷ ks) i [] ≡ numbers_from (suc (n + i)) (trees_of (tree_of file) (calls_in file.calls (get_or (first ∷ ps) i no_path).function))
      numbers zero lt = ap (numbers_from (suc n)) e ∙ ap (λ k. numbers_from (suc k) (trees_of (tree_of file) (calls_in file.calls f))) (let x : n ≡ n + 0 = omega arith in x)
      numbers (suc i) lt = g.numbers i (omega (arith, lt))
          ∙ ap (λ k. numbers_from (suc k) (trees_of (tree_of file) (calls_in file.calls (get_or ps i no_path).function))) (let x : suc n + i ≡ n + suc i = omega arith in x)

      behind : (body' path site f' q : ℕ) → LeadsTo (suc n) ps body' path site f' q → LeadsTo n (first ∷ ps) body' path site f' q
      behind body' path site f' q l = record {
        place = suc l.place;
        is = (let a = l.is in omega (arith, a));
        within = (let a = l.within in omega (arith, a));
        caller = l.caller;
        function' = l.function';
        body' = l.body';
      }

      leads : (i s : ℕ) → i < suc (length ps) → s < length (calls_in file.calls (get_or (first ∷ ps) i no_path).function)
          → LeadsTo n (first ∷ ps) (get_or (first ∷ ps) i no_path).body (n + i) s (get_or (calls_in file.calls (get_or (first ∷ ps) i no_path).function) s 0) (get_or (get_or (numbers_from (suc n) ts ∷ ks) i []) s 0)
      leads zero s lt ls =
          let r : roots ts ≡ calls_in file.calls f = ap roots e ∙ roots_of file order h (calls_in file.calls f) in
          let l = roots_lead body n 0 (suc n) ts s (let a = ap length r in omega (arith, a, ls)) in
          let P : ℕ → Type 0 = λ k. LeadsTo (suc n) ps body n k (get_or (roots ts) s 0) (get_or (numbers_from (suc n) ts) s 0) in
          let Q : List ℕ → Type 0 = λ xs. LeadsTo (suc n) ps body n s (get_or xs s 0) (get_or (numbers_from (suc n) ts) s 0) in
          let R : ℕ → Type 0 = λ k. LeadsTo n (first ∷ ps) body k s (get_or (calls_in file.calls f) s 0) (get_or (numbers_from (suc n) ts) s 0) in
          let x : 0 + s ≡ s = omega arith in
          let y : n ≡ n + 0 = omega arith in
          subst R y (behind body n s (get_or (calls_in file.calls f) s 0) (get_or (numbers_from (suc n) ts) s 0) (subst Q r (subst P x l)))
      leads (suc i) s lt ls =
          let l = g.leads i s (omega (arith, lt)) ls in
          let R : ℕ → Type 0 = λ k. LeadsTo n (first ∷ ps) (get_or ps i no_path).body k s (get_or (calls_in file.calls (get_or ps i no_path).function) s 0) (get_or (get_or ks i []) s 0) in
          let x : suc n + i ≡ n + suc i = omega arith in
          subst R x (behind (get_or ps i no_path).body (suc n + i) s (get_or (calls_in file.calls (get_or ps i no_path).function) s 0) (get_or (get_or ks i []) s 0) l)

  mutual
    unfolding Follows AllFollow

    tree_calls : (body : ℕ) (c : Option Caller) (n : ℕ) (t : CallTree) → Follows file t → AreCalls file n (tree_paths body c n t) (tree_callees n t)
    tree_calls body c n (a_call_of f ts) w = above body c n f ts w.0 (forest_calls body n 0 (suc n) ts w.1)

    forest_calls : (body path site n : ℕ) (ts : CallTrees) → AllFollow file ts → AreCalls file n (called_paths body path site n ts) (called_callees n ts)
    forest_calls body path site n no_calls w = no_calls_at file n
    forest_calls body path site n (and_call t ts) w =
        let c : Option Caller = Some (record { path = path; site = site }) in
        calls_append file n (n + weight one t) (tree_paths body c n t) (called_paths body path (suc site) (n + weight one t) ts) (tree_callees n t) (called_callees (n + weight one t) ts)
        (tree_calls body c n t w.0) (let a = counted body c n t in omega (arith, a)) (forest_calls body path (suc site) (n + weight one t) ts w.1)

  body_calls : (body n : ℕ) (ts : CallTrees) → AllFollow file ts → AreCalls file n (body_paths body n ts) (called_callees n ts)
  unfolding Follows AllFollow
  body_calls body n no_calls w = no_calls_at file n
  body_calls body n (and_call t ts) w =
      calls_append file n (n + weight one t) (tree_paths body None n t) (body_paths (suc body) (n + weight one t) ts) (tree_callees n t) (called_callees (n + weight one t) ts)
      (tree_calls body None n t w.0) (let a = counted body None n t in omega (arith, a)) (body_calls (suc body) (n + weight one t) ts w.1)

  all_calls : AreCalls file 0 (paths_of file) (callees_of file)
  all_calls = body_calls 0 0 (body_trees file) (all_follow file (bodies_of file) (λ g c. follows file order h g))

number_at : (file : TypedFileTree) (n : ℕ) (gs : List ℕ) (s : ℕ) → s < length gs → get_or (numbers_from n (trees_of (tree_of file) gs)) s 0 ≡ n + counted_calls file (take s gs)
number_at file n [] s lt = absurd (omega (arith, lt))
number_at file n (g ∷ gs) zero lt = omega arith
number_at file n (g ∷ gs) (suc s) lt = let e = number_at file (n + weight one (tree_of file g)) gs s (omega (arith, lt)) in omega (arith, e)

pub calls_lead : (file : TypedFileTree) (order : List ℕ) → IsLayable file order → (p site : ℕ) → p < length (layout_of file).paths → site < length (calls_on file (layout_of file) p) → GoesOnBy file (layout_of file) p site
unfolding layout_of at listed
calls_lead file order h p site lp ls =
    let a = all_calls file order h in
    let l = a.leads p site lp ls in
    let ps = paths_of file in
    let q : ℕ = get_or (get_or (callees_of file) p []) site 0 in
    let is : q ≡ l.place = (let x = l.is in omega (arith, x)) in
    let w = l.within in
    record {
      within = omega (arith, is, w);
      caller = ap (λ k. (get_or ps k no_path).caller) is ∙ l.caller ∙ ap (λ k. Some (record { path = k; site = site })) (let e : 0 + p ≡ p = omega arith in e);
      function = ap (λ k. (get_or ps k no_path).function) is ∙ l.function';
      body = ap (λ k. (get_or ps k no_path).body) is ∙ l.body';
      number =
          ap (λ xs. get_or xs site 0) (a.numbers p lp) ∙ number_at file (suc (0 + p)) (calls_in file.calls (get_or ps p no_path).function) site ls
          ∙ (let e : suc (0 + p) + counted_calls file (take site (calls_in file.calls (get_or ps p no_path).function)) ≡ p + 1 + counted_calls file (take site (calls_in file.calls (get_or ps p no_path).function)) = omega arith in e);
    }
