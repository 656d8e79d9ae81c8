-- Call paths get their numbers one after the other.
use Rattle.std.proofs.Common.{◌≡◌, refl, ap, sym, subst, ◌∙◌, ℕ, zero, suc, ◌+◌, ◌<◌, ◌≤◌, inl, inr, min, false, List, [], ◌∷◌, ◌++◌, length, drop, reverse, get_or, append_assoc, append-nil, arith, Option, Some, None}
use Rattle.std.specs.Prelude.{All}
use Rattle.std.proofs.lemmas.Bool.{cases_lt, ltb-false}
use Rattle.std.proofs.lemmas.List.{drop_more, length-append, reverse-append, reverse-reverse, length_push, get_or_past}
use Rattle.std.proofs.lemmas.List.{drop_all}
use Rattle.std.proofs.lemmas.List.Elements.{All-nil, All-cons, All-head, All-tail, All-append}
use Rattle.tm_terms.specs.declared.refusals.Limit.TheVariants as Limits
use Rattle.tm_typed.specs.CallGraph.{calls_in}
use Rattle.tm_typed.specs.Files.{TypedFileTree}
use Rattle.tm_laid.specs.declared.paths.Caller.{Caller}
use Rattle.tm_laid.specs.declared.paths.CallPath.{CallPath}
use Rattle.tm_laid.specs.declared.scales.Scale.TheVariants as Scales
use Rattle.tm_laid.specs.CallTrees.{CallTree, a_call_of, CallTrees, no_calls, and_call, trees_of, weight, weights, one}
use Rattle.tm_laid.specs.Paths.{tree_of, bodies_of, body_trees, tree_paths, called_paths, body_paths, numbers_from, tree_callees, called_callees, paths_of, callees_of}
use Rattle.tm_laid.specs.Layouts.{is_exceeded, laid_count}
use Rattle.tm_laid.specs.Layable.{IsLayable}
use Rattle.cell_layout.specs.declared.paths.Waiting.{Waiting}
use Rattle.cell_layout.specs.reading.Counts.{own_by, total_of, sum_of, AreTotals}
use Rattle.cell_layout.specs.reading.Waits.{calls_waiting, bodies_waiting, size_of, paths_from, callees_from, IsNumbered}
use Rattle.cell_layout.proofs.Totals.{opens, weights_sum}

-- ## Sizes

pub size_total : (file : TypedFileTree) (f : ℕ) → total_of file Limits.Paths f ≡ size_of file f
unfolding total_of own_by
size_total file f = refl

pub size_opens : (file : TypedFileTree) (order : List ℕ) → IsLayable file order → (f : ℕ) → size_of file f ≡ 1 + sum_of (size_of file) (calls_in file.calls f)
size_opens file order h f = ap (weight one) (opens file order h f) ∙ ap (λ n. 1 + n) (weights_sum one (tree_of file) (calls_in file.calls f))

mutual
  pub counted : (body : ℕ) (c : Option Caller) (number : ℕ) (t : CallTree) → length (tree_paths body c number t) ≡ weight one t
  counted body c number (a_call_of f ts) = let e = called_counted body number 0 (suc number) ts in omega (arith, e)

  pub called_counted : (body path site number : ℕ) (ts : CallTrees) → length (called_paths body path site number ts) ≡ weights one ts
  called_counted body path site number no_calls = refl
  called_counted body path site number (and_call t ts) =
      let e = counted body (Some (record { path = path; site = site })) number t in
      let f = called_counted body path (suc site) (number + weight one t) ts in
      let l = length-append (tree_paths body (Some (record { path = path; site = site })) number t) (called_paths body path (suc site) (number + weight one t) ts) in
      omega (arith, e, f, l)

bodies_counted : (body number : ℕ) (ts : CallTrees) → length (body_paths body number ts) ≡ weights one ts
bodies_counted body number no_calls = refl
bodies_counted body number (and_call t ts) =
    let e = counted body None number t in
    let f = bodies_counted (suc body) (number + weight one t) ts in
    let l = length-append (tree_paths body None number t) (body_paths (suc body) (number + weight one t) ts) in
    omega (arith, e, f, l)

-- as many paths as are counted
pub paths_counted : (file : TypedFileTree) → length (paths_of file) ≡ laid_count file Limits.Paths
unfolding laid_count
paths_counted file = bodies_counted 0 0 (body_trees file)

-- .. which are at most 65,536
pub paths_few : (file : TypedFileTree) → is_exceeded Scales.Large file Limits.Paths ≡ false → length (paths_of file) ≤ 65536
paths_few file e = let a = ltb-false 65536 (laid_count file Limits.Paths) e in let b = paths_counted file in omega (arith, a, b)

length_sum : (w : ℕ → ℕ) → ((f : ℕ) → 1 ≤ w f) → (fs : List ℕ) → length fs ≤ sum_of w fs
length_sum w h [] = omega arith
length_sum w h (f ∷ fs) = let a = h f in let b = length_sum w h fs in omega (arith, a, b)

size_some : (file : TypedFileTree) (f : ℕ) → 1 ≤ size_of file f
size_some file f = by_tree (tree_of file f)
  where
    by_tree : (t : CallTree) → 1 ≤ weight one t
    by_tree (a_call_of g ts) = omega arith

-- there are few bodies
pub bodies_few : (file : TypedFileTree) → is_exceeded Scales.Large file Limits.Paths ≡ false → length (bodies_of file) ≤ 65536
bodies_few file e =
    let a = paths_few file e in
    let b = bodies_counted 0 0 (body_trees file) in
    let c = weights_sum one (tree_of file) (bodies_of file) in
    let d = length_sum (size_of file) (size_some file) (bodies_of file) in
    omega (arith, a, b, c, d)

-- a function has few calls
pub calls_few : (file : TypedFileTree) (order : List ℕ) → IsLayable file order → (f : ℕ) → size_of file f ≤ 65536 → length (calls_in file.calls f) ≤ 65535
calls_few file order h f small =
    let a = size_opens file order h f in
    let b = length_sum (size_of file) (size_some file) (calls_in file.calls f) in
    omega (arith, a, b, small)

pub sum_drop : (w : ℕ → ℕ) (xs : List ℕ) (i : ℕ) → sum_of w (drop i xs) ≤ sum_of w xs
sum_drop w [] zero = omega arith
sum_drop w [] (suc i) = omega arith
sum_drop w (x ∷ xs) zero = omega arith
sum_drop w (x ∷ xs) (suc i) = let a = sum_drop w xs i in omega (arith, a)

-- ## Sites and numbers of calls

pub site_more : (body path site i : ℕ) (calls : List ℕ) (ws : List Waiting) (all : List Waiting) → i < length calls
    → ws ++ calls_waiting body path site (drop i calls) ≡ all
    → (ws ++ record { body = body; function = get_or calls i 0; caller = Some (record { path = path; site = site }) } ∷ []) ++ calls_waiting body path (site + 1) (drop (i + 1) calls) ≡ all
site_more body path site i calls ws all lt e =
    let w : Waiting = record { body = body; function = get_or calls i 0; caller = Some (record { path = path; site = site }) } in
    append_assoc ws (w ∷ []) (calls_waiting body path (site + 1) (drop (i + 1) calls))
    ∙ ap (λ n. ws ++ w ∷ calls_waiting body path n (drop (i + 1) calls)) (let z : site + 1 ≡ suc site = omega arith in z)
    ∙ ap (λ gs. ws ++ calls_waiting body path site gs) (sym (drop_more calls i 0 lt)) ∙ e

pub body_more : (body i : ℕ) (fs : List ℕ) (ws : List Waiting) (all : List Waiting) → i < length fs
    → ws ++ bodies_waiting body (drop i fs) ≡ all
    → (ws ++ record { body = body; function = get_or fs i 0; caller = None } ∷ []) ++ bodies_waiting (body + 1) (drop (i + 1) fs) ≡ all
body_more body i fs ws all lt e =
    let w : Waiting = record { body = body; function = get_or fs i 0; caller = None } in
    append_assoc ws (w ∷ []) (bodies_waiting (body + 1) (drop (i + 1) fs))
    ∙ ap (λ n. ws ++ w ∷ bodies_waiting n (drop (i + 1) fs)) (let z : body + 1 ≡ suc body = omega arith in z)
    ∙ ap (λ gs. ws ++ bodies_waiting body gs) (sym (drop_more fs i 0 lt)) ∙ e

-- the numbers of the paths of calls so far, and the next number
pub record AreNumbers (file : TypedFileTree) (calls : List ℕ) (first i : ℕ) (numbers : List ℕ) (number : ℕ) : Type 0 where
  pub whole : numbers ++ numbers_from number (trees_of (tree_of file) (drop i calls)) ≡ numbers_from first (trees_of (tree_of file) calls)
  pub next : number + sum_of (size_of file) (drop i calls) ≡ first + sum_of (size_of file) calls

pub numbers_all : (file : TypedFileTree) (calls : List ℕ) (first i : ℕ) (numbers : List ℕ) (number : ℕ)
    → length calls ≤ i → AreNumbers file calls first i numbers number
    → numbers ≡ numbers_from first (trees_of (tree_of file) calls)
numbers_all file calls first i numbers number end done =
    sym (append-nil numbers)
    ∙ ap (λ cs. numbers ++ numbers_from number (trees_of (tree_of file) cs)) (sym (drop_all i calls end))
    ∙ done.whole

pub numbers_more : (file : TypedFileTree) (order calls : List ℕ) (first i : ℕ) (numbers : List ℕ) (number total : ℕ) → i < length calls
    → total ≡ size_of file (get_or calls i 0) → AreNumbers file calls first i numbers number → AreNumbers file calls first (i + 1) (numbers ++ number ∷ []) (number + total)
numbers_more file order calls first i numbers number total lt e h = record {
  whole =
      append_assoc numbers (number ∷ []) (numbers_from (number + total) (trees_of (tree_of file) (drop (i + 1) calls)))
      ∙ ap (λ n. numbers ++ number ∷ numbers_from (number + n) (trees_of (tree_of file) (drop (i + 1) calls))) e
      ∙ ap (λ gs. numbers ++ numbers_from number (trees_of (tree_of file) gs)) (sym more) ∙ h.whole;
  next = (let a = ap (sum_of (size_of file)) more in let b = h.next in omega (arith, a, b, e));
}
  where
    more : drop i calls ≡ get_or calls i 0 ∷ drop (i + 1) calls
    more = drop_more calls i 0 lt

-- a total that is exact
pub exact : (file : TypedFileTree) (order : List ℕ) (totals : List ℕ) (f i total : ℕ) → IsLayable file order → AreTotals file Limits.Paths totals → size_of file f ≤ 65536
    → i < length (calls_in file.calls f) → total ≡ get_or totals (get_or (calls_in file.calls f) i 0) 0 → total ≡ size_of file (get_or (calls_in file.calls f) i 0)
exact file order totals f i total h found small lt e =
    let g : ℕ = get_or (calls_in file.calls f) i 0 in
    let more = drop_more (calls_in file.calls f) i 0 lt in
    let a : sum_of (size_of file) (drop i (calls_in file.calls f)) ≡ size_of file g + sum_of (size_of file) (drop (i + 1) (calls_in file.calls f)) = ap (sum_of (size_of file)) more in
    let b = sum_drop (size_of file) (calls_in file.calls f) i in
    let c = size_opens file order h f in
    let within : g < length file.functions = call_within g lt in
    let d = found g within in
    let s = size_total file g in
    e ∙ d ∙ (let z : min 65537 (total_of file Limits.Paths g) ≡ size_of file g = omega (arith, s, a, b, c, small) in z)
  where
    call_within : (g : ℕ) → i < length (calls_in file.calls f) → get_or (calls_in file.calls f) i 0 < length file.functions
    call_within g l = elim (cases_lt f (length file.calls)) [
      | inl fl ↦ h.calls f [] fl i 0 l
      | inr ge ↦ absurd (let z : length (calls_in file.calls f) ≡ 0 = ap length (get_or_past file.calls f [] ge) in omega (arith, z, l))
    ]

pub calls_within : (file : TypedFileTree) (order : List ℕ) → IsLayable file order → (f : ℕ) → All (λ g. g < length file.functions) (calls_in file.calls f)
calls_within file order h f = elim (cases_lt f (length file.calls)) [
  | inl fl ↦ h.calls f [] fl
  | inr ge ↦ (let P : List ℕ → Type 0 = λ gs. All (λ g. g < length file.functions) gs in subst P (sym (get_or_past file.calls f [] ge)) (All-nil (λ g. g < length file.functions)))
]

IsIn : TypedFileTree → Waiting → Type 0
IsIn file w = w.function < length file.functions

calls_in_range : (file : TypedFileTree) (body path site : ℕ) (gs : List ℕ) → All (λ g. g < length file.functions) gs → All (IsIn file) (calls_waiting body path site gs)
unfolding IsIn
calls_in_range file body path site [] h = All-nil (λ w. w.function < length file.functions)
calls_in_range file body path site (g ∷ gs) h =
    All-cons (λ w. w.function < length file.functions) (record { body = body; function = g; caller = Some (record { path = path; site = site }) }) (calls_waiting body path (suc site) gs)
    (All-head (λ x. x < length file.functions) g gs h) (calls_in_range file body path (suc site) gs (All-tail (λ x. x < length file.functions) g gs h))

bodies_in_range : (file : TypedFileTree) (body : ℕ) (fs : List ℕ) → All (λ g. g < length file.functions) fs → All (IsIn file) (bodies_waiting body fs)
unfolding IsIn
bodies_in_range file body [] h = All-nil (λ w. w.function < length file.functions)
bodies_in_range file body (f ∷ fs) h =
    All-cons (λ w. w.function < length file.functions) (record { body = body; function = f; caller = None }) (bodies_waiting (suc body) fs)
    (All-head (λ x. x < length file.functions) f fs h) (bodies_in_range file (suc body) fs (All-tail (λ x. x < length file.functions) f fs h))

-- ## The next path

called_waits : (file : TypedFileTree) (body path site number : ℕ) (gs : List ℕ) (ws : List Waiting)
    → called_paths body path site number (trees_of (tree_of file) gs) ++ paths_from file (number + sum_of (size_of file) gs) ws ≡ paths_from file number (calls_waiting body path site gs ++ ws)
called_waits file body path site number [] ws = ap (λ n. paths_from file n ws) (let z : number + 0 ≡ number = omega arith in z)
called_waits file body path site number (g ∷ gs) ws =
    let c : Option Caller = Some (record { path = path; site = site }) in
    let now : List CallPath = tree_paths body c number (tree_of file g) in
    append_assoc now (called_paths body path (suc site) (number + size_of file g) (trees_of (tree_of file) gs)) (paths_from file (number + sum_of (size_of file) (g ∷ gs)) ws)
    ∙ ap (λ n. now ++ (called_paths body path (suc site) (number + size_of file g) (trees_of (tree_of file) gs) ++ paths_from file n ws))
    (let z : number + (size_of file g + sum_of (size_of file) gs) ≡ (number + size_of file g) + sum_of (size_of file) gs = omega arith in z)
    ∙ ap (λ xs. now ++ xs) (called_waits file body path (suc site) (number + size_of file g) gs ws)

callees_wait : (file : TypedFileTree) (body path site number : ℕ) (gs : List ℕ) (ws : List Waiting)
    → called_callees number (trees_of (tree_of file) gs) ++ callees_from file (number + sum_of (size_of file) gs) ws ≡ callees_from file number (calls_waiting body path site gs ++ ws)
callees_wait file body path site number [] ws = ap (λ n. callees_from file n ws) (let z : number + 0 ≡ number = omega arith in z)
callees_wait file body path site number (g ∷ gs) ws =
    let now : List (List ℕ) = tree_callees number (tree_of file g) in
    append_assoc now (called_callees (number + size_of file g) (trees_of (tree_of file) gs)) (callees_from file (number + sum_of (size_of file) (g ∷ gs)) ws)
    ∙ ap (λ n. now ++ (called_callees (number + size_of file g) (trees_of (tree_of file) gs) ++ callees_from file n ws))
    (let z : number + (size_of file g + sum_of (size_of file) gs) ≡ (number + size_of file g) + sum_of (size_of file) gs = omega arith in z)
    ∙ ap (λ xs. now ++ xs) (callees_wait file body path (suc site) (number + size_of file g) gs ws)

-- what a path opens
entry : TypedFileTree → Waiting → CallPath
entry file w = record { body = w.body; function = w.function; caller = w.caller; paths = size_of file w.function }

calls : TypedFileTree → ℕ → List ℕ
calls file f = calls_in file.calls f

behind : (file : TypedFileTree) (order : List ℕ) → IsLayable file order → (number f : ℕ) → number + size_of file f ≡ suc number + sum_of (size_of file) (calls file f)
unfolding calls
behind file order h number f = let e = size_opens file order h f in omega (arith, e)

paths_open : (file : TypedFileTree) (order : List ℕ) → IsLayable file order → (number : ℕ) (w : Waiting) (ws : List Waiting)
    → paths_from file number (w ∷ ws) ≡ entry file w ∷ paths_from file (suc number) (calls_waiting w.body number 0 (calls file w.function) ++ ws)
unfolding entry calls
paths_open file order h number w ws =
    let ts : CallTrees = trees_of (tree_of file) (calls file w.function) in
    let e : tree_of file w.function ≡ a_call_of w.function ts = opens file order h w.function in
    let s : weight one (a_call_of w.function ts) ≡ size_of file w.function = ap (weight one) (sym e) in
    ap (λ t. tree_paths w.body w.caller number t ++ paths_from file (number + size_of file w.function) ws) e
    ∙ ap (λ n. record { body = w.body; function = w.function; caller = w.caller; paths = n } ∷ called_paths w.body number 0 (suc number) ts ++ paths_from file (number + size_of file w.function) ws) s
    ∙ ap (λ n. entry file w ∷ called_paths w.body number 0 (suc number) ts ++ paths_from file n ws) (behind file order h number w.function)
    ∙ ap (λ xs. entry file w ∷ xs) (called_waits file w.body number 0 (suc number) (calls file w.function) ws)

callees_open : (file : TypedFileTree) (order : List ℕ) → IsLayable file order → (number : ℕ) (w : Waiting) (ws : List Waiting)
    → callees_from file number (w ∷ ws)
    ≡ numbers_from (suc number) (trees_of (tree_of file) (calls file w.function)) ∷ callees_from file (suc number) (calls_waiting w.body number 0 (calls file w.function) ++ ws)
unfolding calls
callees_open file order h number w ws =
    let ts : CallTrees = trees_of (tree_of file) (calls file w.function) in
    ap (λ t. tree_callees number t ++ callees_from file (number + size_of file w.function) ws) (opens file order h w.function)
    ∙ ap (λ n. numbers_from (suc number) ts ∷ called_callees (suc number) ts ++ callees_from file n ws) (behind file order h number w.function)
    ∙ ap (λ xs. numbers_from (suc number) ts ∷ xs) (callees_wait file w.body number 0 (suc number) (calls file w.function) ws)

-- the waiting path is small
pub waiting_small : (file : TypedFileTree) (number : ℕ) (ps : List CallPath) (cs : List (List ℕ)) (rest : List Waiting) (w : Waiting) → is_exceeded Scales.Large file Limits.Paths ≡ false
    → IsNumbered file number ps cs (rest ++ w ∷ []) → size_of file w.function ≤ 65536
waiting_small file number ps cs rest w few h =
    let P : List Waiting → Type 0 = λ ws. ps ++ paths_from file number ws ≡ paths_of file in
    let e : ps ++ (tree_paths w.body w.caller number (tree_of file w.function) ++ paths_from file (number + size_of file w.function) (reverse rest)) ≡ paths_of file =
    subst P (reverse-append rest (w ∷ [])) h.paths in
    let a = ap length e in
    let b = length-append ps (tree_paths w.body w.caller number (tree_of file w.function) ++ paths_from file (number + size_of file w.function) (reverse rest)) in
    let c = length-append (tree_paths w.body w.caller number (tree_of file w.function)) (paths_from file (number + size_of file w.function) (reverse rest)) in
    let d = counted w.body w.caller number (tree_of file w.function) in
    let f = paths_few file few in
    omega (arith, a, b, c, d, f)

-- .. and its total is exact
pub waiting_exact : (file : TypedFileTree) (number : ℕ) (ps : List CallPath) (cs : List (List ℕ)) (rest ws : List Waiting) (w : Waiting) (totals : List ℕ) (total : ℕ) → is_exceeded Scales.Large file Limits.Paths ≡ false
    → AreTotals file Limits.Paths totals → ws ≡ rest ++ w ∷ [] → IsNumbered file number ps cs ws → total ≡ get_or totals w.function 0 → total ≡ size_of file w.function
waiting_exact file number ps cs rest ws w totals total few found same h e =
    let P : List Waiting → Type 0 = λ xs. IsNumbered file number ps cs xs in
    let Q : List Waiting → Type 0 = λ xs. All (λ x. x.function < length file.functions) xs in
    let k = subst P same h in
    let a = waiting_small file number ps cs rest w few k in
    let b : w.function < length file.functions = All-head (λ x. x.function < length file.functions) w (reverse rest) (subst Q (reverse-append rest (w ∷ [])) k.within) in
    let c = found w.function b in
    let d = size_total file w.function in
    e ∙ c ∙ (let z : min 65537 (total_of file Limits.Paths w.function) ≡ size_of file w.function = omega (arith, d, a) in z)

-- no path waits although some have no number
pub none_waits : (file : TypedFileTree) (number : ℕ) (ps : List CallPath) (cs : List (List ℕ)) (ws : List Waiting) → number < length (paths_of file) → ws ≡ [] → IsNumbered file number ps cs ws → ⊥
none_waits file number ps cs ws lt e h =
    let P : List Waiting → Type 0 = λ xs. ps ++ paths_from file number (reverse xs) ≡ paths_of file in
    let a : ps ++ [] ≡ paths_of file = subst P e h.paths in
    let b : length ps ≡ length (paths_of file) = ap length (sym (append-nil ps) ∙ a) in
    let c = h.count in
    omega (arith, b, c, lt)

pub numbered_more : (file : TypedFileTree) (order : List ℕ) (number : ℕ) (ps ps' : List CallPath) (cs cs' : List (List ℕ)) (rest ws ws' kids : List Waiting) (w : Waiting) (paths : ℕ) (numbers : List ℕ)
    → IsLayable file order → ws ≡ rest ++ w ∷ [] → kids ≡ calls_waiting w.body number 0 (calls_in file.calls w.function) → ws' ≡ rest ++ reverse kids
    → paths ≡ size_of file w.function → ps' ≡ ps ++ record { body = w.body; function = w.function; caller = w.caller; paths = paths } ∷ []
    → numbers ≡ numbers_from (number + 1) (trees_of (tree_of file) (calls_in file.calls w.function)) → cs' ≡ cs ++ numbers ∷ []
    → IsNumbered file number ps cs ws → IsNumbered file (number + 1) ps' cs' ws'
unfolding entry calls IsIn
numbered_more file order number ps ps' cs cs' rest ws ws' kids w paths numbers h e f g k p n q before = record {
  count = ap length p ∙ length_push ps (record { body = w.body; function = w.function; caller = w.caller; paths = paths }) ∙ ap (λ i. i + 1) before.count;
  paths =
      ap (λ xs. xs ++ paths_from file (number + 1) (reverse ws')) (p ∙ ap (λ i. ps ++ record { body = w.body; function = w.function; caller = w.caller; paths = i } ∷ []) k)
      ∙ append_assoc ps (entry file w ∷ []) (paths_from file (number + 1) (reverse ws'))
      ∙ ap (λ i. ps ++ entry file w ∷ paths_from file i (reverse ws')) one_more
      ∙ ap (λ xs. ps ++ entry file w ∷ paths_from file (suc number) xs) turned
      ∙ ap (λ xs. ps ++ xs) (sym (paths_open file order h number w (reverse rest)))
      ∙ ap (λ xs. ps ++ paths_from file number xs) (sym first) ∙ before.paths;
  callees =
      ap (λ xs. xs ++ callees_from file (number + 1) (reverse ws')) (q ∙ ap (λ xs. cs ++ xs ∷ []) n)
      ∙ append_assoc cs (numbers_from (number + 1) ts ∷ []) (callees_from file (number + 1) (reverse ws'))
      ∙ ap (λ i. cs ++ numbers_from i ts ∷ callees_from file i (reverse ws')) one_more
      ∙ ap (λ xs. cs ++ numbers_from (suc number) ts ∷ callees_from file (suc number) xs) turned
      ∙ ap (λ xs. cs ++ xs) (sym (callees_open file order h number w (reverse rest)))
      ∙ ap (λ xs. cs ++ callees_from file number xs) (sym first) ∙ before.callees;
  within =
      (let P : List Waiting → Type 0 = λ xs. All (λ x. x.function < length file.functions) xs in
      let rest_in : All (λ x. x.function < length file.functions) (reverse rest) = All-tail (λ x. x.function < length file.functions) w (reverse rest) (subst P first before.within) in
      subst P (sym turned)
      (All-append (λ x. x.function < length file.functions) (calls_waiting w.body number 0 (calls_in file.calls w.function)) (reverse rest)
      (calls_in_range file w.body number 0 (calls_in file.calls w.function) (calls_within file order h w.function)) rest_in));
}
  where
    ts : CallTrees
    ts = trees_of (tree_of file) (calls file w.function)

    one_more : number + 1 ≡ suc number
    one_more = omega arith

    turned : reverse ws' ≡ calls_waiting w.body number 0 (calls_in file.calls w.function) ++ reverse rest
    turned = ap reverse g ∙ reverse-append rest (reverse kids) ∙ ap (λ xs. xs ++ reverse rest) (reverse-reverse kids ∙ f)

    first : reverse ws ≡ w ∷ reverse rest
    first = ap reverse e ∙ reverse-append rest (w ∷ [])

-- ## The first and the last

bodies_wait : (file : TypedFileTree) (body number : ℕ) (fs : List ℕ) → paths_from file number (bodies_waiting body fs) ≡ body_paths body number (trees_of (tree_of file) fs)
bodies_wait file body number [] = refl
bodies_wait file body number (f ∷ fs) = ap (λ xs. tree_paths body None number (tree_of file f) ++ xs) (bodies_wait file (suc body) (number + size_of file f) fs)

body_callees_wait : (file : TypedFileTree) (body number : ℕ) (fs : List ℕ) → callees_from file number (bodies_waiting body fs) ≡ called_callees number (trees_of (tree_of file) fs)
body_callees_wait file body number [] = refl
body_callees_wait file body number (f ∷ fs) = ap (λ xs. tree_callees number (tree_of file f) ++ xs) (body_callees_wait file (suc body) (number + size_of file f) fs)

pub numbered_none : (file : TypedFileTree) (order : List ℕ) → IsLayable file order → (bodies : List ℕ) (first ws : List Waiting) → bodies ≡ bodies_of file → first ≡ bodies_waiting 0 bodies → ws ≡ [] ++ reverse first → IsNumbered file 0 [] [] ws
unfolding IsIn
numbered_none file order h bodies first ws b f e = record {
  count = refl;
  paths = ap (paths_from file 0) turned ∙ bodies_wait file 0 0 (bodies_of file);
  callees = ap (callees_from file 0) turned ∙ body_callees_wait file 0 0 (bodies_of file);
  within = (let P : List Waiting → Type 0 = λ xs. All (λ x. x.function < length file.functions) xs in subst P (sym turned) (bodies_in_range file 0 (bodies_of file) h.bodies));
}
  where
    turned : reverse ws ≡ bodies_waiting 0 (bodies_of file)
    turned = ap reverse e ∙ reverse-reverse first ∙ f ∙ ap (bodies_waiting 0) b

no_more : {A : Type 0} (xs ys : List A) → length (xs ++ ys) ≡ length xs → ys ≡ []
no_more [] [] e = refl
no_more [] (y ∷ ys) e = absurd (omega (arith, e))
no_more (x ∷ xs) ys e = no_more xs ys (omega (arith, e))

none_left : (file : TypedFileTree) (number : ℕ) (ws : List Waiting) → paths_from file number ws ≡ [] → callees_from file number ws ≡ []
none_left file number [] e = refl
none_left file number (w ∷ ws) e =
    absurd (let a = ap length e in let b = length-append (tree_paths w.body w.caller number (tree_of file w.function)) (paths_from file (number + size_of file w.function) ws) in
    let c = counted w.body w.caller number (tree_of file w.function) in let d = size_some file w.function in omega (arith, a, b, c, d))

-- all paths have numbers
pub numbered_all : (file : TypedFileTree) (number : ℕ) (ps : List CallPath) (cs : List (List ℕ)) (ws : List Waiting) → number ≡ length (paths_of file) → IsNumbered file number ps cs ws
    → (ps ≡ paths_of file) × (cs ≡ callees_of file)
numbered_all file number ps cs ws e h =
    let long : length (ps ++ paths_from file number (reverse ws)) ≡ length ps = ap length h.paths ∙ sym e ∙ sym h.count in
    let none : paths_from file number (reverse ws) ≡ [] = no_more ps (paths_from file number (reverse ws)) long in (
      sym (append-nil ps) ∙ ap (λ xs. ps ++ xs) (sym none) ∙ h.paths,
      sym (append-nil cs) ∙ ap (λ xs. cs ++ xs) (sym (none_left file number (reverse ws) none)) ∙ h.callees,
    )

-- ## Paths of bodies

-- a total of a body is exact
pub body_exact : (file : TypedFileTree) (order : List ℕ) (totals bodies : List ℕ) (i total : ℕ) → IsLayable file order → AreTotals file Limits.Paths totals → is_exceeded Scales.Large file Limits.Paths ≡ false → bodies ≡ bodies_of file
    → i < length bodies → total ≡ get_or totals (get_or bodies i 0) 0 → (total ≡ size_of file (get_or bodies i 0)) × (total + sum_of (size_of file) (drop (i + 1) bodies) ≤ 65536)
body_exact file order totals bodies i total h found few same lt e =
    let g : ℕ = get_or bodies i 0 in
    let a : sum_of (size_of file) (drop i bodies) ≡ size_of file g + sum_of (size_of file) (drop (i + 1) bodies) = ap (sum_of (size_of file)) (drop_more bodies i 0 lt) in
    let b = sum_drop (size_of file) bodies i in
    let c = ap (sum_of (size_of file)) same in
    let d = weights_sum one (tree_of file) (bodies_of file) in
    let k = bodies_counted 0 0 (body_trees file) in
    let m = paths_few file few in
    let P : List ℕ → Type 0 = λ bs. All (λ f. f < length file.functions) bs in
    let within : g < length file.functions = subst P (sym same) h.bodies i 0 lt in
    let n = found g within in
    let s = size_total file g in
    let exact : total ≡ size_of file g = e ∙ n ∙ (let z : min 65537 (total_of file Limits.Paths g) ≡ size_of file g = omega (arith, s, a, b, c, d, k, m) in z) in
    (exact, omega (arith, exact, a, b, c, d, k, m))

pub all_sizes : (file : TypedFileTree) (bodies : List ℕ) → is_exceeded Scales.Large file Limits.Paths ≡ false → bodies ≡ bodies_of file → sum_of (size_of file) bodies ≤ 65536
all_sizes file bodies few same =
    let c = ap (sum_of (size_of file)) same in
    let d = weights_sum one (tree_of file) (bodies_of file) in
    let k = bodies_counted 0 0 (body_trees file) in
    let m = paths_few file few in
    omega (arith, c, d, k, m)
