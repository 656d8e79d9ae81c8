-- The totals of functions, one after the other.
use Rattle.std.proofs.Common.{◌≡◌, refl, ap, sym, subst, ◌∙◌, ℕ, zero, suc, ◌+◌, ◌<◌, ◌≤◌, ◌⊎◌, inl, inr, min, List, [], ◌∷◌, ◌++◌, length, get_or, take, set, append_assoc, append-nil, arith, get_or-set_same, get_or-set_other}
use Rattle.std.specs.Prelude.{All, Contains}
use Rattle.std.proofs.lemmas.Bool.{cases_eq}
use Rattle.std.proofs.lemmas.List.{length-set, take_more, take_all}
use Rattle.std.proofs.lemmas.List.Elements.{All-contains, Contains-push_cases}
use Rattle.tm_terms.specs.declared.refusals.Limit.{Limit}
use Rattle.tm_typed.specs.CallGraph.{AreBehind, calls_in}
use Rattle.tm_typed.specs.Files.{TypedFileTree}
use Rattle.tm_laid.specs.CallTrees.{CallTree, a_call_of, trees_of, call_tree, weight, weights}
use Rattle.tm_laid.specs.Paths.{tree_of}
use Rattle.tm_laid.specs.Layable.{IsLayable}
use Rattle.cell_layout.specs.reading.Counts.{beyond_number, own_by, total_of, total_in, sum_of, AreTotals}
use Rattle.cell_layout.proofs.CallDepth.{tree_opens}

-- ## Trees of files

pub opens : (file : TypedFileTree) (order : List ℕ) → IsLayable file order → (f : ℕ) → tree_of file f ≡ a_call_of f (trees_of (tree_of file) (calls_in file.calls f))
opens file order h f =
    let same : length file.calls ≡ length file.functions = h.graph in
    let P : ℕ → Type 0 = λ n. All (All (λ g. g < n)) file.calls in
    let Q : ℕ → Type 0 = λ n. (g : ℕ) → g < n → Contains order g in
    let R : ℕ → Type 0 = λ n. call_tree (calls_in file.calls) n f ≡ a_call_of f (trees_of (call_tree (calls_in file.calls) n) (calls_in file.calls f)) in
    subst R same (tree_opens file.calls order (subst P (sym same) h.calls) h.callees_first (subst Q (sym same) h.whole) f)

pub weights_sum : (w : ℕ → ℕ) (tree : ℕ → CallTree) (gs : List ℕ) → weights w (trees_of tree gs) ≡ sum_of (λ g. weight w (tree g)) gs
weights_sum w tree [] = refl
weights_sum w tree (g ∷ gs) = ap (λ n. weight w (tree g) + n) (weights_sum w tree gs)

pub total_opens : (file : TypedFileTree) (order : List ℕ) (l : Limit) → IsLayable file order → (f : ℕ) → total_of file l f ≡ own_by file l f + sum_of (total_of file l) (calls_in file.calls f)
unfolding total_of
total_opens file order l h f = ap (weight (own_by file l)) (opens file order h f) ∙ ap (λ n. own_by file l f + n) (weights_sum (own_by file l) (tree_of file) (calls_in file.calls f))

-- ## Steps

-- the totals of these functions are found
pub record AreFound (file : TypedFileTree) (l : Limit) (fs totals : List ℕ) : Type 0 where
  pub same : length totals ≡ length file.functions
  pub found : (f : ℕ) → Contains fs f → total_in totals f ≡ min (beyond_number l) (total_of file l f)

pub found_none : (file : TypedFileTree) (l : Limit) (totals : List ℕ) → length totals ≡ length file.functions → AreFound file l [] totals
found_none file l totals e = record { same = e; found = λ f c. absurd (let b = c.1 in omega (arith, b)) }

pub capped_sums : (m a x y : ℕ) (t u : ℕ → ℕ) (gs : List ℕ) → ((g : ℕ) → Contains gs g → t g ≡ min m (u g)) → min m (a + sum_of t gs) ≡ min m (a + sum_of u gs)
capped_sums m a x y t u [] h = refl
capped_sums m a x y t u (g ∷ gs) h =
    let e = h g (0, omega arith, refl) in
    let f = capped_sums m (a + t g) x y t u gs (λ k c. h k (suc c.0, (let b = c.1 in omega (arith, b)), c.2)) in
    omega (arith, e, f)

behind_at : (calls : ℕ → List ℕ) (before fs : List ℕ) (k d : ℕ) → AreBehind calls before fs → k < length fs → All (Contains (before ++ take k fs)) (calls (get_or fs k d))
behind_at calls before [] k d a h = absurd (omega (arith, h))
behind_at calls before (x ∷ xs) zero d a h =
    let P : List ℕ → Type 0 = λ zs. All (Contains zs) (calls x) in
    let e : before ≡ before ++ [] = sym (append-nil before) in
    subst P e a.0
behind_at calls before (x ∷ xs) (suc k) d a h =
    let P : List ℕ → Type 0 = λ zs. All (Contains zs) (calls (get_or xs k d)) in
    subst P (append_assoc before (x ∷ []) (take k xs)) (behind_at calls (before ++ x ∷ []) xs k d a.1 (omega (arith, h)))

pub found_more : (file : TypedFileTree) (order : List ℕ) (l : Limit) (totals : List ℕ) (k f total : ℕ) → IsLayable file order → k < length order → f ≡ get_or order k 0
    → total ≡ min (beyond_number l) (own_by file l f + sum_of (total_in totals) (calls_in file.calls f))
    → AreFound file l (take k order) totals → AreFound file l (take (k + 1) order) (set totals f total)
found_more file order l totals k f total h lt e is before = record {
  same = length-set totals f total ∙ before.same;
  found = λ g c. by_case g (Contains-push_cases (take k order) f g (subst (λ (zs : List ℕ). Contains zs g) more c));
}
  where
    more : take (k + 1) order ≡ take k order ++ f ∷ []
    more = take_more order k 0 lt ∙ ap (λ n. take k order ++ n ∷ []) (sym e)

    within : f < length totals
    within = let P : ℕ → Type 0 = λ n. n < length file.functions in let b : f < length file.functions = subst P (sym e) (h.within k 0 lt) in omega (arith, b, before.same)

    called : (g : ℕ) → Contains (calls_in file.calls f) g → Contains (take k order) g
    called g c =
        let P : ℕ → Type 0 = λ n. All (Contains (take k order)) (calls_in file.calls n) in
        All-contains (Contains (take k order)) (calls_in file.calls f) g (subst P (sym e) (behind_at (calls_in file.calls) [] order k 0 h.callees_first lt)) c

    here : total ≡ min (beyond_number l) (total_of file l f)
    here =
        is ∙ capped_sums (beyond_number l) (own_by file l f) 0 0 (total_in totals) (total_of file l) (calls_in file.calls f) (λ g c. before.found g (called g c))
        ∙ ap (min (beyond_number l)) (sym (total_opens file order l h f))

    last : (g : ℕ) → g ≡ f → total_in (set totals f total) g ≡ min (beyond_number l) (total_of file l g)
    last g same = ap (λ n. get_or (set totals f total) n 0) same ∙ get_or-set_same totals f total 0 within ∙ here ∙ ap (λ n. min (beyond_number l) (total_of file l n)) (sym same)

    by_case : (g : ℕ) → Contains (take k order) g ⊎ (f ≡ g) → total_in (set totals f total) g ≡ min (beyond_number l) (total_of file l g)
    by_case g (inl c) = elim (cases_eq g f) [ inl same ↦ last g same | inr other ↦ get_or-set_other totals f g total 0 other ∙ before.found g c ]
    by_case g (inr same) = last g (sym same)

pub found_all : (file : TypedFileTree) (order : List ℕ) (l : Limit) (totals : List ℕ) (k : ℕ) → IsLayable file order → length order ≤ k → AreFound file l (take k order) totals → AreTotals file l totals
found_all file order l totals k h le found f lt =
    let P : List ℕ → Type 0 = λ zs. Contains zs f in
    found.found f (subst P (sym (take_all k order le)) (h.whole f lt))
