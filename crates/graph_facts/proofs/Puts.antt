-- Temporaries are put into a list.
use Rattle.std.proofs.Common.{◌≡◌, refl, sym, ap, subst, ◌∙◌, ℕ, ◌^◌, ◌<◌, ◌≤◌, ◌⊎◌, inl, inr, List, [], ◌∷◌, ◌++◌, length, get_or, take, arith, Option, Some, None}
use Rattle.std.specs.Prelude.{Contains, option_to_list, Ok, Err}
use Rattle.std.specs.Ordering.{nat_cmp}
use Rattle.std.specs.List.Sorted.{IsBinarySearchResult}
use Rattle.std.specs.List.{insert}
use Rattle.std.proofs.lemmas.List.Edits.{length-insert}
use Rattle.std.proofs.lemmas.List.Elements.{Contains-push, Contains-push_cases, Contains-append_left, Contains-get_or}
use Rattle.std.proofs.lemmas.List.Sorted.{IsPermutation-insert, All-permutation, searched}
use Rattle.std.proofs.lemmas.List.Elements.{All-cons}
use Rattle.flow_graph.specs.declared.operations.Operation.{Operation}
use Rattle.flow_graph.specs.Operations.{used, given}
use Rattle.flow_graph.specs.Graphs.{Among}
use Rattle.graph_facts.specs.declared.uses.UsedTemporaries.{UsedTemporaries}
use Rattle.graph_facts.specs.Uses.{listed}
use Rattle.graph_facts.specs.reading.Live.{IsRisingList, Grew, HasPut, IsBehind, IsBrought}
use Rattle.graph_facts.proofs.Rising.{rising_insert, inserted, kept_by_insert, only_insert, rising_ordered}

pub put_there : (xs : List ℕ) (i x : ℕ) → IsRisingList xs → i < length xs → get_or xs i 0 ≡ x → HasPut (λ t. t ≡ x) xs xs
put_there xs i x r lt e = record {
  list = r;
  grew = inl refl;
  kept = λ t c. c;
  put = λ t p. (let P : ℕ → Type 0 = λ z. Contains xs z in subst P (e ∙ sym p) (contained xs i lt));
  only = λ t c. inl c;
}
  where
    contained : (ys : List ℕ) (k : ℕ) → k < length ys → Contains ys (get_or ys k 0)
    contained ys k l = Contains-get_or ys k 0 l

pub put_new : (xs ys : List ℕ) (i x : ℕ) → ys ≡ insert xs i x → IsRisingList xs → x < 2 ^ 32 → i ≤ length xs → ((k : ℕ) → k < i → get_or xs k 0 < x) → ((k : ℕ) → i ≤ k → k < length xs → x < get_or xs k 0)
    → HasPut (λ t. t ≡ x) xs ys
put_new xs ys i x e r small le below above = subst (λ (zs : List ℕ). HasPut (λ t. t ≡ x) xs zs) (sym e) (record {
  list = record {
    rising = rising_insert xs i x r.rising le below above;
    small = All-permutation (λ y. y < 2 ^ 32) (x ∷ xs) (insert xs i x) (IsPermutation-insert xs i x) (All-cons (λ y. y < 2 ^ 32) x xs small r.small);
  };
  grew = inr (let n = length-insert xs i x le in omega (arith, n));
  kept = λ t c. kept_by_insert xs i x t c;
  put = λ t p. (let P : ℕ → Type 0 = λ z. Contains (insert xs i x) z in subst P (sym p) (inserted xs i x));
  only = λ t c. only_insert xs i x t c;
})

pub put_searched : (xs found ys : List ℕ) (i x : ℕ) → found ≡ xs → ys ≡ insert xs i x → IsRisingList xs → x < 2 ^ 32 → IsBinarySearchResult (λ y. nat_cmp y x) found (Err i) → HasPut (λ t. t ≡ x) xs ys
put_searched xs found ys i x f e r small position =
    let h = subst (λ (zs : List ℕ). IsBinarySearchResult (λ y. nat_cmp y x) zs (Err i)) f position in
    let s = searched xs x (Err i) h (rising_ordered xs r.rising) in
    put_new xs ys i x e r small s.0 s.1 s.2

pub put_found : (xs found : List ℕ) (i x : ℕ) → found ≡ xs → IsRisingList xs → IsBinarySearchResult (λ y. nat_cmp y x) found (Ok i) → HasPut (λ t. t ≡ x) xs xs
put_found xs found i x f r position =
    let h = subst (λ (zs : List ℕ). IsBinarySearchResult (λ y. nat_cmp y x) zs (Ok i)) f position in
    let s = searched xs x (Ok i) h (rising_ordered xs r.rising) in
    put_there xs i x r s.0 s.1

pub put_nothing : (P : ℕ → Type 0) (xs : List ℕ) → IsRisingList xs → ((t : ℕ) → P t → ⊥) → HasPut P xs xs
put_nothing P xs r none = record { list = r; grew = inl refl; kept = λ t c. c; put = λ t p. absurd (none t p); only = λ t c. inl c }

grew_both : (xs ys zs : List ℕ) → Grew xs ys → Grew ys zs → Grew xs zs
grew_both xs ys zs (inl a) (inl b) = inl (b ∙ a)
grew_both xs ys zs (inl a) (inr b) = inr (let n = ap length a in omega (arith, n, b))
grew_both xs ys zs (inr a) (inl b) = inr (let n = ap length b in omega (arith, n, a))
grew_both xs ys zs (inr a) (inr b) = inr (omega (arith, a, b))

pub put_both : (P Q R : ℕ → Type 0) (xs ys zs : List ℕ) → ((t : ℕ) → R t → P t ⊎ Q t) → ((t : ℕ) → P t → R t) → ((t : ℕ) → Q t → R t) → HasPut P xs ys → HasPut Q ys zs → HasPut R xs zs
put_both P Q R xs ys zs parts first second p q = record {
  list = q.list;
  grew = grew_both xs ys zs p.grew q.grew;
  kept = λ t c. q.kept t (p.kept t c);
  put = λ t r. elim (parts t r) [ inl a ↦ q.kept t (p.put t a) | inr b ↦ q.put t b ];
  only = λ t c. elim (q.only t c) [
    | inl a ↦ elim (p.only t a) [ inl b ↦ inl b | inr b ↦ inr (first t b) ]
    | inr b ↦ inr (second t b)
  ];
}

pub put_as : (P Q : ℕ → Type 0) (xs ys : List ℕ) → ((t : ℕ) → P t → Q t) → ((t : ℕ) → Q t → P t) → HasPut P xs ys → HasPut Q xs ys
put_as P Q xs ys forth back p = record {
  list = p.list;
  grew = p.grew;
  kept = p.kept;
  put = λ t q. p.put t (back t q);
  only = λ t c. elim (p.only t c) [ inl a ↦ inl a | inr b ↦ inr (forth t b) ];
}

-- ## What is live behind an edge

no_number : (t : ℕ) → Contains [] t → ⊥
no_number t c = let b = c.1 in omega (arith, b)

pub behind_none : (op : Operation) (xs behind : List ℕ) → IsRisingList xs → HasPut (IsBehind op (take 0 behind)) xs xs
behind_none op xs behind r = put_nothing (IsBehind op []) xs r (λ t b. no_number t b.0)

pub behind_more : (op : Operation) (behind more xs ys zs : List ℕ) (x : ℕ) → more ≡ behind ++ x ∷ [] → (given op ≡ Some x → ⊥) → HasPut (IsBehind op behind) xs ys → HasPut (λ t. t ≡ x) ys zs
    → HasPut (IsBehind op more) xs zs
behind_more op behind more xs ys zs x e n p q =
    subst (λ (b : List ℕ). HasPut (IsBehind op b) xs zs) (sym e)
    (put_both (IsBehind op behind) (λ t. t ≡ x) (IsBehind op (behind ++ x ∷ [])) xs ys zs
    (λ t r. elim (Contains-push_cases behind x t r.0) [ inl c ↦ inl (c, r.1) | inr s ↦ inr (sym s) ])
    (λ t r. (Contains-append_left behind (x ∷ []) t r.0, r.1))
    (λ t s. let P : ℕ → Type 0 = λ z. IsBehind op (behind ++ x ∷ []) z in subst P (sym s) (Contains-push behind x, n))
    p q)

pub behind_given : (op : Operation) (behind more xs ys : List ℕ) (x : ℕ) → more ≡ behind ++ x ∷ [] → given op ≡ Some x → HasPut (IsBehind op behind) xs ys → HasPut (IsBehind op more) xs ys
behind_given op behind more xs ys x e is p =
    subst (λ (b : List ℕ). HasPut (IsBehind op b) xs ys) (sym e)
    (put_as (IsBehind op behind) (IsBehind op (behind ++ x ∷ [])) xs ys
    (λ t r. (Contains-append_left behind (x ∷ []) t r.0, r.1))
    (λ t r. elim (Contains-push_cases behind x t r.0) [ inl c ↦ (c, r.1) | inr s ↦ absurd (r.1 (is ∙ ap Some s)) ])
    p)

-- ## What an edge brings

among_both : (o p : Option ℕ) (t : ℕ) → Among t (option_to_list o ++ option_to_list p) → (o ≡ Some t) ⊎ (p ≡ Some t)
among_both None None t a = absurd a
among_both None (Some y) t (inl e) = inr (ap Some e)
among_both None (Some y) t (inr a) = absurd a
among_both (Some x) None t (inl e) = inl (ap Some e)
among_both (Some x) None t (inr a) = absurd a
among_both (Some x) (Some y) t (inl e) = inl (ap Some e)
among_both (Some x) (Some y) t (inr (inl e)) = inr (ap Some e)
among_both (Some x) (Some y) t (inr (inr a)) = absurd a

same_some : (x t : ℕ) → Some x ≡ Some t → x ≡ t
same_some x t e = cc

among_first : (o p : Option ℕ) (t : ℕ) → o ≡ Some t → Among t (option_to_list o ++ option_to_list p)
among_first None p t e = absurd cc
among_first (Some x) p t e = inl (same_some x t e)

among_second : (o p : Option ℕ) (t : ℕ) → p ≡ Some t → Among t (option_to_list o ++ option_to_list p)
among_second o None t e = absurd cc
among_second None (Some y) t e = inl (same_some y t e)
among_second (Some x) (Some y) t e = inr (inl (same_some y t e))

pub brought_by : (op : Operation) (uses : UsedTemporaries) (behind ws xs ys zs : List ℕ) → listed uses ≡ used op → HasPut (λ t. uses.first ≡ Some t) ws xs → HasPut (λ t. uses.second ≡ Some t) xs ys
    → HasPut (IsBehind op behind) ys zs → HasPut (IsBrought op behind) ws zs
brought_by op uses behind ws xs ys zs e p q r =
    put_both (λ t. Among t (used op)) (IsBehind op behind) (IsBrought op behind) ws ys zs (λ t b. b) (λ t a. inl a) (λ t b. inr b)
    (put_both (λ t. uses.first ≡ Some t) (λ t. uses.second ≡ Some t) (λ t. Among t (used op)) ws xs ys
    (λ t a. among_both uses.first uses.second t (subst (λ (us : List ℕ). Among t us) (sym e) a))
    (λ t s. subst (λ (us : List ℕ). Among t us) e (among_first uses.first uses.second t s))
    (λ t s. subst (λ (us : List ℕ). Among t us) e (among_second uses.first uses.second t s))
    p q) r
