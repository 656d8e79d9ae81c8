-- Edges among others, and by their numbers.
use Rattle.std.proofs.Common.{◌≡◌, refl, sym, ap, subst, ◌∙◌, ℕ, zero, suc, ◌+◌, ◌<◌, inl, inr, Bool, true, false, cond, List, [], ◌∷◌, ◌++◌, length, get_or, set, arith}
use Rattle.std.specs.Prelude.{Contains, replicate, ◌==◌}
use Rattle.std.proofs.lemmas.Bool.{cases_eq, eq-eqb, ne_eqb}
use Rattle.std.proofs.lemmas.List.{length-set, length-replicate, get_or-replicate, get_or-set_same, get_or-set_other, append-nil}
use Rattle.std.proofs.lemmas.List.Elements.{Contains-get_or}
use Rattle.flow_graph.specs.declared.graphs.Edge.{Edge}
use Rattle.flow_graph.specs.Graphs.{Edges, Among}
use Rattle.graph_facts.specs.Leaving.{leaving_numbers, AreLeaving}

-- ## Among

pub contains_more : {A : Type 0} (x y : A) (xs : List A) → Contains xs x → Contains (y ∷ xs) x
contains_more x y xs c = (suc c.0, (let b = c.1 in omega (arith, b)), c.2)

pub contains_among : (e : Edge) (g : Edges) → Among e g → Contains g e
contains_among e [] a = absurd a
contains_among e (x ∷ g) (inl p) = (0, omega arith, p)
contains_among e (x ∷ g) (inr q) = contains_more e x g (contains_among e g q)

among_place : (e : Edge) (g : Edges) (k : ℕ) → k < length g → get_or g k e ≡ e → Among e g
among_place e [] k l p = absurd (omega arith)
among_place e (x ∷ g) zero l p = inl p
among_place e (x ∷ g) (suc k) l p = inr (among_place e g k (omega arith) p)

pub among_contains : (e : Edge) (g : Edges) → Contains g e → Among e g
among_contains e g c = among_place e g c.0 c.1 c.2

pub among_at : (g : Edges) (k : ℕ) (d : Edge) → k < length g → Among (get_or g k d) g
among_at g k d l = among_contains (get_or g k d) g (Contains-get_or g k d l)

-- ## The edges that leave a node

one_more : (b : Bool) (k : ℕ) (xs ys zs : List ℕ) → ys ≡ xs ++ zs → cond b (k ∷ ys) ys ≡ cond b (k ∷ xs) xs ++ zs
one_more true k xs ys zs e = ap (λ z. k ∷ z) e
one_more false k xs ys zs e = e

numbers_push : (k m : ℕ) (g : Edges) (e : Edge) (n : ℕ) → m ≡ k + length g → leaving_numbers k (g ++ e ∷ []) n ≡ leaving_numbers k g n ++ cond (e.from == n) (m ∷ []) []
numbers_push k m [] e n h = ap (λ z. cond (e.from == n) (z ∷ []) []) (let z : k ≡ m = omega (arith, h) in z)
numbers_push k m (x ∷ g) e n h =
    one_more (x.from == n) k (leaving_numbers (suc k) g n) (leaving_numbers (suc k) (g ++ e ∷ []) n) (cond (e.from == n) (m ∷ []) []) (numbers_push (suc k) m g e n (omega (arith, h)))

pub leaving_none : (nodes : ℕ) (lists : List (List ℕ)) → lists ≡ replicate nodes [] → AreLeaving [] nodes lists
leaving_none nodes lists e = record {
  node_count = ap length e ∙ length-replicate nodes [];
  numbers = λ n lt. ap (λ (z : List (List ℕ)). get_or z n []) e ∙ get_or-replicate nodes n [] [] lt;
}

pub leaving_more : (g : Edges) (e : Edge) (nodes k : ℕ) (lists : List (List ℕ)) → k ≡ length g → e.from < nodes → AreLeaving g nodes lists
    → AreLeaving (g ++ e ∷ []) nodes (set lists e.from (get_or lists e.from [] ++ k ∷ []))
leaving_more g e nodes k lists h within before = record {
  node_count = length-set lists e.from (get_or lists e.from [] ++ k ∷ []) ∙ before.node_count;
  numbers = λ n lt. at n lt;
}
  where
    at : (n : ℕ) → n < nodes → get_or (set lists e.from (get_or lists e.from [] ++ k ∷ [])) n [] ≡ leaving_numbers 0 (g ++ e ∷ []) n
    at n lt = elim (cases_eq n e.from) [
      | inl same ↦
          (let here : get_or (set lists e.from (get_or lists e.from [] ++ k ∷ [])) e.from [] ≡ get_or lists e.from [] ++ k ∷ [] =
          get_or-set_same lists e.from (get_or lists e.from [] ++ k ∷ []) [] (let b = before.node_count in omega (arith, within, b)) in
          let was = before.numbers e.from within in
          let is : leaving_numbers 0 (g ++ e ∷ []) e.from ≡ leaving_numbers 0 g e.from ++ k ∷ [] =
          numbers_push 0 k g e e.from (omega (arith, h)) ∙ ap (λ b. leaving_numbers 0 g e.from ++ cond b (k ∷ []) []) (eq-eqb e.from e.from refl) in
          let P : ℕ → Type 0 = λ i. get_or (set lists e.from (get_or lists e.from [] ++ k ∷ [])) i [] ≡ leaving_numbers 0 (g ++ e ∷ []) i in
          subst P (sym same) (here ∙ ap (λ z. z ++ k ∷ []) was ∙ sym is))
      | inr other ↦
          (let ne : e.from ≡ n → ⊥ = (λ p. other (sym p)) in
          get_or-set_other lists e.from n (get_or lists e.from [] ++ k ∷ []) [] other ∙ before.numbers n lt
          ∙ sym (numbers_push 0 k g e n (omega (arith, h)) ∙ ap (λ b. leaving_numbers 0 g n ++ cond b (k ∷ []) []) (ne_eqb e.from n ne) ∙ append-nil (leaving_numbers 0 g n)))
    ]
