-- The memory at the entry, and how many temporaries there are.
use Rattle.std.proofs.Common.{◌≡◌, refl, sym, ap, subst, ◌∙◌, ℕ, zero, suc, ◌+◌, ◌<◌, ◌≤◌, inl, inr, cond, List, length, get_or, set, take, arith, Option, Some, None}
use Rattle.std.specs.Prelude.{replicate, IfSome}
use Rattle.std.proofs.lemmas.Bool.{cases_lt, eq-eqb, ne_eqb}
use Rattle.std.proofs.lemmas.List.{length-replicate, get_or-replicate, get_or_past, get_or-set_same, get_or-set_other}
use Rattle.std.proofs.lemmas.List.Elements.{All-more, All-weaker}
use Rattle.concrete_values.specs.declared.values.Value.{Value}
use Rattle.concrete_values.specs.Values.{nothing}
use Rattle.flow_graph.specs.declared.graphs.Edge.{Edge}
use Rattle.flow_graph.specs.Operations.{Temps, put_at, given}
use Rattle.flow_graph.specs.Graphs.{Edges}
use Rattle.flow_graph.specs.Runs.{Memory, at_entry}
use Rattle.graph_positions.specs.Memories.{temps_of}
use Rattle.graph_positions.specs.Positions.{IsWide}

same_everywhere : {A : Type 0} (count i : ℕ) (a : A) → get_or (replicate count a) i a ≡ a
same_everywhere count i a = elim (cases_lt i count) [
  | inl lt ↦ get_or-replicate count i a a lt
  | inr ge ↦ get_or_past (replicate count a) i a (let e = length-replicate count a in omega (arith, e, ge))
]

extended : {A : Type 0} {B : Type 0} (f g : A → B) → ((x : A) → f x ≡ g x) → f ≡ g
extended f g h = λ i x. h x i

memory_with : Temps → (ℕ → ℕ) → Memory
memory_with t s = record { temps = t; used = 0; seen = s }

seen_at : (nodes n : ℕ) (ss : List ℕ) → ss ≡ replicate nodes 0 → 0 < nodes → get_or (set ss 0 1) n 0 ≡ put_at 0 1 (λ k. 0) n
seen_at nodes zero ss e lt =
    get_or-set_same ss 0 1 0 (let a = ap length e in let b = length-replicate {A = ℕ} nodes 0 in omega (arith, a, b, lt)) ∙ sym (ap (λ b. cond b 1 0) (eq-eqb 0 0 refl))
seen_at nodes (suc n) ss e lt =
    get_or-set_other ss 0 (suc n) 1 0 (λ p. omega (arith, p)) ∙ ap (λ xs. get_or xs (suc n) 0) e ∙ same_everywhere nodes (suc n) 0
    ∙ sym (ap (λ b. cond b 1 0) (ne_eqb 0 (suc n) (λ p. omega (arith, p))))

pub entry_memory : (vs : List Value) (ss : List ℕ) (count nodes : ℕ) → vs ≡ replicate count nothing → ss ≡ replicate nodes 0 → 0 < nodes
    → record { temps = temps_of vs; used = 0; seen = λ n. get_or (set ss 0 1) n 0 } ≡ at_entry
unfolding memory_with
entry_memory vs ss count nodes e f lt =
    ap (λ (t : Temps). memory_with t (λ n. get_or (set ss 0 1) n 0)) (extended (temps_of vs) (λ t. nothing) (λ t. ap (λ (xs : List Value). get_or xs t nothing) e ∙ same_everywhere count t nothing))
    ∙ ap (λ (s : ℕ → ℕ). memory_with (λ t. nothing) s) (extended (λ n. get_or (set ss 0 1) n 0) (put_at 0 1 (λ k. 0)) (λ n. seen_at nodes n ss f lt))

-- ## Temporaries

same_some : (x t : ℕ) → Some x ≡ Some t → x ≡ t
same_some x t e = cc

of_some : (o : Option ℕ) (P : ℕ → Type 0) (t : ℕ) → IfSome o P → o ≡ Some t → P t
of_some None P t h e = absurd cc
of_some (Some x) P t h e = subst P (same_some x t e) h

pub wide_more : (g : Edges) (i count more : ℕ) (e : Edge) (to : Option ℕ) → i < length g → e ≡ get_or g i e → to ≡ given e.op → count ≤ more → IfSome to (λ t. t < more) → IsWide (take i g) count
    → IsWide (take (i + 1) g) more
wide_more g i count more e to lt is gives le some before =
    let P : ℕ → Edge → Type 0 = λ n x. (t : ℕ) → given x.op ≡ Some t → t < n in
    let here : P more e = λ t h. of_some to (λ k. k < more) t some (gives ∙ h) in
    All-more (P more) g i e lt (All-weaker (P count) (P more) (λ x h t f. let a = h t f in omega (arith, a, le)) (take i g) before) (subst (P more) is here)
