-- The live temporaries of a graph are lists.
use Rattle.std.specs.Prelude.{◌≡◌, ◌⊎◌, ℕ, ◌<◌, List, [], ◌∷◌, ◌++◌, get_or, Option, Some, None, Contains}
use Rattle.std.specs.List.Sorted.{IsStrictlyIncreasing}
use Rattle.std.proofs.Common.{sym, ap, subst, inl, inr}
use Rattle.std.proofs.lemmas.List.Elements.{Contains-append_left, Contains-append_right}
use Rattle.region_cells.specs.flow_graph.declared.graphs.Edge.{Edge}
use Rattle.region_cells.specs.flow_graph.Operations.{used, given}
use Rattle.region_cells.specs.flow_graph.Graphs.{Edges, Among, IsLive, by_use, by_flow}
use Rattle.region_cells.specs.graph_facts.Live.{AreLive}
use Rattle.configured_laws.proofs.Lists.{behind, first}
use Rattle.configured_laws.proofs.Choices.{Either, both, one_of, same_number, is_among, is_in, AreChosen, chosen, for_each}
use Rattle.configured_laws.proofs.Closures.{closure}

-- an operation does not give this temporary
not_given : (o : Option ℕ) (t : ℕ) → Either (o ≡ Some t → ⊥)
not_given None t = inl (λ e. cc)
not_given (Some u) t = elim (same_number u t) [
  | inl e ↦ inr (λ other. other (ap Some e))
  | inr apart ↦ inl (λ e. apart cc)
]

module _ (g : Edges) (t : ℕ) where
  -- where the temporary is live at the end of an edge, or used on it
  abbrev Brings : List ℕ → Edge → Type 0
  Brings nodes e = Among t (used e.op) ⊎ ((given e.op ≡ Some t → ⊥) × Contains nodes e.to)

  brings : (nodes : List ℕ) (e : Edge) → Either (Brings nodes e)
  brings nodes e =
      one_of (Among t (used e.op)) ((given e.op ≡ Some t → ⊥) × Contains nodes e.to) (is_among t (used e.op))
      (both (given e.op ≡ Some t → ⊥) (Contains nodes e.to) (not_given (given e.op) t) (is_in e.to nodes))

  brought : (nodes : List ℕ) (e : Edge) → Among e g → ((n : ℕ) → Contains nodes n → IsLive g t n) → Brings nodes e
      → IsLive g t e.from
  brought nodes e a has (inl u) = by_use e a u
  brought nodes e a has (inr flow) = by_flow e a flow.0 (has e.to flow.1)

  from : Edge → ℕ
  from e = e.from

  module _ (nodes : List ℕ)
      (closed : (e : Edge) → Among e g → Brings nodes e → Contains nodes e.from) where
    all_live : (n : ℕ) → IsLive g t n → Contains nodes n
    all_live _ (by_use e a u) = closed e a (inl u)
    all_live _ (by_flow e a other live) = closed e a (inr (other, all_live e.to live))

  live_at : (n : ℕ) → Either (IsLive g t n)
  live_at n =
      let r = closure (λ (e : Edge). e.from) Brings brings g (IsLive g t) brought in
      let nodes : List ℕ = r.0 in
      let is = r.1 in
      elim (is_in n nodes) [
        | inl c ↦ inl (is.has n c)
        | inr not ↦ inr (λ live. not (all_live nodes is.closed n live))
      ]

-- the temporaries that edges use
used_in : Edges → List ℕ
used_in [] = []
used_in (e ∷ g) = used e.op ++ used_in g

among_in : (t : ℕ) (ts : List ℕ) → Among t ts → Contains ts t
among_in t [] a = absurd a
among_in t (u ∷ ts) (inl e) = subst (Contains (u ∷ ts)) e (first u ts)
among_in t (u ∷ ts) (inr a) = behind u ts t (among_in t ts a)

use_in : (g : Edges) (e : Edge) (t : ℕ) → Among e g → Among t (used e.op) → Contains (used_in g) t
unfolding used_in
use_in [] e t a u = absurd a
use_in (d ∷ g) e t (inl same) u =
    Contains-append_left (used d.op) (used_in g) t
    (among_in t (used d.op) (subst (λ (f : Edge). Among t (used f.op)) (sym same) u))
use_in (d ∷ g) e t (inr a) u = Contains-append_right (used d.op) (used_in g) t (use_in g e t a u)

live_in : (g : Edges) (t n : ℕ) → IsLive g t n → Contains (used_in g) t
live_in g t _ (by_use e a u) = use_in g e t a u
live_in g t _ (by_flow e a other live) = live_in g t e.to live

module _ (g : Edges) (nodes : ℕ) where
  record IsRow (n : ℕ) (row : List ℕ) : Type 0 where
    rising : IsStrictlyIncreasing row
    has : (t : ℕ) → Contains row t → IsLive g t n
    all : (t : ℕ) → IsLive g t n → Contains row t

  row_of : (n : ℕ) → (row : List ℕ) × IsRow n row
  row_of n =
      let r = chosen (λ t. IsLive g t n) (λ t. live_at g t n) (used_in g) in
      let row : List ℕ = r.0 in
      let is : AreChosen (λ t. IsLive g t n) (used_in g) row = r.1 in (
        row,
        record { rising = is.rising; has = is.has; all = λ t live. is.all t (live_in g t n live) live },
      )

  pub some_live : (rows : List (List ℕ)) × AreLive g nodes rows
  some_live =
      let r = for_each nodes IsRow (λ n lt. row_of n) in
      let rows : List (List ℕ) = r.0 in
      let each : (n : ℕ) (d : List ℕ) → n < nodes → IsRow n (get_or rows n d) = r.2 in (
        rows,
        record {
          node_count = r.1;
          rising = λ n lt. (let is : IsRow n (get_or rows n []) = each n [] lt in is.rising);
          live = λ n lt t. (let is : IsRow n (get_or rows n []) = each n [] lt in (is.has t, is.all t));
        },
      )
