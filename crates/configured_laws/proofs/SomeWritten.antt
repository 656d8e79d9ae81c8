-- The cells that are written in the regions of heads are lists.
use Rattle.std.specs.Prelude.{◌≡◌, ℕ, zero, suc, ◌+◌, ◌<◌, ◌≤◌, Bool, true, false, List, [], ◌∷◌, length, get_or}
use Rattle.std.specs.Prelude.{Contains}
use Rattle.std.proofs.Common.{refl, sym, subst, inl, inr, arith, true≢false}
use Rattle.std.proofs.lemmas.Bool.{cases_lt}
use Rattle.std.proofs.lemmas.List.{get_or_default}
use Rattle.region_cells.specs.tm_typed.declared.types.Scalar.{Scalar}
use Rattle.region_cells.specs.tm_laid.Layouts.{LaidTree, object_at, abstract_at, is_same_scalar}
use Rattle.region_cells.specs.flow_graph.declared.graphs.Edge.{Edge}
use Rattle.region_cells.specs.flow_graph.declared.operations.Into.{Into}
use Rattle.region_cells.specs.flow_graph.declared.operations.Into.TheVariants as Intos
use Rattle.region_cells.specs.flow_graph.declared.operations.Operation.{Operation}
use Rattle.region_cells.specs.flow_graph.declared.operations.Operation.TheVariants as Op
use Rattle.region_cells.specs.flow_graph.Graphs.{Edges, IsInRegion, IsOfObject, StoresInto}
use Rattle.region_cells.specs.flow_graph.Graphs.{WritesCell, IsWritten}
use Rattle.region_cells.specs.graph_facts.declared.regions.Head.{Head}
use Rattle.region_cells.specs.graph_facts.Heads.{IsHeadUpTo, AreHeads}
use Rattle.region_cells.specs.Written.{AreWritten, AreAllWritten}
use Rattle.configured_laws.proofs.Lists.{behind, first}
use Rattle.configured_laws.proofs.Choices.{Either, both, at_most, some_among, AreChosen, chosen, for_each}

is_less : (m n : ℕ) → Either (m < n)
is_less m n = elim (cases_lt m n) [
  | inl less ↦ inl less
  | inr least ↦ inr (λ less. omega (arith, least, less))
]

is_true : (b : Bool) → Either (b ≡ true)
is_true true = inl refl
is_true false = inr (λ e. true≢false (sym e))

-- the numbers below this one
below : ℕ → List ℕ
below zero = []
below (suc n) = n ∷ below n

in_below : (n k : ℕ) → k < n → Contains (below n) k
unfolding below
in_below zero k lt = absurd (omega (arith, lt))
in_below (suc n) k lt = elim (cases_lt k n) [
  | inl less ↦ behind n (below n) k (in_below n k less)
  | inr least ↦
      (let same : n ≡ k = omega (arith, lt, least) in subst (Contains (n ∷ below n)) same (first n (below n)))
]

module _ (laid : LaidTree) where
  is_of_object : (object cell : ℕ) → Either (IsOfObject laid object cell)
  is_of_object object cell =
      both ((object_at laid object).first_abstract ≤ cell)
      (cell < (object_at laid object).first_abstract + (object_at laid object).abstract_cells)
      (at_most (object_at laid object).first_abstract cell)
      (is_less cell ((object_at laid object).first_abstract + (object_at laid object).abstract_cells))

  is_stored : (scalar : Scalar) (into : Into) (cell : ℕ) → Either (StoresInto laid scalar into cell)
  is_stored scalar (Intos.Object object) cell = is_of_object object cell
  is_stored scalar Intos.Pointed cell = is_true (is_same_scalar (abstract_at laid cell).scalar scalar)

  is_writing : (op : Operation) (cell : ℕ) → Either (WritesCell laid op cell)
  is_writing (Op.Store address value scalar into place) cell = is_stored scalar into cell
  is_writing (Op.Clear object) cell = is_of_object object cell
  is_writing _ cell = inr (λ w. w)

  module _ (g : Edges) (h : Head) (up : IsHeadUpTo g h) where
    is_inside : (n : ℕ) → Either (IsInRegion g h.node n)
    is_inside n = elim (both (h.node ≤ n) (n ≤ h.last) (at_most h.node n) (at_most n h.last)) [
      | inl within ↦ inl ((up.region n).1 within)
      | inr not ↦ inr (λ r. not ((up.region n).0 r))
    ]

    abbrev WritesHere : ℕ → Edge → Type 0
    WritesHere cell e = IsInRegion g h.node e.from × WritesCell laid e.op cell

    is_written : (cell : ℕ) → Either (IsWritten laid g h.node cell)
    is_written cell =
        elim (some_among (WritesHere cell) (λ (e : Edge). both (IsInRegion g h.node e.from) (WritesCell laid e.op cell)
        (is_inside e.from) (is_writing e.op cell)) g) [
          | inl (e, a, w) ↦ inl (record { edge = e; among = a; inside = w.0; writes = w.1 })
          | inr none ↦ inr (λ w. none (w.edge, w.among, (w.inside, w.writes)))
        ]

    abbrev IsHere : ℕ → Type 0
    IsHere cell = (cell < length laid.abstract_cells) × IsWritten laid g h.node cell

    cells_of : (cells : List ℕ) × AreWritten laid g h.node cells
    cells_of =
        let c = chosen IsHere (λ cell. both (cell < length laid.abstract_cells) (IsWritten laid g h.node cell)
        (is_less cell (length laid.abstract_cells)) (is_written cell)) (below (length laid.abstract_cells)) in
        let cells : List ℕ = c.0 in
        let are : AreChosen IsHere (below (length laid.abstract_cells)) cells = c.1 in (
          cells,
          record {
            rising = are.rising;
            written = λ cell.
                (are.has cell, λ here. are.all cell (in_below (length laid.abstract_cells) cell here.0) here);
          },
        )

  pub some_written : (g : Edges) (heads : List Head) → AreHeads g heads
      → (lists : List (List ℕ)) × AreAllWritten laid g heads lists
  some_written g heads are =
      let no_head : Head = record { node = 0; last = 0 } in
      let Q : ℕ → List ℕ → Type 0 = λ k cells. (d : Head) → AreWritten laid g (get_or heads k d).node cells in
      let r = for_each (length heads) Q (λ k lt. row k lt) in
      let lists : List (List ℕ) = r.0 in (
        lists,
        record { count = r.1; each = λ k d lt. r.2 k [] lt d },
      )
    where
      row : (k : ℕ) → k < length heads
          → (cells : List ℕ) × ((d : Head) → AreWritten laid g (get_or heads k d).node cells)
      row k lt =
          let no_head : Head = record { node = 0; last = 0 } in
          let h : Head = get_or heads k no_head in
          let c = cells_of g h (are.each k no_head lt) in (
            c.0,
            λ d. subst (λ (x : Head). AreWritten laid g x.node c.0) (get_or_default heads k no_head d lt) c.1,
          )
