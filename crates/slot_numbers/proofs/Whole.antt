-- A slot that is found, and what the lists are together.
use Rattle.std.proofs.Common.{◌≡◌, ℕ, ◌+◌, ◌-◌, ◌^◌, ◌<◌, ◌≤◌, true, false, List, [], map, length, get_or, sym, ap, ◌∙◌, subst, arith, Result, Ok, Err}
use Rattle.std.specs.Prelude.{MatchResult}
use Rattle.std.specs.List.Sorted.{IsStrictlyIncreasing, IsBinarySearchResult}
use Rattle.std.specs.Ordering.{nat_cmp}
use Rattle.std.proofs.lemmas.List.{get_or_default}
use Rattle.cell_placings.specs.declared.cell_graphs.CellGraph.{CellGraph}
use Rattle.cell_placings.specs.CellLists.{is_in, cells_at}
use Rattle.cell_placings.specs.OwnerTrees.{OwnerTree}
use Rattle.slot_numbers.specs.declared.names.FlowingCell.{FlowingCell}
use Rattle.front_constraints.specs.Systems.{open_at, slot_at}
use Rattle.slot_numbers.specs.declared.names.OwnedCell.{OwnedCell}
use Rattle.slot_numbers.specs.Numberings.{VariableLists, has_slot, place_in, number_of, rule_of, count_of, variable_of}
use Rattle.slot_numbers.specs.Numberings.{slot_in, no_slot}
use Rattle.slot_numbers.specs.laws.Kinds.{variable_open, variable_slot}
use Rattle.slot_numbers.specs.Numbered.{IsNumberable, AreVariables, AreFlows, IsNumbering, edges, targets_on, sources_on}
use Rattle.slot_numbers.specs.reading.Building.{AreHeld, AreTargets, AreReaders, AreWhole, numbering_of}
use Rattle.slot_numbers.proofs.Lists.{place_found}

module _ (first count : ℕ) (v : VariableLists) (held : AreHeld first count v) (node cell : ℕ) where
  -- what a search among the cells of a node says
  slot_searched : (own : List ℕ) → IsStrictlyIncreasing own → node < length v.owned → own ≡ get_or v.owned node own
      → (r : Result ℕ ℕ) → IsBinarySearchResult (λ y. nat_cmp y cell) own r
      → MatchResult r (λ i. (has_slot v node cell ≡ true) × (i ≡ place_in (cells_at v.owned node) cell))
      (λ i. has_slot v node cell ≡ false)
  slot_searched own rising lt read r answer =
      subst (λ ys. MatchResult r (λ i. (is_in ys cell ≡ true) × (i ≡ place_in ys cell)) (λ i. is_in ys cell ≡ false))
      (read ∙ get_or_default v.owned node own [] lt) (place_found own rising cell r answer)

  pub slot_missed : (own : List ℕ) → IsStrictlyIncreasing own → node < length v.owned → own ≡ get_or v.owned node own
      → (i : ℕ) → IsBinarySearchResult (λ y. nat_cmp y cell) own (Err i) → has_slot v node cell ≡ false
  slot_missed own rising lt read i answer = slot_searched own rising lt read (Err i) answer

  pub slot_found : (own : List ℕ) → IsStrictlyIncreasing own → node < length v.owned → own ≡ get_or v.owned node own
      → (i : ℕ) → IsBinarySearchResult (λ y. nat_cmp y cell) own (Ok i) → (start : ℕ)
      → start ≡ get_or v.starts node start
      → (has_slot v node cell ≡ true) × (first + (start + i) < 2 ^ 64)
      × (first + (start + i) ≡ number_of v (slot_at node cell))
  slot_found own rising lt read i answer start begun =
      let m = slot_searched own rising lt read (Ok i) answer in
      let within : node < length v.starts = subst (λ n. node < n) (sym held.laid.starts_each) lt in
      let at : start ≡ get_or v.starts node 0 = begun ∙ get_or_default v.starts node start 0 within in
      let l = (held.laid.placed node cell lt m.0).0 in
      let is = m.1 in (
        m.0,
        (let c = held.count_is in let f = held.fits in omega (arith, l, is, at, c, f)),
        (let f = held.first_is in omega (arith, is, at, f)),
      )

-- what is read at a number
module _ (first : ℕ) (v : VariableLists) (i : ℕ) (is : first ≡ v.nodes + v.edges) where
  pub open_read : v.nodes ≤ i → i < first → open_at (i - v.nodes) ≡ variable_of v i
  open_read le lt =
      let same : v.nodes + (i - v.nodes) ≡ i = omega (arith, le) in
      let below : i - v.nodes < v.edges = omega (arith, le, lt, is) in
      subst (λ z. open_at (i - v.nodes) ≡ variable_of v z) same (sym (variable_open v (i - v.nodes) below))

  pub slot_read : first ≤ i → i < count_of v → (s : OwnedCell) → s ≡ get_or v.slots (i - first) s
      → slot_at s.node s.cell ≡ variable_of v i
  slot_read le lt s read =
      let same : v.nodes + v.edges + (i - first) ≡ i = omega (arith, le, is) in
      let below : i - first < length v.slots = omega (arith, le, lt, is) in
      ap (λ (z : OwnedCell). slot_at z.node z.cell) (read ∙ get_or_default v.slots (i - first) s no_slot below)
      ∙ subst (λ z. slot_in v.slots (i - first) ≡ variable_of v z) same (sym (variable_slot v (i - first)))

module _ (graph : CellGraph) (tree : OwnerTree) (cells : List ℕ) (v : VariableLists) (flows : List FlowingCell)
    (targets readers : List (List ℕ)) (a : AreVariables graph tree cells v) (count : ℕ)
    (is : count ≡ edges graph + 1 + length flows)
    (t : AreTargets graph cells v flows (edges graph + 1 + length flows) targets)
    (r : AreReaders graph tree v flows count count readers) where
  counted : count ≡ v.edges + 1 + length flows
  counted = is ∙ ap (λ e. e + 1 + length flows) (sym a.edges_each)

  pub are_whole : AreWhole (numbering_of v flows targets readers)
  are_whole = record {
    targets_each = t.each ∙ ap (λ e. e + 1 + length flows) (sym a.edges_each);
    readers_each = r.each;
  }

  pub numbering_is : IsNumberable graph tree cells → AreFlows graph tree cells flows
      → IsNumbering graph tree cells (numbering_of v flows targets readers)
  numbering_is numberable are = record {
    numberable = numberable;
    variables = a;
    flows = are;
    targets =
        subst (λ e. (k : ℕ) → k < e + 1 + length flows
        → cells_at targets k ≡ map (number_of v) (targets_on graph cells (rule_of e flows k))) (sym a.edges_each) t.are;
    within = λ i k e. subst (λ z. k < z) counted (r.within i k e);
    readers =
        subst (λ e. (k i : ℕ) → k < e + 1 + length flows
        → is_in (map (number_of v) (sources_on graph tree (rule_of e flows k))) i ≡ true
        → is_in (cells_at readers i) k ≡ true) (sym a.edges_each)
        (λ k i lt e. r.are k i (subst (λ z. k < z) (sym is) lt) e);
  }
