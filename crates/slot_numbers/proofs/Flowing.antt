-- The flows of one more edge, and the targets and readers of one more constraint.
use Rattle.std.proofs.Common.{◌≡◌, ℕ, zero, suc, ◌+◌, ◌-◌, ◌<◌, ◌==◌, Bool, true, false, not, ◌&&◌, List, [], ◌∷◌, ◌++◌, map, replicate, length, get_or, refl, sym, ap, ◌∙◌, subst, arith, inl, inr}
use Rattle.std.specs.List.{filter}
use Rattle.std.proofs.lemmas.Bool.{cases_lt, cases_Bool, and_parts, and_from, or_cases, eqb-true}
use Rattle.std.proofs.lemmas.List.{get_or_append_left, get_or_push, get_or-append-add, get_or-map, get_or_default, length-append, length-map, length-replicate}
use Rattle.table_covers.specs.declared.links.Link.{Link}
use Rattle.table_covers.specs.Systems.{from_of, to_of, no_link}
use Rattle.front_constraints.specs.Systems.{Rule, entered, row, flow, slot_at}
use Rattle.cell_placings.specs.declared.cell_graphs.CellGraph.{CellGraph}
use Rattle.cell_placings.specs.CellLists.{is_in, cells_at}
use Rattle.cell_placings.specs.OwnerTrees.{OwnerTree, owns_in, kept_in, placing_of}
use Rattle.cell_placings.specs.Placed.{IsCellPlaced}
use Rattle.cell_placings.proofs.Members.{in_at, place_of, or_right}
use Rattle.slot_numbers.specs.declared.names.FlowingCell.{FlowingCell}
use Rattle.slot_numbers.specs.Numberings.{VariableLists, along_edge, no_flow, rule_of, number_of, has_slot, count_of}
use Rattle.slot_numbers.specs.Numbered.{AreEnds, IsNumberable, AreVariables, AreFlowsOf, AreFlows, IsRuleOf, is_own}
use Rattle.slot_numbers.specs.Numbered.{is_flow, edges, targets_on, sources_on}
use Rattle.slot_numbers.specs.reading.Building.{AreTargets, AreNoted, AreReaders}
use Rattle.slot_numbers.specs.laws.Kinds.{by_rule}
use Rattle.slot_numbers.proofs.Lists.{in_filter}

-- an edge that is read
pub to_read : (links : List Link) (e : ℕ) (l : Link) → e < length links → l ≡ get_or links e l → l.to ≡ to_of links e
to_read links e l lt read = ap (λ (z : Link). z.to) (read ∙ get_or_default links e l no_link lt)

pub from_read : (links : List Link) (e : ℕ) (l : Link) → e < length links → l ≡ get_or links e l
    → l.from ≡ from_of links e
from_read links e l lt read = ap (λ (z : Link). z.from) (read ∙ get_or_default links e l no_link lt)

module _ (graph : CellGraph) (tree : OwnerTree) (cells : List ℕ) where
  abbrev is_untouched : ℕ → ℕ → Bool
  is_untouched m x = not (is_in (cells_at graph.touched.items m) x)

  -- ## Flows

  module _ (m : ℕ) (flows : List FlowingCell) (own : List ℕ)
      (has : (x : ℕ) → is_in own x ≡ is_own graph tree cells (to_of graph.links.items m) x)
      (before : AreFlowsOf graph tree cells m flows) where
    abbrev added : List ℕ
    added = filter (is_untouched m) own

    abbrev flows' : List FlowingCell
    flows' = flows ++ map (along_edge m) added

    are_added : (x : ℕ) → is_in added x ≡ is_flow graph tree cells m x
    are_added x = in_filter (is_untouched m) own x ∙ ap (λ b. b && is_untouched m x) (has x)

    more : length flows' ≡ length flows + length added
    more = length-append flows (map (along_edge m) added) ∙ ap (λ z. length flows + z) (length-map added (along_edge m))

    earlier : (i : ℕ) → i < length flows → get_or flows' i no_flow ≡ get_or flows i no_flow
    earlier i lt = get_or_append_left flows (map (along_edge m) added) no_flow i lt

    last : (j : ℕ) → j < length added → get_or flows' (length flows + j) no_flow ≡ along_edge m (get_or added j 0)
    last j lt =
        get_or-append-add flows (map (along_edge m) added) j no_flow
        ∙ get_or-map (along_edge m) added j 0 no_flow lt

    abbrev IsFlowAt : FlowingCell → Type 0
    IsFlowAt f = (f.edge < m + 1) × (is_flow graph tree cells f.edge f.cell ≡ true)

    each : (i : ℕ) → i < length flows' → IsFlowAt (get_or flows' i no_flow)
    each i lt =
        elim (cases_lt i (length flows)) [
          | inl l ↦ (let h = before.edge i l in
              subst IsFlowAt (sym (earlier i l)) (omega (arith, h), before.flow i l))
          | inr ge ↦ (let j = i - length flows in
              let same : length flows + j ≡ i = omega (arith, ge) in
              let below : j < length added = omega (arith, ge, lt, more) in
              subst (λ z. IsFlowAt (get_or flows' z no_flow)) same
              (subst IsFlowAt (sym (last j below))
              (omega arith, sym (are_added (get_or added j 0)) ∙ in_at added j below)))
        ]

    abbrev IsListed : ℕ → ℕ → Type 0
    IsListed e x = (i : ℕ) × ((i < length flows') × (get_or flows' i no_flow ≡ along_edge e x))

    earlier_listed : (e x : ℕ) → e < m → is_flow graph tree cells e x ≡ true → IsListed e x
    earlier_listed e x lt is =
        let at = before.all e x lt is in
        let l = at.1.0 in
        (at.0, (omega (arith, l, more), earlier at.0 at.1.0 ∙ at.1.1))

    last_listed : (x : ℕ) → is_flow graph tree cells m x ≡ true → IsListed m x
    last_listed x is =
        let p = place_of added x (are_added x ∙ is) in
        let l = p.1 in
        (length flows + p.0, (omega (arith, l, more), last p.0 p.1 ∙ ap (along_edge m) p.2))

    all : (e x : ℕ) → e < m + 1 → is_flow graph tree cells e x ≡ true → IsListed e x
    all e x lt is =
        elim (cases_lt e m) [
          | inl l ↦ earlier_listed e x l is
          | inr ge ↦ (let same : m ≡ e = omega (arith, ge, lt) in
              subst (λ z. is_flow graph tree cells z x ≡ true → IsListed z x) same (last_listed x) is)
        ]

    pub flows_more : (new : List FlowingCell) → new ≡ flows' → AreFlowsOf graph tree cells (m + 1) new
    flows_more new is =
        subst (AreFlowsOf graph tree cells (m + 1)) (sym is)
        record { edge = λ i lt. (each i lt).0; flow = λ i lt. (each i lt).1; all = all }

  pub flows_begun : (flows : List FlowingCell) → flows ≡ [] → AreFlowsOf graph tree cells 0 flows
  flows_begun flows is =
      subst (AreFlowsOf graph tree cells 0) (sym is)
      record {
        edge = λ i lt. absurd (omega (arith, lt));
        flow = λ i lt. absurd (omega (arith, lt));
        all = λ e x lt. absurd (omega (arith, lt));
      }

  -- each number below their count is that of a constraint
  pub rule_fits : (flows : List FlowingCell) → AreFlows graph tree cells flows → (k : ℕ)
      → k < edges graph + 1 + length flows → IsRuleOf graph tree cells (rule_of (edges graph) flows k)
  rule_fits flows are =
      by_rule (edges graph) flows (λ k r. IsRuleOf graph tree cells r) tt (λ e lt. lt)
      (λ j lt. (are.edge j lt, are.flow j lt))

  -- ## What placed cells give

  pub ends_of : IsCellPlaced graph (placing_of graph tree) → AreEnds graph
  ends_of p = record { some_node = p.some_node; from_node = p.from_node; to_node = p.to_node }

  module _ (v : VariableLists) (a : AreVariables graph tree cells v) where
    has_own : (n x : ℕ) → n < graph.nodes → is_in cells x ≡ true → owns_in tree n x ≡ true → has_slot v n x ≡ true
    has_own n x lt is owns = a.owned n x lt ∙ and_from (is_in cells x) (owns_in tree n x) is owns

    -- node 0 has a slot of each cell that counts
    pub entry_has : AreEnds graph → (x : ℕ) → is_in cells x ≡ true → has_slot v 0 x ≡ true
    entry_has ends x is = has_own 0 x ends.some_node is refl

    -- the end of an edge has one of each that passes the edge
    pub flow_has : AreEnds graph → (e x : ℕ) → e < edges graph → is_flow graph tree cells e x ≡ true
        → has_slot v (to_of graph.links.items e) x ≡ true
    flow_has ends e x lt is =
        a.owned (to_of graph.links.items e) x (ends.to_node e lt)
        ∙ (and_parts (is_own graph tree cells (to_of graph.links.items e) x) (is_untouched e x) is).0

    module _ (p : IsCellPlaced graph (placing_of graph tree)) where
      -- and of each that the edge touches
      pub touched_has : IsNumberable graph tree cells → (e x : ℕ) → e < edges graph
          → is_in (cells_at graph.touched.items e) x ≡ true → has_slot v (to_of graph.links.items e) x ≡ true
      touched_has c e x lt is =
          has_own (to_of graph.links.items e) x (p.to_node e lt) (c.touched e x lt is)
          (elim (cases_Bool (owns_in tree (to_of graph.links.items e) x)) [
            | inl h ↦ h
            | inr h ↦ absurd (let no = p.untouched e x lt h in let clash : true ≡ false = sym is ∙ no in cc)
          ])

      -- a cell has a slot where it is kept
      pub kept_has : (n x : ℕ) → n < graph.nodes → is_in cells x ≡ true → has_slot v (kept_in tree n x) x ≡ true
      kept_has n x lt is = has_own (kept_in tree n x) x (p.within n x lt) is (p.kept n x lt)

      pub looked_has : IsNumberable graph tree cells → (e x : ℕ) → e < edges graph
          → is_in (cells_at graph.looked.items e) x ≡ true
          → has_slot v (kept_in tree (from_of graph.links.items e) x) x ≡ true
      looked_has c e x lt is = kept_has (from_of graph.links.items e) x (p.from_node e lt) (c.looked e x lt is)

      pub flow_kept : (e x : ℕ) → e < edges graph → is_flow graph tree cells e x ≡ true
          → has_slot v (kept_in tree (from_of graph.links.items e) x) x ≡ true
      flow_kept e x lt is =
          kept_has (from_of graph.links.items e) x (p.from_node e lt)
          (and_parts (is_in cells x) (owns_in tree (to_of graph.links.items e) x)
          (and_parts (is_own graph tree cells (to_of graph.links.items e) x) (is_untouched e x) is).0).0

    -- ## Numbers of what is read

    slot_counted : (n x : ℕ) → n < graph.nodes → has_slot v n x ≡ true → number_of v (slot_at n x) < count_of v
    slot_counted n x lt has =
        let l = (a.laid.placed n x (subst (λ z. n < z) (sym a.owned_each) lt) has).0 in omega (arith, l)

    map_all : {A : Type 0} (f : ℕ → A) (g : A → ℕ) (end : ℕ) (xs : List ℕ)
        → ((x : ℕ) → is_in xs x ≡ true → g (f x) < end) → (i : ℕ) → is_in (map g (map f xs)) i ≡ true → i < end
    map_all f g end [] each i e = absurd cc
    map_all f g end (x ∷ xs) each i e =
        elim (or_cases (g (f x) == i) (is_in (map g (map f xs)) i) e) [
          | inl h ↦ subst (λ z. z < end) (eqb-true (g (f x)) i h) (each x (in_at (x ∷ xs) 0 (omega arith)))
          | inr t ↦ map_all f g end xs (λ y m. each y (or_right (x == y) (is_in xs y) m)) i t
        ]

    pub sources_counted : IsCellPlaced graph (placing_of graph tree) → IsNumberable graph tree cells → (r : Rule)
        → IsRuleOf graph tree cells r → (i : ℕ) → is_in (map (number_of v) (sources_on graph tree r)) i ≡ true
        → i < count_of v
    sources_counted p c entered is i e = absurd cc
    sources_counted p c (row e) is i has =
        elim (or_cases (from_of graph.links.items e == i) _ has) [
          | inl h ↦ (let l = p.from_node e is in
              let s = eqb-true (from_of graph.links.items e) i h in
              omega (arith, l, s, a.nodes))
          | inr t ↦ map_all (λ x. slot_at (kept_in tree (from_of graph.links.items e) x) x) (number_of v) (count_of v)
              (cells_at graph.looked.items e)
              (λ x m. slot_counted (kept_in tree (from_of graph.links.items e) x) x
              (p.within (from_of graph.links.items e) x (p.from_node e is)) (looked_has p c e x is m)) i t
        ]
    sources_counted p c (flow e x) is i has =
        let kept = kept_in tree (from_of graph.links.items e) x in
        elim (or_cases (v.nodes + e == i) _ has) [
          | inl h ↦ (let l = is.0 in
              let s = eqb-true (v.nodes + e) i h in
              omega (arith, l, s, a.edges_each))
          | inr t ↦ elim (or_cases (number_of v (slot_at kept x) == i) false t) [
            | inl h ↦ subst (λ z. z < count_of v) (eqb-true (number_of v (slot_at kept x)) i h)
                (slot_counted kept x (p.within (from_of graph.links.items e) x (p.from_node e is.0))
                (flow_kept p e x is.0 is.1))
            | inr h ↦ absurd (let clash : false ≡ true = h in cc)
          ]
        ]

-- ## Targets

module _ (graph : CellGraph) (cells : List ℕ) (v : VariableLists) (flows : List FlowingCell) where
  pub targets_begun : (lists : List (List ℕ)) → lists ≡ [] → AreTargets graph cells v flows 0 lists
  targets_begun lists is =
      subst (AreTargets graph cells v flows 0) (sym is) record { each = refl; are = λ k lt. absurd (omega (arith, lt)) }

  pub targets_more : (k : ℕ) (lists new : List (List ℕ)) (list : List ℕ) (r : Rule)
      → AreTargets graph cells v flows k lists → r ≡ rule_of (edges graph) flows k
      → list ≡ map (number_of v) (targets_on graph cells r) → new ≡ lists ++ list ∷ []
      → AreTargets graph cells v flows (k + 1) new
  targets_more k lists new list r before rule is more =
      subst (AreTargets graph cells v flows (k + 1)) (sym more)
      record {
        each = length-append lists (list ∷ []) ∙ ap (λ z. z + 1) before.each;
        are = λ j lt.
            elim (cases_lt j k) [
              | inl l ↦ get_or_append_left lists (list ∷ []) [] j (subst (λ z. j < z) (sym before.each) l)
                  ∙ before.are j l
              | inr ge ↦ (let same : k ≡ j = omega (arith, ge, lt) in
                  subst (λ z. cells_at (lists ++ list ∷ []) z
                  ≡ map (number_of v) (targets_on graph cells (rule_of (edges graph) flows z))) same
                  (get_or_push lists list [] k before.each ∙ is
                  ∙ ap (λ z. map (number_of v) (targets_on graph cells z)) rule))
            ];
      }

-- ## Readers

module _ (graph : CellGraph) (tree : OwnerTree) (v : VariableLists) (flows : List FlowingCell) (end : ℕ) where
  nothing_at : (n i : ℕ) → cells_at (replicate n []) i ≡ []
  nothing_at zero i = refl
  nothing_at (suc n) zero = refl
  nothing_at (suc n) (suc i) = nothing_at n i

  pub readers_begun : (count : ℕ) (lists : List (List ℕ)) → count ≡ count_of v → lists ≡ replicate count []
      → AreReaders graph tree v flows end 0 lists
  readers_begun count lists are is =
      subst (AreReaders graph tree v flows end 0) (sym is)
      record {
        each = length-replicate count [] ∙ are;
        within = λ i k e. absurd (let clash : false ≡ true
            = subst (λ ys. is_in ys k ≡ true) (nothing_at count i) e in cc);
        are = λ k i lt. absurd (omega (arith, lt));
      }

  pub readers_more : (k : ℕ) (lists new : List (List ℕ)) (list : List ℕ) (r : Rule) → k < end
      → AreReaders graph tree v flows end k lists → r ≡ rule_of (edges graph) flows k
      → list ≡ map (number_of v) (sources_on graph tree r) → AreNoted k list lists new
      → AreReaders graph tree v flows end (k + 1) new
  readers_more k lists new list r lt before rule is noted = record {
    each = noted.each ∙ before.each;
    within = λ i j e.
        elim (noted.within i j e) [
          | inl h ↦ before.within i j h
          | inr h ↦ subst (λ z. z < end) (sym h) lt
        ];
    are = λ j i l e.
        elim (cases_lt j k) [
          | inl earlier ↦ noted.kept i j (before.are j i earlier e)
          | inr ge ↦ (let same : j ≡ k = omega (arith, ge, l) in
              subst (λ z. is_in (cells_at new i) z ≡ true) (sym same)
              (noted.noted i (subst (λ ys. is_in ys i ≡ true)
              (sym (is ∙ ap (λ z. map (number_of v) (sources_on graph tree z)) rule
              ∙ ap (λ z. map (number_of v) (sources_on graph tree (rule_of (edges graph) flows z))) (sym same))) e)))
        ];
  }
