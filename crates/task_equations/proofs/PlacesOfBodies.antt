-- What is live at the places of a body, and its entry, which is the first node and no head.
use Rattle.std.specs.Prelude.{◌≡◌, ◌≢◌, ℕ, zero, suc, ◌<◌, ◌==◌, Bool, true, false, ◌||◌, cond, eqb, List, [], ◌∷◌}
use Rattle.std.specs.Prelude.{length, get_or, All, Contains, Option, Some, None, refl}
use Rattle.std.proofs.Common.{sym, ap, subst, ◌∙◌, inl, inr, arith}
use Rattle.std.proofs.lemmas.Bool.{eqb-true, eq-eqb, ne_eqb, or_cases, true≢false}
use Rattle.std.proofs.lemmas.List.Folds.{list_any_at}
use Rattle.std.proofs.lemmas.List.Elements.{All-head, All-tail, All-weaker, All-contains}
use Rattle.mutex_configs.specs.flow_graph.declared.graphs.Edge.{Edge}
use Rattle.mutex_configs.specs.flow_graph.Operations.{given}
use Rattle.mutex_configs.specs.flow_graph.Graphs.{Edges, IsLive, by_flow}
use Rattle.mutex_configs.specs.graph_facts.declared.regions.Head.{Head}
use Rattle.mutex_configs.specs.graph_facts.Live.{AreLive}
use Rattle.mutex_configs.specs.graph_facts.Heads.{IsHeadUpTo}
use Rattle.mutex_configs.proofs.low.graph_facts.Edges.{among_at, contains_among, contains_more}
use Rattle.mutex_configs.specs.declared.nodes.ConfiguredNode.{ConfiguredNode}
use Rattle.mutex_configs.specs.Nodes.{AreNodes, IsBefore, at_entry, entry_node}
use Rattle.state_fits.specs.transfer_rows.Accesses.{is_among}
use Rattle.task_equations.specs.Bodies.{no_edge}
use Rattle.task_equations.specs.Equations.{cells_rounded}

-- ## Live temporaries

contained : (x : ℕ) (xs : List ℕ) → is_among xs x ≡ true → Contains xs x
contained x [] e = absurd (true≢false (sym e))
contained x (y ∷ ys) e = elim (or_cases (eqb x y) (is_among ys x) e) [
  | inl same ↦ (0, (let z : 0 < suc (length ys) = omega (arith) in z), sym (eqb-true x y same))
  | inr more ↦ contains_more x y ys (contained x ys more)
]

is_there : (x : ℕ) (xs : List ℕ) → Contains xs x → is_among xs x ≡ true
is_there x xs c = list_any_at (eqb x) xs c.0 x c.1 (eq-eqb x (get_or xs c.0 x) (sym c.2))

-- what is live where an edge leads is live where it leaves, or is what it gives
pub flows : (g : Edges) (places : ℕ) (lists : List (List ℕ)) → AreLive g places lists
    → All (λ (e : Edge). e.from < places) g → All (λ (e : Edge). e.to < places) g → (k : ℕ) → k < length g → (t : ℕ)
    → (let e = get_or g k no_edge in is_among (get_or lists e.to []) t ≡ true)
    → (let e = get_or g k no_edge in given e.op ≡ Some t → ⊥)
    → (let e = get_or g k no_edge in is_among (get_or lists e.from []) t ≡ true)
flows g places lists live from to k lt t is other =
    let e = get_or g k no_edge in
    is_there t (get_or lists e.from []) ((live.live e.from (from k no_edge lt) t).1
    (by_flow e (among_at g k no_edge lt) other
    ((live.live e.to (to k no_edge lt) t).0 (contained t (get_or lists e.to []) is))))

-- ## The entry

none_before : (q : ConfiguredNode) → IsBefore q entry_node → ⊥
none_before q (inl lt) = (let f : ¬ (q.place < 0) = omega (arith) in f lt)
none_before q (inr (same, inl lt)) = (let f : ¬ (q.held < 0) = omega (arith) in f lt)
none_before q (inr (same, inr (too, lt))) = (let f : ¬ (q.found < 0) = omega (arith) in f lt)

first_by : (nodes : List ConfiguredNode) (k : ℕ) → k < length nodes → get_or nodes k entry_node ≡ entry_node
    → ((j : ℕ) → j < k → IsBefore (get_or nodes j entry_node) (get_or nodes k entry_node))
    → (0 < length nodes) × (get_or nodes 0 entry_node ≡ entry_node)
first_by nodes zero lt is before = (lt, is)
first_by nodes (suc k) lt is before = absurd (none_before (get_or nodes 0 entry_node)
    (subst (λ (r : ConfiguredNode). IsBefore (get_or nodes 0 entry_node) r) is
    (before 0 (let z : 0 < suc k = omega (arith) in z))))

pub entry_first : (g : Edges) (nodes : List ConfiguredNode) → AreNodes g nodes
    → (0 < length nodes) × (get_or nodes 0 entry_node ≡ entry_node)
entry_first g nodes are =
    let there = (are.reached entry_node).1 at_entry in
    first_by nodes there.0 there.1 there.2 (λ j lt. are.in_order j there.0 entry_node lt there.1)

-- heads are not at the entry, to which no edge leads
elsewhere : (g : Edges) → All (λ (e : Edge). e.to ≢ 0) g → (h : Head) → IsHeadUpTo g h → h.node ≢ 0
elsewhere g never h is at =
    let head = is.head in
    All-contains (λ (e : Edge). e.to ≢ 0) g head.edge never (contains_among head.edge g head.among) (head.there ∙ at)

none_rounded : (heads : List Head) (lists : List (List ℕ)) → All (λ (h : Head). h.node ≢ 0) heads
    → cells_rounded heads lists 0 ≡ None
none_rounded [] lists other = refl
none_rounded (h ∷ hs) [] other = refl
none_rounded (h ∷ hs) (cells ∷ lists) other =
    ap (λ x. cond x (Some cells) (cells_rounded hs lists 0))
    (ne_eqb h.node 0 (All-head (λ (d : Head). d.node ≢ 0) h hs other))
    ∙ none_rounded hs lists (All-tail (λ (d : Head). d.node ≢ 0) h hs other)

pub entry_plain : (g : Edges) (heads : List Head) (lists : List (List ℕ)) → All (λ (e : Edge). e.to ≢ 0) g
    → All (IsHeadUpTo g) heads → cells_rounded heads lists 0 ≡ None
entry_plain g heads lists never each = none_rounded heads lists
    (All-weaker (IsHeadUpTo g) (λ (h : Head). h.node ≢ 0) (elsewhere g never) heads each)
