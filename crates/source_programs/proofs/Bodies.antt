-- The body of a graph and its configured graph is one.
use Rattle.std.specs.Prelude.{◌≡◌, ℕ, ◌<◌, ◌≤◌, List, [], length, get_or, AllPairs, Contains}
use Rattle.std.specs.List.Sorted.{IsStrictlyIncreasing}
use Rattle.std.proofs.Common.{sym, subst, ◌∙◌, arith}
use Rattle.std.proofs.lemmas.List.{same_lists, get_or_default, get_or-map, length-map}
use Rattle.std.proofs.lemmas.List.Elements.{All-contains, Contains-get_or}
use Rattle.tm_laid.specs.Layouts.{LaidTree}
use Rattle.mutex_configs.specs.flow_graph.declared.graphs.Graph.{Graph}
use Rattle.mutex_configs.specs.flow_graph.Graphs.{Edges, IsHead, IsInRegion}
use Rattle.mutex_configs.specs.graph_facts.declared.regions.Head.{Head}
use Rattle.mutex_configs.specs.graph_facts.Live.{AreLive}
use Rattle.mutex_configs.specs.graph_facts.Heads.{IsHeadUpTo, nodes_of, AreHeads}
use Rattle.configured_laws.specs.region_cells.Written.{AreAllWritten}
use Rattle.mutex_configs.specs.declared.nodes.ConfiguredGraph.{ConfiguredGraph}
use Rattle.program_laws.specs.task_equations.Bodies.{Body}
use Rattle.program_laws.specs.program_equations.Programs.{ProgramBodies, IsBodyIn, IsNumbered}
use Rattle.configured_laws.proofs.Lists.{lists_are_one, rising_pairs, rising_are_one}

-- ## Live temporaries

pub live_is_one : (g : Edges) (nodes : ℕ) (a b : List (List ℕ)) → AreLive g nodes a → AreLive g nodes b → a ≡ b
live_is_one g nodes a b h k = same_lists a b (h.node_count ∙ sym k.node_count) at
  where
    row : (n : ℕ) → n < nodes → get_or a n [] ≡ get_or b n []
    row n lt = rising_are_one (get_or a n []) (get_or b n []) (h.rising n lt) (k.rising n lt)
        (λ t c. (k.live n lt t).1 ((h.live n lt t).0 c)) (λ t c. (h.live n lt t).1 ((k.live n lt t).0 c))

    at : (n : ℕ) (d : List ℕ) → n < length a → get_or a n d ≡ get_or b n d
    at n d lt =
        let count = h.node_count in
        let other = k.node_count in
        get_or_default a n d [] lt ∙ row n (omega (arith, lt, count))
        ∙ sym (get_or_default b n d [] (omega (arith, lt, count, other)))

-- ## Heads

module _ (g : Edges) where
  -- the region of a head begins with it
  begins : (n : ℕ) → IsHead g n → IsInRegion g n n
  begins n h =
      let back = h.back in
      let there = h.there in
      record {
        edge = h.edge;
        among = h.among;
        back = h.back;
        there = h.there;
        from = omega arith;
        until = omega (arith, back, there);
      }

  last_within : (h k : Head) → IsHeadUpTo g h → IsHeadUpTo g k → h.node ≡ k.node → h.last ≤ k.last
  last_within h k a b e =
      let own : (h.node ≤ h.node) × (h.node ≤ h.last) = (a.region h.node).0 (begins h.node a.head) in
      let end : IsInRegion g h.node h.last = (a.region h.last).1 (own.1, omega arith) in
      ((b.region h.last).0 (subst (λ n. IsInRegion g n h.last) e end)).1

  head_by : (h k : Head) → h.node ≡ k.node → h.last ≡ k.last → h ≡ k
  head_by h k e f = λ i. record { node = e i; last = f i }

  head_is_one : (h k : Head) → IsHeadUpTo g h → IsHeadUpTo g k → h.node ≡ k.node → h ≡ k
  head_is_one h k a b e =
      let up = last_within h k a b e in
      let down = last_within k h b a (sym e) in
      head_by h k e (omega (arith, up, down))

  abbrev Below : Head → Head → Type 0
  Below h k = h.node < k.node

  one_way : (h k : Head) → Below h k → Below k h → ⊥
  one_way h k a b = omega (arith, a, b)

  head_pairs : (heads : List Head) → IsStrictlyIncreasing (nodes_of heads) → AllPairs Below heads
  head_pairs heads rising i j d lt within =
      let node : Head → ℕ = λ h. h.node in
      let long : length (nodes_of heads) ≡ length heads = length-map heads node in
      let below : get_or (nodes_of heads) i d.node < get_or (nodes_of heads) j d.node =
      rising_pairs (nodes_of heads) rising i j d.node lt (omega (arith, long, within)) in
      let here : get_or (nodes_of heads) i d.node ≡ (let h = get_or heads i d in h.node) =
      get_or-map node heads i d d.node (omega (arith, lt, within)) in
      let there : get_or (nodes_of heads) j d.node ≡ (let h = get_or heads j d in h.node) =
      get_or-map node heads j d d.node within in
      omega (arith, below, here, there)

  -- a head of the one list stands in the other
  head_among : (a b : List Head) → AreHeads g a → AreHeads g b → (h : Head) → Contains a h → Contains b h
  head_among a b are others h c =
      let up : IsHeadUpTo g h = All-contains (IsHeadUpTo g) a h are.each c in
      let at : Contains (nodes_of b) h.node = others.all h.node up.head in
      let node : Head → ℕ = λ k. k.node in
      let long : length (nodes_of b) ≡ length b = length-map b node in
      let within : at.0 < length b = (let lt = at.1 in omega (arith, lt, long)) in
      let other : Head = get_or b at.0 h in
      let same : other.node ≡ h.node = sym (get_or-map node b at.0 h h.node within) ∙ at.2 in
      subst (Contains b) (head_is_one other h (others.each at.0 h within) up same) (Contains-get_or b at.0 h within)

  pub heads_are_one : (a b : List Head) → AreHeads g a → AreHeads g b → a ≡ b
  heads_are_one a b h k =
      lists_are_one Below one_way a b (head_pairs a h.rising) (head_pairs b k.rising) (head_among a b h k)
      (head_among b a k h)

-- ## Written cells

no_head : Head
no_head = record { node = 0; last = 0 }

module _ (laid : LaidTree) (g : Edges) (heads : List Head) where
  pub written_is_one : (a b : List (List ℕ)) → AreAllWritten laid g heads a → AreAllWritten laid g heads b → a ≡ b
  written_is_one a b h k = same_lists a b (h.count ∙ sym k.count) at
    where
      row : (n : ℕ) → n < length heads → get_or a n [] ≡ get_or b n []
      row n lt =
          let one = h.each n no_head lt in
          let other = k.each n no_head lt in
          rising_are_one (get_or a n []) (get_or b n []) one.rising other.rising
          (λ t c. (other.written t).1 ((one.written t).0 c)) (λ t c. (one.written t).1 ((other.written t).0 c))

      at : (n : ℕ) (d : List ℕ) → n < length a → get_or a n d ≡ get_or b n d
      at n d lt =
          let count = h.count in
          let other = k.count in
          get_or_default a n d [] lt ∙ row n (omega (arith, lt, count))
          ∙ sym (get_or_default b n d [] (omega (arith, lt, count, other)))

-- ## Bodies

module _ (laid : LaidTree) (g : Graph) (c : ConfiguredGraph) (t : ℕ) (p q : ProgramBodies) where
  pub body_is_one : (b d : Body) → p.laid ≡ q.laid → p.priorities ≡ q.priorities → p.marks ≡ q.marks
      → IsNumbered p t b → IsNumbered q t d → IsBodyIn laid g c b → IsBodyIn laid g c d → b ≡ d
  body_is_one b d e f m n o is own =
      let heads : b.heads ≡ d.heads = heads_are_one g.edges.items b.heads d.heads is.heads own.heads in
      let written : b.written ≡ d.written =
      written_is_one laid g.edges.items d.heads b.written d.written
      (subst (λ hs. AreAllWritten laid g.edges.items hs b.written) heads is.written) own.written in
      let live : b.live ≡ d.live = live_is_one g.edges.items g.nodes b.live d.live is.live own.live in
      let layout : b.laid ≡ d.laid = n.laid ∙ e ∙ sym o.laid in
      let number : b.task ≡ d.task = n.number ∙ sym o.number in
      let priorities : b.priorities ≡ d.priorities = n.priorities ∙ f ∙ sym o.priorities in
      let marks : b.marks ≡ d.marks = n.marks ∙ m ∙ sym o.marks in
      let edges : b.edges ≡ d.edges = is.edges ∙ sym own.edges in
      let nodes : b.nodes ≡ d.nodes = is.nodes ∙ sym own.nodes in
      let copies : b.copies ≡ d.copies = is.copies ∙ sym own.copies in
      let pointers : b.pointers ≡ d.pointers = is.pointers ∙ sym own.pointers in
      λ i. record {
        laid = layout i;
        task = number i;
        priorities = priorities i;
        edges = edges i;
        nodes = nodes i;
        copies = copies i;
        marks = marks i;
        live = live i;
        pointers = pointers i;
        heads = heads i;
        written = written i;
      }
