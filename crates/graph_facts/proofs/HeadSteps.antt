-- Heads and the last nodes of their regions.
use Rattle.std.proofs.Common.{◌≡◌, refl, sym, ap, subst, ◌∙◌, ℕ, ◌+◌, ◌<◌, inl, inr, max, List, [], ◌∷◌, ◌++◌, length, get_or, set, arith, Option, Some, None}
use Rattle.std.specs.Prelude.{All, Contains, replicate}
use Rattle.std.specs.List.Sorted.{IsStrictlyIncreasing}
use Rattle.std.proofs.lemmas.Bool.{cases_eq, cases_lt}
use Rattle.std.proofs.lemmas.List.{length-set, length-replicate, get_or-replicate, get_or-set_same, get_or-set_other, map_push}
use Rattle.std.proofs.lemmas.List.Elements.{All-nil, All-push, All-weaker, All-contains, Contains-push, Contains-push_cases, Contains-append_left}
use Rattle.flow_graph.specs.declared.graphs.Edge.{Edge}
use Rattle.flow_graph.specs.Graphs.{Edges, IsBack, IsHead}
use Rattle.graph_facts.specs.declared.regions.Head.{Head}
use Rattle.graph_facts.specs.Edges.{AreInRange}
use Rattle.graph_facts.specs.Heads.{IsHeadUpTo, nodes_of, AreHeads}
use Rattle.graph_facts.specs.reading.Heads.{later, IsLastOf, IsLastBack, AreLastBack}
use Rattle.graph_facts.proofs.Edges.{contains_among, among_contains}
use Rattle.graph_facts.proofs.Rising.{rising_nil, rising_push}

-- ## The last node from which an edge leads back

no_edge : (e : Edge) → Contains [] e → ⊥
no_edge e c = let b = c.1 in omega (arith, b)

pub last_none : (nodes : ℕ) (last : List (Option ℕ)) → last ≡ replicate nodes None → AreLastBack [] nodes last
last_none nodes last e = record {
  node_count = ap length e ∙ length-replicate nodes None;
  each = λ n lt. subst (λ (o : Option ℕ). IsLastBack [] n o) (sym (ap (λ (z : List (Option ℕ)). get_or z n None) e ∙ get_or-replicate nodes n None None lt)) (λ x c b t. no_edge x c);
}

-- an edge that does not lead back to the node
other_edge : (g : Edges) (e : Edge) (n : ℕ) (o : Option ℕ) → (IsBack e → e.to ≡ n → ⊥) → IsLastBack g n o → IsLastBack (g ++ e ∷ []) n o
other_edge g e n None h last = λ x c b t. elim (Contains-push_cases g e x c) [
  | inl d ↦ last x d b t
  | inr p ↦ h (subst (λ (z : Edge). IsBack z) (sym p) b) (ap (λ z. z.to) p ∙ t)
]
other_edge g e n (Some m) h last = record {
  edge = last.edge;
  among = Contains-append_left g (e ∷ []) last.edge last.among;
  back = last.back;
  there = last.there;
  from = last.from;
  greatest = λ x c b t. elim (Contains-push_cases g e x c) [
    | inl d ↦ last.greatest x d b t
    | inr p ↦ absurd (h (subst (λ (z : Edge). IsBack z) (sym p) b) (ap (λ z. z.to) p ∙ t))
  ];
}

-- one that does
back_edge : (g : Edges) (e : Edge) (n : ℕ) (o : Option ℕ) → IsBack e → e.to ≡ n → IsLastBack g n o → IsLastOf (g ++ e ∷ []) n (later o e.from)
back_edge g e n None h to last = record {
  edge = e;
  among = Contains-push g e;
  back = h;
  there = to;
  from = refl;
  greatest = λ x c b t. elim (Contains-push_cases g e x c) [
    | inl d ↦ absurd (last x d b t)
    | inr p ↦ (let q = ap (λ z. z.from) p in omega (arith, q))
  ];
}
back_edge g e n (Some m) h to last = elim (cases_lt m e.from) [
  | inl l ↦ record {
    edge = e;
    among = Contains-push g e;
    back = h;
    there = to;
    from = (let z : e.from ≡ max m e.from = omega (arith, l) in z);
    greatest = λ x c b t. elim (Contains-push_cases g e x c) [
      | inl d ↦ (let q = last.greatest x d b t in omega (arith, l, q))
      | inr p ↦ (let q = ap (λ z. z.from) p in omega (arith, q))
    ];
  }
  | inr g' ↦ record {
    edge = last.edge;
    among = Contains-append_left g (e ∷ []) last.edge last.among;
    back = last.back;
    there = last.there;
    from = (let q = last.from in let z : last.edge.from ≡ max m e.from = omega (arith, g', q) in z);
    greatest = λ x c b t. elim (Contains-push_cases g e x c) [
      | inl d ↦ (let q = last.greatest x d b t in omega (arith, g', q))
      | inr p ↦ (let q = ap (λ z. z.from) p in omega (arith, q))
    ];
  }
]

pub last_forward : (g : Edges) (e : Edge) (nodes : ℕ) (last : List (Option ℕ)) → e.from < e.to → AreLastBack g nodes last → AreLastBack (g ++ e ∷ []) nodes last
last_forward g e nodes last lt before = record {
  node_count = before.node_count;
  each = λ n l. other_edge g e n (get_or last n None) (λ b t. omega (arith, lt, b)) (before.each n l);
}

pub last_more : (g : Edges) (e : Edge) (nodes : ℕ) (last : List (Option ℕ)) (o : Option ℕ) → IsBack e → e.to < nodes → o ≡ get_or last e.to None → AreLastBack g nodes last
    → AreLastBack (g ++ e ∷ []) nodes (set last e.to (Some (later o e.from)))
last_more g e nodes last o back within is before = record {
  node_count = length-set last e.to (Some (later o e.from)) ∙ before.node_count;
  each = λ n l. elim (cases_eq n e.to) [
    | inl same ↦
        (let here : get_or (set last e.to (Some (later o e.from))) e.to None ≡ Some (later o e.from) =
        get_or-set_same last e.to (Some (later o e.from)) None (let b = before.node_count in omega (arith, within, b)) in
        let was : IsLastBack g e.to o = subst (λ (z : Option ℕ). IsLastBack g e.to z) (sym is) (before.each e.to within) in
        let now : IsLastBack (g ++ e ∷ []) e.to (Some (later o e.from)) = back_edge g e e.to o back refl was in
        let P : ℕ → Type 0 = λ i. IsLastBack (g ++ e ∷ []) i (get_or (set last e.to (Some (later o e.from))) i None) in
        subst P (sym same) (subst (λ (z : Option ℕ). IsLastBack (g ++ e ∷ []) e.to z) (sym here) now))
    | inr other ↦ subst (λ (z : Option ℕ). IsLastBack (g ++ e ∷ []) n z) (sym (get_or-set_other last e.to n (Some (later o e.from)) None other))
        (other_edge g e n (get_or last n None) (λ b t. other (sym t)) (before.each n l))
  ];
}

-- ## Heads

-- the heads below a node
pub record AreHeadsBelow (g : Edges) (node : ℕ) (heads : List Head) : Type 0 where
  pub rising : IsStrictlyIncreasing (nodes_of heads)
  pub each : All (IsHeadUpTo g) heads
  pub below : All (λ n. n < node) (nodes_of heads)
  pub all : (n : ℕ) → n < node → IsHead g n → Contains (nodes_of heads) n

pub heads_none : (g : Edges) (heads : List Head) → heads ≡ [] → AreHeadsBelow g 0 heads
heads_none g heads e = subst (λ (hs : List Head). AreHeadsBelow g 0 hs) (sym e) (record {
  rising = rising_nil;
  each = All-nil (IsHeadUpTo g);
  below = All-nil (λ n. n < 0);
  all = λ n lt h. absurd (omega (arith, lt));
})

no_head : (g : Edges) (n : ℕ) → IsLastBack g n None → IsHead g n → ⊥
no_head g n last h = last h.edge (contains_among h.edge g h.among) h.back h.there

pub heads_other : (g : Edges) (n : ℕ) (heads : List Head) (o : Option ℕ) → o ≡ None → IsLastBack g n o → AreHeadsBelow g n heads → AreHeadsBelow g (n + 1) heads
heads_other g n heads o is last before = record {
  rising = before.rising;
  each = before.each;
  below = All-weaker (λ k. k < n) (λ k. k < n + 1) (λ k lt. omega (arith, lt)) (nodes_of heads) before.below;
  all = λ k lt h. elim (cases_eq k n) [
    | inl e ↦ absurd (no_head g n (subst (λ (z : Option ℕ). IsLastBack g n z) is last) (let P : ℕ → Type 0 = λ i. IsHead g i in subst P e h))
    | inr p ↦ before.all k (let u : k ≡ n → ⊥ = p in omega (arith, u, lt)) h
  ];
}

up_to : (g : Edges) (h : Head) → IsLastOf g h.node h.last → IsHeadUpTo g h
up_to g h last = record {
  head = record { edge = last.edge; among = among_contains last.edge g last.among; back = last.back; there = last.there };
  region = λ n. (
    (λ r. (r.from, (let a = last.greatest r.edge (contains_among r.edge g r.among) r.back r.there in let b = r.until in omega (arith, a, b)))),
    (λ w. let f = last.from in let l = w.1 in record {
      edge = last.edge;
      among = among_contains last.edge g last.among;
      back = last.back;
      there = last.there;
      from = w.0;
      until = omega (arith, f, l);
    }),
  );
}

pub heads_more : (g : Edges) (h : Head) (heads now : List Head) (o : Option ℕ) → o ≡ Some h.last → now ≡ heads ++ h ∷ [] → IsLastBack g h.node o → AreHeadsBelow g h.node heads
    → AreHeadsBelow g (h.node + 1) now
heads_more g h heads now o is e last before = subst (λ (hs : List Head). AreHeadsBelow g (h.node + 1) hs) (sym e) (record {
  rising = subst (λ (ns : List ℕ). IsStrictlyIncreasing ns) (sym nodes) (rising_push (nodes_of heads) h.node before.rising before.below);
  each = All-push (IsHeadUpTo g) heads h before.each (up_to g h (subst (λ (z : Option ℕ). IsLastBack g h.node z) is last));
  below = subst (λ (ns : List ℕ). All (λ n. n < h.node + 1) ns) (sym nodes)
      (All-push (λ n. n < h.node + 1) (nodes_of heads) h.node (All-weaker (λ k. k < h.node) (λ k. k < h.node + 1) (λ k lt. omega (arith, lt)) (nodes_of heads) before.below) (omega arith));
  all = λ k lt there. subst (λ (ns : List ℕ). Contains ns k) (sym nodes) (elim (cases_eq k h.node) [
    | inl p ↦ (let P : ℕ → Type 0 = λ i. Contains (nodes_of heads ++ h.node ∷ []) i in subst P (sym p) (Contains-push (nodes_of heads) h.node))
    | inr p ↦ Contains-append_left (nodes_of heads) (h.node ∷ []) k (before.all k (let u : k ≡ h.node → ⊥ = p in omega (arith, u, lt)) there)
  ]);
})
  where
    nodes : nodes_of (heads ++ h ∷ []) ≡ nodes_of heads ++ h.node ∷ []
    nodes = map_push (λ x. x.node) heads h

pub heads_all : (g : Edges) (nodes : ℕ) (heads : List Head) → AreInRange g nodes → AreHeadsBelow g nodes heads → AreHeads g heads
heads_all g nodes heads range below = record {
  rising = below.rising;
  each = below.each;
  all = λ n h. below.all n
      (let b = All-contains (λ e. (e.from < nodes) × (e.to < nodes)) g h.edge range (contains_among h.edge g h.among) in
      let l = b.1 in let t = h.there in omega (arith, l, t)) h;
}
