-- The heads of a graph with the last nodes of their regions are a list.
use Rattle.std.specs.Prelude.{◌≡◌, ◌⊎◌, ℕ, ◌≤◌, List, [], ◌∷◌, Contains}
use Rattle.std.specs.List.Sorted.{IsStrictlyIncreasing}
use Rattle.std.proofs.Common.{refl, sym, ap, subst, inl, inr, arith}
use Rattle.std.proofs.lemmas.Bool.{cases_lt}
use Rattle.region_cells.specs.flow_graph.declared.graphs.Edge.{Edge}
use Rattle.region_cells.specs.flow_graph.Graphs.{Edges, Among, IsBack, IsHead}
use Rattle.region_cells.specs.graph_facts.declared.regions.Head.{Head}
use Rattle.region_cells.specs.graph_facts.Heads.{IsHeadUpTo, nodes_of, AreHeads}
use Rattle.configured_laws.proofs.Lists.{behind, first}
use Rattle.configured_laws.proofs.Choices.{Either, both, at_most, same_number, AreChosen, chosen, for_keys}

-- an edge leads back to a node from this one, and none from a greater one
record IsLast (g : Edges) (node last : ℕ) : Type 0 where
  edge : Edge
  among : Among edge g
  back : IsBack edge
  there : edge.to ≡ node
  from : edge.from ≡ last
  greatest : (e : Edge) → Among e g → IsBack e → e.to ≡ node → e.from ≤ last

abbrev HasNone : Edges → ℕ → Type 0
HasNone g node = (e : Edge) → Among e g → IsBack e → e.to ≡ node → ⊥

module _ (node : ℕ) (e : Edge) (g : Edges) where
  -- an edge that does not lead back to the node changes nothing
  module _ (not : IsBack e × (e.to ≡ node) → ⊥) where
    moved : (f : Edge) → e ≡ f → IsBack f → f.to ≡ node → ⊥
    moved f same back there = not (subst (λ (d : Edge). IsBack d × (d.to ≡ node)) (sym same) (back, there))

    still_last : (last : ℕ) → IsLast g node last → IsLast (e ∷ g) node last
    still_last last is = record {
      edge = is.edge;
      among = inr is.among;
      back = is.back;
      there = is.there;
      from = is.from;
      greatest = λ f a b t. elim a [
        | inl same ↦ absurd (moved f same b t)
        | inr c ↦ is.greatest f c b t
      ];
    }

    still_none : HasNone g node → HasNone (e ∷ g) node
    still_none none f a b t = elim a [
      | inl same ↦ moved f same b t
      | inr c ↦ none f c b t
    ]

  module _ (back : IsBack e) (there : e.to ≡ node) where
    -- the edge is the last one where the others do not reach as far
    new_last : ((f : Edge) → Among f g → IsBack f → f.to ≡ node → f.from ≤ e.from) → IsLast (e ∷ g) node e.from
    new_last most = record {
      edge = e;
      among = inl refl;
      back = back;
      there = there;
      from = refl;
      greatest = λ f a b t. elim a [
        | inl same ↦ (let s : e.from ≡ f.from = ap (λ (d : Edge). d.from) same in omega (arith, s))
        | inr c ↦ most f c b t
      ];
    }

    old_last : (last : ℕ) → e.from ≤ last → IsLast g node last → IsLast (e ∷ g) node last
    old_last last few is = record {
      edge = is.edge;
      among = inr is.among;
      back = is.back;
      there = is.there;
      from = is.from;
      greatest = λ f a b t. elim a [
        | inl same ↦ (let s : e.from ≡ f.from = ap (λ (d : Edge). d.from) same in omega (arith, s, few))
        | inr c ↦ is.greatest f c b t
      ];
    }

last_of : (g : Edges) (node : ℕ) → ((last : ℕ) × IsLast g node last) ⊎ HasNone g node
last_of [] node = inr (λ e a b t. a)
last_of (e ∷ g) node =
    elim (both (IsBack e) (e.to ≡ node) (at_most e.to e.from) (same_number e.to node)) [
      | inr not ↦ elim (last_of g node) [
        | inl (last, is) ↦ inl (last, still_last node e g not last is)
        | inr none ↦ inr (still_none node e g not none)
      ]
      | inl (back, there) ↦ elim (last_of g node) [
        | inr none ↦
            inl (e.from, new_last node e g back there (λ f a b t. absurd (none f a b t)))
        | inl (last, is) ↦ elim (cases_lt last e.from) [
          | inl less ↦
              inl (
                e.from,
                new_last node e g back there
                    (λ f a b t. (let most = is.greatest f a b t in omega (arith, most, less))),
              )
          | inr least ↦ inl (last, old_last node e g back there last least is)
        ]
      ]
    ]

targets : Edges → List ℕ
targets [] = []
targets (e ∷ g) = e.to ∷ targets g

in_targets : (g : Edges) (e : Edge) → Among e g → Contains (targets g) e.to
unfolding targets
in_targets [] e a = absurd a
in_targets (d ∷ g) e (inl same) =
    subst (λ (f : Edge). Contains (d.to ∷ targets g) f.to) same (first d.to (targets g))
in_targets (d ∷ g) e (inr a) = behind d.to (targets g) e.to (in_targets g e a)

module _ (g : Edges) where
  is_head : (node : ℕ) → Either (IsHead g node)
  is_head node = elim (last_of g node) [
    | inl (last, is) ↦ inl (record { edge = is.edge; among = is.among; back = is.back; there = is.there })
    | inr none ↦ inr (λ h. none h.edge h.among h.back h.there)
  ]

  up_to : (node last : ℕ) → IsLast g node last → IsHeadUpTo g (record { node = node; last = last })
  up_to node last is = record {
    head = record { edge = is.edge; among = is.among; back = is.back; there = is.there };
    region = λ n. (
      λ r. (r.from, (let most = is.greatest r.edge r.among r.back r.there in let u = r.until in omega (arith, most, u))),
      λ h. record {
        edge = is.edge;
        among = is.among;
        back = is.back;
        there = is.there;
        from = h.0;
        until = (let f = is.from in let l = h.1 in omega (arith, f, l));
      },
    );
  }

  head_for : (node : ℕ) → IsHead g node → (h : Head) × (h.node ≡ node) × IsHeadUpTo g h
  head_for node h = elim (last_of g node) [
    | inl (last, is) ↦ (record { node = node; last = last }, refl, up_to node last is)
    | inr none ↦ absurd (none h.edge h.among h.back h.there)
  ]

  pub some_heads : (heads : List Head) × AreHeads g heads
  some_heads =
      let c = chosen (IsHead g) is_head (targets g) in
      let nodes : List ℕ = c.0 in
      let are : AreChosen (IsHead g) (targets g) nodes = c.1 in
      let r = for_keys (λ (h : Head). h.node) (IsHeadUpTo g) nodes (λ n there. head_for n (are.has n there)) in
      let heads : List Head = r.0 in
      let back : nodes ≡ nodes_of heads = sym r.1 in (
        heads,
        record {
          rising = subst IsStrictlyIncreasing back are.rising;
          each = r.2;
          all = λ n h. subst (λ ns. Contains ns n) back
              (are.all n (subst (Contains (targets g)) h.there (in_targets g h.edge h.among)) h);
        },
      )
