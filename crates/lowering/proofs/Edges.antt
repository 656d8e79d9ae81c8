-- The edges that leave a node while a graph is built: they are placed at once, and stay.
use Rattle.std.proofs.Common.{◌≡◌, ◌≢◌, ◌⊎◌, inl, inr, ℕ, suc, ◌<◌, ◌≤◌, Bool, true, false, [], ◌∷◌, ◌++◌, refl, sym}
use Rattle.std.proofs.Common.{◌∙◌, ap, subst, arith}
use Rattle.std.specs.Prelude.{if◌then◌else◌, ◌==◌}
use Rattle.std.proofs.lemmas.List.{append-nil}
use Rattle.std.proofs.lemmas.Bool.{eq-eqb, ne_eqb, cases_lt, cases_eq}
use Rattle.flow_graph.specs.declared.graphs.Edge.{Edge}
use Rattle.flow_graph.specs.declared.operations.Test.{Test}
use Rattle.flow_graph.specs.declared.operations.Operation.{Operation}
use Rattle.flow_graph.specs.declared.operations.Operation.TheVariants as Op
use Rattle.flow_graph.specs.Operations.{opposite}
use Rattle.flow_graph.specs.Graphs.{Edges, leaving, IsSure, IsTest, IsFork, IsPlain}
use Rattle.lowering.specs.Built.{Building, edge, place_with, branch, goto, meet}

-- a way on to a later node where control comes together
pub record Joins (g : Edges) (node node' : ℕ) : Type 0 where
  pub only : leaving g node ≡ edge node node' Op.Skip ∷ []
  pub forward : node < node'

-- a way back to a head
pub record Returns (g : Edges) (node head : ℕ) : Type 0 where
  pub only : leaving g node ≡ edge node head Op.Skip ∷ []
  pub back : head ≤ node

leaving_case : (x : Edge) (a b : Edges) (n : ℕ) → leaving (a ++ b) n ≡ leaving a n ++ leaving b n → (t : Bool)
    → (if t then x ∷ leaving (a ++ b) n else leaving (a ++ b) n) ≡
    (if t then x ∷ leaving a n else leaving a n) ++ leaving b n
leaving_case x a b n h true = ap (λ z. x ∷ z) h
leaving_case x a b n h false = h

leaving_append : (a b : Edges) (n : ℕ) → leaving (a ++ b) n ≡ leaving a n ++ leaving b n
leaving_append [] b n = refl
leaving_append (x ∷ a) b n = leaving_case x a b n (leaving_append a b n) (x.from == n)

pub leaving_here : (n m : ℕ) (op : Operation) (g : Edges) → leaving (edge n m op ∷ g) n ≡ edge n m op ∷ leaving g n
leaving_here n m op g = ap (λ t. if t then edge n m op ∷ leaving g n else leaving g n) (eq-eqb n n refl)

pub leaving_past : (n' m : ℕ) (op : Operation) (g : Edges) (n : ℕ) → n' ≢ n → leaving (edge n' m op ∷ g) n ≡ leaving g n
leaving_past n' m op g n h = ap (λ t. if t then edge n' m op ∷ leaving g n else leaving g n) (ne_eqb n' n h)

pub unchanged : (a b : Edges) (n : ℕ) → leaving b n ≡ [] → leaving (a ++ b) n ≡ leaving a n
unchanged a b n h = leaving_append a b n ∙ (ap (λ z. leaving a n ++ z) h ∙ append-nil (leaving a n))

pub placed_at : (a b : Edges) (n : ℕ) → leaving a n ≡ [] → leaving (a ++ b) n ≡ leaving b n
placed_at a b n h = leaving_append a b n ∙ ap (λ z. z ++ leaving b n) h

-- nodes with edges have the same edges in the other graph
pub record Ext (a g : Edges) : Type 0 where
  pub same : (n : ℕ) (e : Edge) (es : Edges) → leaving a n ≡ e ∷ es → leaving g n ≡ e ∷ es

pub ext_then : {a b c : Edges} → Ext a b → Ext b c → Ext a c
ext_then h k = record { same = λ n e es x. k.same n e es (h.same n e es x) }

pub record Fine (b : Building) : Type 0 where
  pub empty : (n : ℕ) → b.nodes ≤ n → leaving b.edges n ≡ []
  pub present : leaving b.edges b.node ≡ []
  pub inside : b.node < b.nodes

-- what was built further left the nodes alone that it did not start from
pub record Follows (b b' : Building) : Type 0 where
  pub nodes : b.nodes ≤ b'.nodes
  pub temps : b.temps ≤ b'.temps
  pub same : (n : ℕ) → n < b.nodes → n ≢ b.node → leaving b'.edges n ≡ leaving b.edges n
  pub away : (n : ℕ) → n < b.nodes → n ≢ b.node → n ≢ b'.node
  pub start : b.node < b.nodes
  pub low : b.node ≤ b'.node
  pub fine : Fine b'
  pub plain : IsPlain b.edges → IsPlain b'.edges

pub follows_then : {b b1 b2 : Building} → Follows b b1 → Follows b1 b2 → Follows b b2
follows_then h k = record {
  nodes = omega (arith, h.nodes, k.nodes);
  temps = omega (arith, h.temps, k.temps);
  same = λ n l ne. k.same n (omega (arith, h.nodes)) (h.away n l ne) ∙ h.same n l ne;
  away = λ n l ne. k.away n (omega (arith, h.nodes)) (h.away n l ne);
  start = h.start;
  low = omega (arith, h.low, k.low);
  fine = k.fine;
  plain = λ f. k.plain (h.plain f);
}

pub follows_same : (b : Building) → Fine b → Follows b b
follows_same b f = record {
  nodes = omega arith;
  temps = omega arith;
  same = λ n l ne. refl;
  away = λ n l ne. ne;
  start = f.inside;
  low = omega arith;
  fine = f;
  plain = λ k. k;
}

pub follows_ext : {b b' : Building} → Fine b → Follows b b' → Ext b.edges b'.edges
follows_ext {b} {b'} f h = record { same = λ n e es x. by_case n e es x (cases_lt n b.nodes) (cases_eq n b.node) }
  where
    by_case : (n : ℕ) (e : Edge) (es : Edges) → leaving b.edges n ≡ e ∷ es → (n < b.nodes) ⊎ (b.nodes ≤ n)
        → (n ≡ b.node) ⊎ (n ≡ b.node → ⊥) → leaving b'.edges n ≡ e ∷ es
    by_case n e es x (inr l) d = absurd (let k = f.empty n l in cc)
    by_case n e es x (inl l) (inl d) =
        absurd (let k : leaving b.edges n ≡ [] = subst (λ z. leaving b.edges z ≡ []) (sym d) f.present in cc)
    by_case n e es x (inl l) (inr d) = h.same n l d ∙ x

-- one operation
-- one operation from a node that has none
pub one_fork : (a b : Edges) (m : ℕ) → IsPlain a → leaving a m ≡ [] → IsFork (leaving b m)
    → ((n : ℕ) → n ≢ m → leaving b n ≡ []) → IsPlain (a ++ b)
one_fork a b m plain none fork past n = by_case (cases_eq n m)
  where
    by_case : (n ≡ m) ⊎ (n ≡ m → ⊥) → IsFork (leaving (a ++ b) n)
    by_case (inl e) = subst (λ z. IsFork (leaving (a ++ b) z)) (sym e) (subst IsFork (sym (placed_at a b m none)) fork)
    by_case (inr d) = subst IsFork (sym (unchanged a b n (past n d))) (plain n)

pub place_follows : (t : ℕ) (op : Operation) → IsSure op → (b : Building) → Fine b → b.temps ≤ t
    → Follows b (place_with t op b)
place_follows t op sure b f l = record {
  nodes = omega arith;
  temps = l;
  same = λ n i ne. unchanged b.edges _ n (leaving_past b.node b.nodes op [] n (λ e. ne (sym e)));
  away = λ n i ne e. absurd (omega arith);
  start = f.inside;
  low = omega (arith, f.inside);
  fine = record {
    empty = λ n i. unchanged b.edges _ n (leaving_past b.node b.nodes op [] n (λ e. absurd (omega (arith, f.inside))))
        ∙ f.empty n (omega arith);
    present = unchanged b.edges _ b.nodes
        (leaving_past b.node b.nodes op [] b.nodes (λ e. absurd (omega (arith, f.inside)))) ∙ f.empty b.nodes
        (omega arith);
    inside = omega arith;
  };
  plain = λ k. one_fork b.edges _ b.node k f.present (subst IsFork (sym (leaving_here b.node b.nodes op [])) sure)
      (λ n d. leaving_past b.node b.nodes op [] n (λ e. d (sym e)));
}

-- a branch
pub branch_past : (test : Test) (b : Building) (n : ℕ) → n ≢ b.node
    → leaving (branch test b).edges n ≡ leaving b.edges n
branch_past test b n ne =
    unchanged b.edges _ n (leaving_past b.node b.nodes (Op.Assume test)
    (edge b.node (suc b.nodes) (Op.Assume (opposite test)) ∷ []) n (λ e. ne (sym e)) ∙ leaving_past b.node
    (suc b.nodes) (Op.Assume (opposite test)) [] n (λ e. ne (sym e)))

pub branch_follows : (test : Test) → IsTest test → (b : Building) → Fine b → Follows b (branch test b)
branch_follows test is b f = record {
  nodes = omega arith;
  temps = omega arith;
  same = λ n i ne. branch_past test b n ne;
  away = λ n i ne e. absurd (omega arith);
  start = f.inside;
  low = omega (arith, f.inside);
  fine = record {
    empty = λ n i. branch_past test b n (λ e. absurd (omega (arith, f.inside))) ∙ f.empty n (omega arith);
    present = branch_past test b b.nodes (λ e. absurd (omega (arith, f.inside))) ∙ f.empty b.nodes (omega arith);
    inside = omega arith;
  };
  plain = λ k. one_fork b.edges _ b.node k f.present
      (subst IsFork (sym (leaving_here b.node b.nodes (Op.Assume test)
      (edge b.node (suc b.nodes) (Op.Assume (opposite test)) ∷ []) ∙ ap (λ z. edge b.node b.nodes (Op.Assume test) ∷ z)
      (leaving_here b.node (suc b.nodes) (Op.Assume (opposite test)) []))) (is, refl))
      (λ n d. leaving_past b.node b.nodes (Op.Assume test)
      (edge b.node (suc b.nodes) (Op.Assume (opposite test)) ∷ []) n (λ e. d (sym e)) ∙ leaving_past b.node
      (suc b.nodes) (Op.Assume (opposite test)) [] n (λ e. d (sym e)));
}

pub branch_other : (test : Test) (b : Building) → Fine b → leaving (branch test b).edges (suc b.nodes) ≡ []
branch_other test b f = branch_past test b (suc b.nodes) (λ e. absurd (omega (arith, f.inside))) ∙ f.empty (suc b.nodes)
    (omega arith)

-- the present node is another one that has no edge yet
pub follows_goto : {b b1 : Building} (n : ℕ) → Follows b b1 → b.nodes ≤ n → n < b1.nodes → leaving b1.edges n ≡ []
    → Follows b (goto n b1)
follows_goto n h l i e = record {
  nodes = h.nodes;
  temps = h.temps;
  same = h.same;
  away = λ k j ne x. absurd (omega arith);
  start = h.start;
  low = omega (arith, h.start);
  fine = record { empty = h.fine.empty; present = e; inside = i };
  plain = h.plain;
}

-- two ways come together
pub record Open (b0 b : Building) (p : ℕ) : Type 0 where
  pub new : b0.nodes ≤ p
  pub inside : p < b.nodes
  pub none : leaving b.edges p ≡ []

module _ (b0 b : Building) (p q : ℕ) (h : Follows b0 b) (op : Open b0 b p) (oq : Open b0 b q) (apart : p ≢ q) where
  abbrev met : Building
  met = meet (p ∷ q ∷ []) b

  pub meet_past : (n : ℕ) → n ≢ p → n ≢ q → leaving met.edges n ≡ leaving b.edges n
  meet_past n np nq = unchanged b.edges _ n (leaving_past p b.nodes Op.Skip (edge q b.nodes Op.Skip ∷ []) n
      (λ e. np (sym e)) ∙ leaving_past q b.nodes Op.Skip [] n (λ e. nq (sym e)))

  pub meet_first : (g : Edges) → Ext met.edges g → Joins g p b.nodes
  meet_first g k = record {
    only = k.same p _ [] (placed_at b.edges _ p op.none ∙ (leaving_here p b.nodes Op.Skip (edge q b.nodes Op.Skip ∷ [])
        ∙ ap (λ z. edge p b.nodes Op.Skip ∷ z) (leaving_past q b.nodes Op.Skip [] p (λ e. apart (sym e)))));
    forward = op.inside;
  }

  pub meet_second : (g : Edges) → Ext met.edges g → Joins g q b.nodes
  meet_second g k = record {
    only = k.same q _ [] (placed_at b.edges _ q oq.none
        ∙ (leaving_past p b.nodes Op.Skip (edge q b.nodes Op.Skip ∷ []) q apart ∙ leaving_here q b.nodes Op.Skip []));
    forward = oq.inside;
  }

  pub meet_follows : Follows b0 met
  meet_follows = record {
    nodes = omega (arith, h.nodes);
    temps = h.temps;
    same = λ n l ne. meet_past n (λ e. absurd (omega (arith, op.new))) (λ e. absurd (omega (arith, oq.new)))
        ∙ h.same n l ne;
    away = λ n l ne e. absurd (omega (arith, h.nodes));
    start = h.start;
    low = omega (arith, h.start, h.nodes);
    fine = record {
      empty = λ n l. meet_past n (λ e. absurd (omega (arith, op.inside))) (λ e. absurd (omega (arith, oq.inside)))
          ∙ h.fine.empty n (omega arith);
      present = meet_past b.nodes (λ e. absurd (omega (arith, op.inside))) (λ e. absurd (omega (arith, oq.inside)))
          ∙ h.fine.empty b.nodes (omega arith);
      inside = omega arith;
    };
    plain = λ k. λ n. by_case k n (cases_eq n p) (cases_eq n q);
  }
    where
      by_case : IsPlain b0.edges → (n : ℕ) → (n ≡ p) ⊎ (n ≡ p → ⊥) → (n ≡ q) ⊎ (n ≡ q → ⊥)
          → IsFork (leaving met.edges n)
      by_case k n (inl e) d = subst (λ z. IsFork (leaving met.edges z)) (sym e)
          (subst IsFork (sym (meet_first met.edges (record { same = λ n e es x. x })).only) tt)
      by_case k n (inr c) (inl e) = subst (λ z. IsFork (leaving met.edges z)) (sym e)
          (subst IsFork (sym (meet_second met.edges (record { same = λ n e es x. x })).only) tt)
      by_case k n (inr c) (inr d) = subst IsFork (sym (meet_past n c d)) (h.plain k n)

  pub meet_ext : Ext b.edges met.edges
  meet_ext = record {
    same = λ n e es x.
        meet_past n (λ i. absurd (let k : leaving b.edges n ≡ [] = subst (λ z. leaving b.edges z ≡ [])
        (sym i) op.none in cc))
        (λ i. absurd (let k : leaving b.edges n ≡ [] = subst (λ z. leaving b.edges z ≡ []) (sym i) oq.none in cc)) ∙ x;
  }
