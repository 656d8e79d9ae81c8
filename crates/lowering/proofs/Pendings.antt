-- Nodes that wait for their edge, and edges that are placed from them.
use Rattle.std.proofs.Common.{◌≡◌, ◌≢◌, ◌⊎◌, inl, inr, ℕ, suc, ◌<◌, ◌≤◌, Bool, true, false, List, [], ◌∷◌, ◌++◌, refl}
use Rattle.std.proofs.Common.{sym, ◌∙◌, ap, subst, arith}
use Rattle.std.specs.Prelude.{if◌then◌else◌}
use Rattle.std.proofs.lemmas.Bool.{cases_eq}
use Rattle.flow_graph.specs.declared.graphs.Edge.{Edge}
use Rattle.flow_graph.specs.declared.operations.Operation.TheVariants as Op
use Rattle.flow_graph.specs.Graphs.{Edges, leaving, IsFork, IsPlain}
use Rattle.lowering.specs.Built.{Building, edge, skips, meet, Way, ByBreak, ByContinue, ByReturn, is_continue}
use Rattle.lowering.specs.Built.{is_return, Pending, nodes_by, still_by}
use Rattle.lowering.proofs.Edges.{Ext, Follows, Joins, leaving_past, leaving_here, unchanged, placed_at}

abbrev pub EachNode : (ℕ → Type 0) → List ℕ → Type 0
EachNode P [] = Unit {0}
EachNode P (n ∷ ns) = P n × EachNode P ns

abbrev pub EachPending : (ℕ → Type 0) → List Pending → Type 0
EachPending P [] = Unit {0}
EachPending P (q ∷ ps) = P q.node × EachPending P ps

abbrev pub EachWay : (Way → Bool) → (ℕ → Type 0) → List Pending → Type 0
EachWay f P [] = Unit {0}
EachWay f P (q ∷ ps) = (f q.way ≡ true → P q.node) × EachWay f P ps

abbrev pub NotIn : ℕ → List ℕ → Type 0
NotIn p ns = EachNode (λ n. n ≢ p) ns

abbrev pub NoDup : List ℕ → Type 0
NoDup [] = Unit {0}
NoDup (n ∷ ns) = NotIn n ns × NoDup ns

abbrev pub Distinct : List Pending → Type 0
Distinct [] = Unit {0}
Distinct (q ∷ ps) = EachPending (λ n. n ≢ q.node) ps × Distinct ps

pub nodes_map : (P Q : ℕ → Type 0) (ns : List ℕ) → ((n : ℕ) → P n → Q n) → EachNode P ns → EachNode Q ns
nodes_map P Q [] f h = tt
nodes_map P Q (n ∷ ns) f h = (f n h.0, nodes_map P Q ns f h.1)

pub nodes_zip : (P Q R : ℕ → Type 0) (ns : List ℕ) → ((n : ℕ) → P n → Q n → R n) → EachNode P ns → EachNode Q ns
    → EachNode R ns
nodes_zip P Q R [] f h k = tt
nodes_zip P Q R (n ∷ ns) f h k = (f n h.0 k.0, nodes_zip P Q R ns f h.1 k.1)

pub nodes_append : (P : ℕ → Type 0) (a b : List ℕ) → EachNode P a → EachNode P b → EachNode P (a ++ b)
nodes_append P [] b h k = k
nodes_append P (n ∷ a) b h k = (h.0, nodes_append P a b h.1 k)

pub nodes_split : (P : ℕ → Type 0) (a b : List ℕ) → EachNode P (a ++ b) → EachNode P a × EachNode P b
nodes_split P [] b h = (tt, h)
nodes_split P (n ∷ a) b h = let r = nodes_split P a b h.1 in ((h.0, r.0), r.1)

pub nodup_end : (ns : List ℕ) (p : ℕ) → NoDup ns → NotIn p ns → NoDup (ns ++ p ∷ [])
nodup_end [] p h k = (tt, tt)
nodup_end (n ∷ ns) p h k = (nodes_append (λ m. m ≢ n) ns (p ∷ []) h.0 ((λ e. k.0 (sym e)), tt), nodup_end ns p h.1 k.1)

pub each_map : (P Q : ℕ → Type 0) (ps : List Pending) → ((n : ℕ) → P n → Q n) → EachPending P ps → EachPending Q ps
each_map P Q [] f h = tt
each_map P Q (n ∷ ns) f h = (f n.node h.0, each_map P Q ns f h.1)

pub each_zip : (P Q R : ℕ → Type 0) (ps : List Pending) → ((n : ℕ) → P n → Q n → R n) → EachPending P ps
    → EachPending Q ps → EachPending R ps
each_zip P Q R [] f h k = tt
each_zip P Q R (n ∷ ns) f h k = (f n.node h.0 k.0, each_zip P Q R ns f h.1 k.1)

pub each_append : (P : ℕ → Type 0) (a b : List Pending) → EachPending P a → EachPending P b → EachPending P (a ++ b)
each_append P [] b h k = k
each_append P (n ∷ a) b h k = (h.0, each_append P a b h.1 k)

pub distinct_append : (a b : List Pending) → Distinct a → Distinct b → EachPending (λ p. EachPending (λ n. n ≢ p) b) a
    → Distinct (a ++ b)
distinct_append [] b h k c = k
distinct_append (q ∷ a) b h k c = (each_append (λ n. n ≢ q.node) a b h.0 c.0, distinct_append a b h.1 k c.1)

pub way_append : (f : Way → Bool) (P : ℕ → Type 0) (a b : List Pending) → EachWay f P (a ++ b) → EachWay f P a
    × EachWay f P b
way_append f P [] b h = (tt, h)
way_append f P (q ∷ a) b h = let r = way_append f P a b h.1 in ((h.0, r.0), r.1)

pub way_join : (f : Way → Bool) (P : ℕ → Type 0) (a b : List Pending) → EachWay f P a → EachWay f P b
    → EachWay f P (a ++ b)
way_join f P [] b h k = k
way_join f P (q ∷ a) b h k = (h.0, way_join f P a b h.1 k)

nodes_by_case : (P : ℕ → Type 0) (n : ℕ) (ns : List ℕ) (t : Bool) → P n → EachNode P ns
    → EachNode P (if t then n ∷ ns else ns)
nodes_by_case P n ns true h k = (h, k)
nodes_by_case P n ns false h k = k

pub nodes_each : (f : Way → Bool) (P : ℕ → Type 0) (ps : List Pending) → EachPending P ps → EachNode P (nodes_by f ps)
nodes_each f P [] h = tt
nodes_each f P (q ∷ ps) h = nodes_by_case P q.node (nodes_by f ps) (f q.way) h.0 (nodes_each f P ps h.1)

still_by_case : (P : ℕ → Type 0) (q : Pending) (ps : List Pending) (t : Bool) → P q.node → EachPending P ps
    → EachPending P (if t then q ∷ ps else ps)
still_by_case P q ps true h k = (h, k)
still_by_case P q ps false h k = k

pub still_each : (f : Way → Bool) (P : ℕ → Type 0) (ps : List Pending) → EachPending P ps
    → EachPending P (still_by f ps)
still_each f P [] h = tt
still_each f P (q ∷ ps) h = still_by_case P q (still_by f ps) (f q.way) h.0 (still_each f P ps h.1)

nodes_still_case : (P : ℕ → Type 0) (q : Pending) (ns : List ℕ) (ps : List Pending) → (EachPending P ps → EachNode P ns)
    → (t : Bool)
    → EachPending P (if t then q ∷ ps else ps) → EachNode P (if t then q.node ∷ ns else ns)
nodes_still_case P q ns ps f true h = (h.0, f h.1)
nodes_still_case P q ns ps f false h = f h

pub nodes_still : (f : Way → Bool) (P : ℕ → Type 0) (ps : List Pending) → EachPending P (still_by f ps)
    → EachNode P (nodes_by f ps)
nodes_still f P [] h = tt
nodes_still f P (q ∷ ps) h = nodes_still_case P q (nodes_by f ps) (still_by f ps) (λ k. nodes_still f P ps k)
    (f q.way) h

nodup_case : (n : ℕ) (ns : List ℕ) (t : Bool) → NotIn n ns → NoDup ns → NoDup (if t then n ∷ ns else ns)
nodup_case n ns true h k = (h, k)
nodup_case n ns false h k = k

pub nodes_distinct : (f : Way → Bool) (ps : List Pending) → Distinct ps → NoDup (nodes_by f ps)
nodes_distinct f [] h = tt
nodes_distinct f (q ∷ ps) h = nodup_case q.node (nodes_by f ps) (f q.way) (nodes_each f (λ n. n ≢ q.node) ps h.0)
    (nodes_distinct f ps h.1)

distinct_case : (q : Pending) (ps : List Pending) (t : Bool) → EachPending (λ n. n ≢ q.node) ps → Distinct ps
    → Distinct (if t then q ∷ ps else ps)
distinct_case q ps true h k = (h, k)
distinct_case q ps false h k = k

pub still_distinct : (f : Way → Bool) (ps : List Pending) → Distinct ps → Distinct (still_by f ps)
still_distinct f [] h = tt
still_distinct f (q ∷ ps) h = distinct_case q (still_by f ps) (f q.way) (still_each f (λ n. n ≢ q.node) ps h.0)
    (still_distinct f ps h.1)

-- those that are left are none of those that are gone
apart_case : (f f' : Way → Bool) → ((w : Way) → f w ≡ true → f' w ≡ true → ⊥) → (q : Pending) (ps : List Pending)
    → EachPending (λ n. n ≢ q.node) ps
    → EachPending (λ p. NotIn p (nodes_by f ps)) (still_by f' ps) → (t t' : Bool) → f q.way ≡ t → f' q.way ≡ t'
    → EachPending (λ p. NotIn p (if t then q.node ∷ nodes_by f ps else nodes_by f ps))
    (if t' then q ∷ still_by f' ps else still_by f' ps)
apart_case f f' x q ps h k true true e e' = absurd (x q.way e e')
apart_case f f' x q ps h k true false e e' =
    each_zip (λ n. n ≢ q.node) (λ p. NotIn p (nodes_by f ps)) (λ p. NotIn p (q.node ∷ nodes_by f ps)) (still_by f' ps)
    (λ n a b. ((λ i. a (sym i)), b)) (still_each f' (λ n. n ≢ q.node) ps h) k
apart_case f f' x q ps h k false true e e' = (nodes_each f (λ n. n ≢ q.node) ps h, k)
apart_case f f' x q ps h k false false e e' = k

pub still_apart : (f f' : Way → Bool) → ((w : Way) → f w ≡ true → f' w ≡ true → ⊥) → (ps : List Pending) → Distinct ps
    → EachPending (λ p. NotIn p (nodes_by f ps)) (still_by f' ps)
still_apart f f' x [] h = tt
still_apart f f' x (q ∷ ps) h = apart_case f f' x q ps h.0 (still_apart f f' x ps h.1) (f q.way) (f' q.way) refl refl

way_nodes_case : (f : Way → Bool) (P : ℕ → Type 0) (q : Pending) (ns : List ℕ) (t : Bool) → f q.way ≡ t
    → EachNode P (if t then q.node ∷ ns else ns)
    → (f q.way ≡ true → P q.node) × EachNode P ns
way_nodes_case f P q ns true e h = ((λ e'. h.0), h.1)
way_nodes_case f P q ns false e h = ((λ e'. absurd (let k : true ≡ false = sym e' ∙ e in cc)), h)

pub way_nodes : (f : Way → Bool) (P : ℕ → Type 0) (ps : List Pending) → EachNode P (nodes_by f ps) → EachWay f P ps
way_nodes f P [] h = tt
way_nodes f P (q ∷ ps) h = let r = way_nodes_case f P q (nodes_by f ps) (f q.way) refl h in (r.0, way_nodes f P ps r.1)

way_still_case : (f : Way → Bool) (P : ℕ → Type 0) (q : Pending) (ps : List Pending) (t : Bool) → f q.way ≡ t
    → EachWay f P (if t then q ∷ ps else ps)
    → (f q.way ≡ true → P q.node) × EachWay f P ps
way_still_case f P q ps true e h = (h.0, h.1)
way_still_case f P q ps false e h = ((λ e'. absurd (let k : true ≡ false = sym e' ∙ e in cc)), h)

pub way_still : (f : Way → Bool) (P : ℕ → Type 0) (ps : List Pending) → EachWay f P (still_by f ps) → EachWay f P ps
way_still f P [] h = tt
way_still f P (q ∷ ps) h = let r = way_still_case f P q (still_by f ps) (f q.way) refl h in (r.0, way_still f P ps r.1)

returns_only : (w : Way) → is_continue w ≡ true → is_return w ≡ true → ⊥
returns_only ByBreak a b = cc
returns_only ByContinue a b = cc
returns_only ByReturn a b = cc

no_case : (P : ℕ → Type 0) (q : Pending) (ps : List Pending) (t : Bool) → is_return q.way ≡ t → EachWay is_continue P ps
    → EachWay is_continue P (if t then q ∷ ps else ps)
no_case P q ps true e h = ((λ e'. absurd (returns_only q.way e' e)), h)
no_case P q ps false e h = h

-- of the returns none is a continue
pub no_continues : (P : ℕ → Type 0) (ps : List Pending) → EachWay is_continue P (still_by is_return ps)
no_continues P [] = tt
no_continues P (q ∷ ps) = no_case P q (still_by is_return ps) (is_return q.way) refl (no_continues P ps)

-- edges to one node
pub skips_past : (ns : List ℕ) (j p : ℕ) → NotIn p ns → leaving (skips ns j) p ≡ []
skips_past [] j p h = refl
skips_past (n ∷ ns) j p h = leaving_past n j Op.Skip (skips ns j) p h.0 ∙ skips_past ns j p h.1

pub skips_at : (ns : List ℕ) (j : ℕ) → NoDup ns → EachNode (λ p. leaving (skips ns j) p ≡ edge p j Op.Skip ∷ []) ns
skips_at [] j h = tt
skips_at (n ∷ ns) j h = (
  leaving_here n j Op.Skip (skips ns j) ∙ ap (λ z. edge n j Op.Skip ∷ z) (skips_past ns j n h.0),
  nodes_zip (λ p. p ≢ n) (λ p. leaving (skips ns j) p ≡ edge p j Op.Skip ∷ [])
      (λ p. leaving (skips (n ∷ ns) j) p ≡ edge p j Op.Skip ∷ []) ns
      (λ p a b. leaving_past n j Op.Skip (skips ns j) p (λ e. a (sym e)) ∙ b) h.0 (skips_at ns j h.1),
)

-- whether a node is among these
pub find_node : (P : ℕ → Type 0) (n : ℕ) (ns : List ℕ) → EachNode P ns → NotIn n ns ⊎ P n
find_node P n [] h = inl tt
find_node P n (m ∷ ns) h = by_case (cases_eq m n) (find_node P n ns h.1)
  where
    by_case : (m ≡ n) ⊎ (m ≡ n → ⊥) → NotIn n ns ⊎ P n → NotIn n (m ∷ ns) ⊎ P n
    by_case (inl e) r = inr (subst P e h.0)
    by_case (inr d) (inl r) = inl (d, r)
    by_case (inr d) (inr r) = inr r

pub skips_fork : (ns : List ℕ) (j : ℕ) → NoDup ns → (n : ℕ) → IsFork (leaving (skips ns j) n)
skips_fork ns j once n = by_case (find_node (λ p. leaving (skips ns j) p ≡ edge p j Op.Skip ∷ []) n ns
    (skips_at ns j once))
  where
    by_case : NotIn n ns ⊎ (leaving (skips ns j) n ≡ edge n j Op.Skip ∷ []) → IsFork (leaving (skips ns j) n)
    by_case (inl d) = subst IsFork (sym (skips_past ns j n d)) tt
    by_case (inr e) = subst IsFork (sym e) tt

-- a node of what was built from b0 on that has no edge yet
pub record Loose (b0 b : Building) (p : ℕ) : Type 0 where
  pub away : (n : ℕ) → n < b0.nodes → n ≢ b0.node → n ≢ p
  pub inside : p < b.nodes
  pub none : leaving b.edges p ≡ []

-- and that is not the present one
pub record OpenAt (b0 b : Building) (p : ℕ) : Type 0 where
  pub loose : Loose b0 b p
  pub apart : p ≢ b.node

pub open_later : {b0 b b' : Building} (p : ℕ) → Follows b b' → OpenAt b0 b p → OpenAt b0 b' p
open_later p h o = record {
  loose = record {
    away = o.loose.away;
    inside = omega (arith, h.nodes, o.loose.inside);
    none =
        h.same p o.loose.inside o.apart ∙ o.loose.none;
  };
  apart = h.away p o.loose.inside o.apart;
}

pub loose_from : {b0 b b' : Building} (p : ℕ) → Follows b0 b → Loose b b' p → Loose b0 b' p
loose_from p h o = record {
  away = λ n l ne. o.away n (omega (arith, h.nodes)) (h.away n l ne);
  inside = o.inside;
  none = o.none;
}

pub open_from : {b0 b b' : Building} (p : ℕ) → Follows b0 b → OpenAt b b' p → OpenAt b0 b' p
open_from p h o = record { loose = loose_from p h o.loose; apart = o.apart }

pub present_loose : {b0 b : Building} → Follows b0 b → Loose b0 b b.node
present_loose h = record { away = h.away; inside = h.fine.inside; none = h.fine.present }

-- edges from some of these, and a new present node
module _ (b0 b : Building) (h : Follows b0 b) (ns : List ℕ) (loose : EachNode (Loose b0 b) ns) (extra : Edges)
    (past : (n : ℕ) → NotIn n ns → leaving extra n ≡ []) where
  abbrev pub closed : Building
  closed = record { edges = b.edges ++ extra; node = b.nodes; nodes = suc b.nodes; temps = b.temps }

  closed_past : (n : ℕ) → NotIn n ns → leaving closed.edges n ≡ leaving b.edges n
  closed_past n k = unchanged b.edges extra n (past n k)

  beyond : (n : ℕ) → b.nodes ≤ n → NotIn n ns
  beyond n l = nodes_map (Loose b0 b) (λ m. m ≢ n) ns (λ m o e. absurd (omega (arith, o.inside, e))) loose

  pub closed_follows : ((n : ℕ) → IsFork (leaving extra n)) → Follows b0 closed
  closed_follows fork = record {
    nodes = omega (arith, h.nodes);
    temps = h.temps;
    same = λ n l ne. closed_past n (nodes_map (Loose b0 b) (λ m. m ≢ n) ns (λ m o e. o.away n l ne (sym e)) loose)
        ∙ h.same n l ne;
    away = λ n l ne e. absurd (omega (arith, h.nodes));
    start = h.start;
    low = omega (arith, h.start, h.nodes);
    fine = record {
      empty = λ n l. closed_past n (beyond n (omega arith)) ∙ h.fine.empty n (omega arith);
      present = closed_past b.nodes (beyond b.nodes (omega arith)) ∙ h.fine.empty b.nodes (omega arith);
      inside = omega arith;
    };
    plain = λ k n. by_case k n (find_node (Loose b0 b) n ns loose);
  }
    where
      by_case : IsPlain b0.edges → (n : ℕ) → NotIn n ns ⊎ Loose b0 b n → IsFork (leaving closed.edges n)
      by_case k n (inl d) = subst IsFork (sym (closed_past n d)) (h.plain k n)
      by_case k n (inr o) = subst IsFork (sym (placed_at b.edges extra n o.none)) (fork n)

  pub closed_ext : Ext b.edges closed.edges
  closed_ext = record {
    same = λ n e es x.
        closed_past n (nodes_map (Loose b0 b) (λ m. m ≢ n) ns
        (λ m o i. absurd (let k : leaving b.edges n ≡ [] = subst (λ z. leaving b.edges z ≡ []) i o.none in cc)) loose)
        ∙ x;
  }

  pub closed_at : (p : ℕ) → Loose b0 b p → (g : Edges) → Ext closed.edges g → (e : Edge) (es : Edges)
      → leaving extra p ≡ e ∷ es → leaving g p ≡ e ∷ es
  closed_at p o g k e es x = k.same p e es (placed_at b.edges extra p o.none ∙ x)

  pub open_closed : (p : ℕ) → OpenAt b0 b p → NotIn p ns → OpenAt b0 closed p
  open_closed p o k = record {
    loose = record {
      away = o.loose.away;
      inside = omega (arith, o.loose.inside);
      none = closed_past p k
          ∙ o.loose.none;
    };
    apart = λ e. absurd (omega (arith, o.loose.inside, e));
  }

pub meet_past : (ns : List ℕ) (b : Building) (n : ℕ) → NotIn n ns → leaving (meet ns b).edges n ≡ leaving b.edges n
meet_past ns b n k = unchanged b.edges (skips ns b.nodes) n (skips_past ns b.nodes n k)

-- a node where control comes together
pub record MeetPlaced (b0 b : Building) (ns : List ℕ) : Type 0 where
  pub follows : Follows b0 (meet ns b)
  pub ext : Ext b.edges (meet ns b).edges
  pub joins : (g : Edges) → Ext (meet ns b).edges g → EachNode (λ p. Joins g p b.nodes) ns
  pub open_still : (p : ℕ) → OpenAt b0 b p → NotIn p ns → OpenAt b0 (meet ns b) p

pub meet_placed : (b0 b : Building) → Follows b0 b → (ns : List ℕ) → EachNode (Loose b0 b) ns → NoDup ns
    → MeetPlaced b0 b ns
meet_placed b0 b h ns loose once = record {
  follows = closed_follows b0 b h ns loose (skips ns b.nodes) (skips_past ns b.nodes) (skips_fork ns b.nodes once);
  ext = closed_ext b0 b h ns loose (skips ns b.nodes) (skips_past ns b.nodes);
  joins = λ g k. nodes_zip (Loose b0 b) (λ p. leaving (skips ns b.nodes) p ≡ edge p b.nodes Op.Skip ∷ [])
      (λ p. Joins g p b.nodes) ns
      (λ p o e. record {
        only = closed_at b0 b h ns loose (skips ns b.nodes) (skips_past ns b.nodes) p o g k _ _ e;
        forward = o.inside;
      }) loose (skips_at ns b.nodes once);
  open_still = λ p o k. open_closed b0 b h ns loose (skips ns b.nodes) (skips_past ns b.nodes) p o k;
}
