-- What the search for nodes keeps.
use Rattle.std.proofs.Common.{◌≡◌, ◌≢◌, ◌∙◌, sym, ap, refl, subst, ℕ, zero, suc, ◌+◌, ◌<◌, ◌≤◌, ◌==◌, Bool, true, false, cond, arith}
use Rattle.std.proofs.Common.{List, [], ◌∷◌, ◌++◌, length, get_or, drop, inl, inr, All, Contains, ◌&&◌}
use Rattle.std.specs.List.{list_any, IsDistinct, AllPairs}
use Rattle.std.specs.Bool.{Decides}
use Rattle.std.proofs.lemmas.Map.Made.{AllPairs-from_IsDistinct}
use Rattle.std.proofs.Math.Seq.{drop-cons}
use Rattle.std.proofs.lemmas.List.{length-append, get_or_append_left, get_or_default}
use Rattle.std.proofs.lemmas.Bool.{eqb-true, eq-eqb, and_parts, cases_lt, cond_both}
use Rattle.std.proofs.lemmas.List.Elements.{Contains-append_right, All-push, All-nil, All-cons}
use Rattle.indexmap.proofs.CallerLemmas.{Contains-list_any}
use Rattle.flow_graph.specs.declared.graphs.Edge.{Edge}
use Rattle.flow_graph.specs.Graphs.{Edges, Leaves, Among}
use Rattle.mutex_configs.specs.declared.nodes.ConfiguredNode.{ConfiguredNode}
use Rattle.mutex_configs.specs.Sets.{answers_of, is_probe, leads_nowhere, node_after}
use Rattle.mutex_configs.specs.Nodes.{IsReached, at_entry, along, entry_node, is_same_node}
use Rattle.mutex_configs.specs.reading.Groups.{numbers_of, AreGroups}
use Rattle.mutex_configs.proofs.Grouping.{numbers_at, numbers_below}
use Rattle.std.specs.Prelude.{Vec}
use Rattle.std.specs.declared.alloc.Global.{Global}
use Rattle.mutex_configs.specs.reading.Searches.{added, added_by, added_along, added_all, edge_at, LeadsInto, IsSearch}

nothing_below : (n : ℕ) → n < 0 → ⊥
nothing_below n lt = (let f : ¬ (n < 0) = omega (arith) in f lt)

-- ## Lists that grow at their end

pub record Grows (nodes more : List ConfiguredNode) : Type 0 where
  pub longer : length nodes ≤ length more
  pub kept : (i : ℕ) (d : ConfiguredNode) → i < length nodes → get_or more i d ≡ get_or nodes i d

same_list : (nodes : List ConfiguredNode) → Grows nodes nodes
same_list nodes = record { longer = omega (arith); kept = λ i d lt. refl }

then_grows : (a b c : List ConfiguredNode) → Grows a b → Grows b c → Grows a c
then_grows a b c g h = record {
  longer = (let x = g.longer in let y = h.longer in omega (arith, x, y));
  kept = λ i d lt. h.kept i d (let x = g.longer in omega (arith, x, lt)) ∙ g.kept i d lt;
}

still_has : (a b : List ConfiguredNode) (q : ConfiguredNode) → Grows a b → Contains a q → Contains b q
still_has a b q g (i, lt, e) = (i, (let x = g.longer in omega (arith, x, lt)), g.kept i q lt ∙ e)

-- ## One more node

pub node_is : (q r : ConfiguredNode) → q.place ≡ r.place → q.held ≡ r.held → q.found ≡ r.found → q ≡ r
node_is q r e f g =
    ap (λ (n : ℕ). let x : ConfiguredNode = record { place = n; held = q.held; found = q.found } in x) e
    ∙ ap (λ (n : ℕ). let x : ConfiguredNode = record { place = r.place; held = n; found = q.found } in x) f
    ∙ ap (λ (n : ℕ). let x : ConfiguredNode = record { place = r.place; held = r.held; found = n } in x) g

pub same_is : (q r : ConfiguredNode) → is_same_node q r ≡ true → q ≡ r
same_is q r e =
    let a = and_parts (q.place == r.place) ((q.held == r.held) && (q.found == r.found)) e in
    let b = and_parts (q.held == r.held) (q.found == r.found) a.1 in
    node_is q r (eqb-true q.place r.place a.0) (eqb-true q.held r.held b.0) (eqb-true q.found r.found b.1)

pushed_grows : (nodes : List ConfiguredNode) (q : ConfiguredNode) → Grows nodes (nodes ++ q ∷ [])
pushed_grows nodes q = record {
  longer = (let e = length-append nodes (q ∷ []) in omega (arith, e));
  kept = λ i d lt. get_or_append_left nodes (q ∷ []) d i lt;
}

pushed_has : (nodes : List ConfiguredNode) (q : ConfiguredNode) → Contains (nodes ++ q ∷ []) q
pushed_has nodes q = Contains-append_right nodes (q ∷ []) q (0, (let e : 0 < 1 = omega (arith) in e), refl)

-- what one more node changes
module _ (P : ConfiguredNode → Type 0) (nodes : List ConfiguredNode) (q : ConfiguredNode) where
  pub added_grows : Grows nodes (added nodes q)
  added_grows = cond_both (list_any (is_same_node q) nodes) nodes (nodes ++ q ∷ []) (λ more. Grows nodes more) (λ e. same_list nodes) (λ e. pushed_grows nodes q)

  pub added_has : Contains (added nodes q) q
  added_has = cond_both (list_any (is_same_node q) nodes) nodes (nodes ++ q ∷ []) (λ more. Contains more q) (λ e. Contains-list_any is_same_node same_is nodes q e) (λ e. pushed_has nodes q)

  pub added_all_are : All P nodes → P q → All P (added nodes q)
  added_all_are all p = cond_both (list_any (is_same_node q) nodes) nodes (nodes ++ q ∷ []) (λ more. All P more) (λ e. all) (λ e. All-push P nodes q all p)

further : {A : Type 0} (a : A) (xs : List A) (x : A) → Contains xs x → Contains (a ∷ xs) x
further {A} a xs x (k, lt, is) = (suc k, (let l : suc k < suc (length xs) = omega (arith, lt) in l), is)

-- ## The copies of an edge

-- the node's copies of an edge with these answers lead to nodes of the list
abbrev LeadsBy : List ConfiguredNode → Edge → ConfiguredNode → List Bool → Type 0
LeadsBy nodes e q answers = (answer : Bool) → Contains answers answer → leads_nowhere e.op answer q.held ≡ false
    → Contains nodes (node_after e.op answer q e.to)

module _ (e : Edge) (q : ConfiguredNode) where
  copy_added : List ConfiguredNode → Bool → List ConfiguredNode
  copy_added nodes answer = cond (leads_nowhere e.op answer q.held) nodes (added nodes (node_after e.op answer q e.to))

  copy_grows : (nodes : List ConfiguredNode) (answer : Bool) → Grows nodes (copy_added nodes answer)
  unfolding copy_added
  copy_grows nodes answer = cond_both (leads_nowhere e.op answer q.held) nodes (added nodes (node_after e.op answer q e.to)) (λ more. Grows nodes more) (λ x. same_list nodes) (λ x. added_grows (λ r. Unit {0}) nodes (node_after e.op answer q e.to))

  copy_has : (nodes : List ConfiguredNode) (answer : Bool) → leads_nowhere e.op answer q.held ≡ false
      → Contains (copy_added nodes answer) (node_after e.op answer q e.to)
  unfolding copy_added
  copy_has nodes answer x = subst (λ b. Contains (cond b nodes (added nodes (node_after e.op answer q e.to))) (node_after e.op answer q e.to)) (sym x)
      (added_has (λ r. Unit {0}) nodes (node_after e.op answer q e.to))

  copy_all : (P : ConfiguredNode → Type 0) (nodes : List ConfiguredNode) (answer : Bool) → All P nodes
      → (leads_nowhere e.op answer q.held ≡ false → P (node_after e.op answer q e.to)) → All P (copy_added nodes answer)
  unfolding copy_added
  copy_all P nodes answer all p = cond_both (leads_nowhere e.op answer q.held) nodes (added nodes (node_after e.op answer q e.to)) (λ more. All P more) (λ x. all) (λ x. added_all_are P nodes (node_after e.op answer q e.to) all (p x))

  by_grows : (nodes : List ConfiguredNode) (answers : List Bool) → Grows nodes (added_by nodes e q answers)
  unfolding copy_added
  by_grows nodes [] = same_list nodes
  by_grows nodes (a ∷ answers) = then_grows nodes (copy_added nodes a) (added_by (copy_added nodes a) e q answers)
      (copy_grows nodes a) (by_grows (copy_added nodes a) answers)

  by_leads : (nodes : List ConfiguredNode) (answers : List Bool) → LeadsBy (added_by nodes e q answers) e q answers
  unfolding copy_added
  by_leads nodes [] answer (k, lt, is) x = absurd (nothing_below k lt)
  by_leads nodes (a ∷ answers) answer (zero, lt, is) x =
      still_has (copy_added nodes a) (added_by (copy_added nodes a) e q answers) (node_after e.op answer q e.to)
      (by_grows (copy_added nodes a) answers)
      (subst (λ b. Contains (copy_added nodes b) (node_after e.op answer q e.to)) (sym is) (copy_has nodes answer x))
  by_leads nodes (a ∷ answers) answer (suc k, lt, is) x =
      by_leads (copy_added nodes a) answers answer (k, (let l : k < length answers = omega (arith, lt) in l), is) x

  by_all : (P : ConfiguredNode → Type 0) (nodes : List ConfiguredNode) (answers : List Bool) → All P nodes
      → ((answer : Bool) → Contains answers answer → leads_nowhere e.op answer q.held ≡ false → P (node_after e.op answer q e.to))
      → All P (added_by nodes e q answers)
  unfolding copy_added
  by_all P nodes [] all p = all
  by_all P nodes (a ∷ answers) all p = by_all P (copy_added nodes a) answers
      (copy_all P nodes a all (p a (0, (let l : 0 < suc (length answers) = omega (arith) in l), refl)))
      (λ b c. p b (further a answers b c))

-- ## All edges of a node

pub asking : (nodes : List ConfiguredNode) (e : Edge) (q : ConfiguredNode) → is_probe e.op ≡ true
    → added_by (added_by nodes e q (true ∷ [])) e q (false ∷ []) ≡ added_along nodes e q
unfolding added_along
asking nodes e q is = ap (λ b. added_by nodes e q (cond b (true ∷ false ∷ []) (true ∷ []))) (sym is)

pub telling : (nodes : List ConfiguredNode) (e : Edge) (q : ConfiguredNode) → is_probe e.op ≡ false
    → added_by nodes e q (true ∷ []) ≡ added_along nodes e q
unfolding added_along
telling nodes e q is = ap (λ b. added_by nodes e q (cond b (true ∷ false ∷ []) (true ∷ []))) (sym is)

along_grows : (nodes : List ConfiguredNode) (e : Edge) (q : ConfiguredNode) → Grows nodes (added_along nodes e q)
unfolding added_along
along_grows nodes e q = by_grows e q nodes (answers_of e.op)

along_leads : (nodes : List ConfiguredNode) (e : Edge) (q : ConfiguredNode) → LeadsInto (added_along nodes e q) e q
unfolding added_along
along_leads nodes e q = by_leads e q nodes (answers_of e.op)

module _ (g : Edges) (q : ConfiguredNode) (here : IsReached g q) where
  along_all : (nodes : List ConfiguredNode) (e : Edge) → Leaves g q.place e → All (IsReached g) nodes → All (IsReached g) (added_along nodes e q)
  unfolding added_along
  along_all nodes e leaves all = by_all e q (IsReached g) nodes (answers_of e.op) all (λ answer c x. along q e answer here leaves c x)

  all_grows : (nodes : List ConfiguredNode) (ks : List ℕ) → Grows nodes (added_all g nodes ks q)
  all_grows nodes [] = same_list nodes
  all_grows nodes (k ∷ ks) = then_grows nodes (added_along nodes (edge_at g k) q) (added_all g (added_along nodes (edge_at g k) q) ks q)
      (along_grows nodes (edge_at g k) q) (all_grows (added_along nodes (edge_at g k) q) ks)

  all_reached : (nodes : List ConfiguredNode) (ks : List ℕ) → All (λ k. Leaves g q.place (edge_at g k)) ks → All (IsReached g) nodes
      → All (IsReached g) (added_all g nodes ks q)
  all_reached nodes [] leave all = all
  all_reached nodes (k ∷ ks) leave all = all_reached (added_along nodes (edge_at g k) q) ks
      (λ i d lt. leave (suc i) d (let l : suc i < suc (length ks) = omega (arith, lt) in l))
      (along_all nodes (edge_at g k) (leave 0 k (let l : 0 < suc (length ks) = omega (arith) in l)) all)

  all_lead : (nodes : List ConfiguredNode) (ks : List ℕ) (k : ℕ) → Contains ks k → LeadsInto (added_all g nodes ks q) (edge_at g k) q
  all_lead nodes [] k (i, lt, is) answer c x = absurd (nothing_below i lt)
  all_lead nodes (j ∷ ks) k (zero, lt, is) answer c x =
      still_has (added_along nodes (edge_at g j) q) (added_all g (added_along nodes (edge_at g j) q) ks q)
      (node_after (edge_at g k).op answer q (edge_at g k).to) (all_grows (added_along nodes (edge_at g j) q) ks)
      (subst (λ l. LeadsInto (added_along nodes (edge_at g l) q) (edge_at g k) q) (sym is) (along_leads nodes (edge_at g k) q) answer c x)
  all_lead nodes (j ∷ ks) k (suc i, lt, is) answer c x = all_lead (added_along nodes (edge_at g j) q) ks k
      (i, (let l : i < length ks = omega (arith, lt) in l), is) answer c x

-- ## The numbers of the edges that leave a place

among_at : (g : Edges) (k : ℕ) → k < length g → Among (edge_at g k) g
among_at [] k lt = omega (arith, lt)
among_at (e ∷ g) zero lt = inl refl
among_at (e ∷ g) (suc k) lt = inr (among_at g k (let l : k < length g = omega (arith, lt) in l))

cond_all : (P : ℕ → Type 0) (b : Bool) (k : ℕ) (ks : List ℕ) → (b ≡ true → P k) → All P ks → All P (cond b (k ∷ ks) ks)
cond_all P true k ks p all = All-cons P k ks (p refl) all
cond_all P false k ks p all = all

cond_has : (b : Bool) (k j : ℕ) (ks : List ℕ) → Contains ks j → Contains (cond b (k ∷ ks) ks) j
cond_has true k j ks c = further k ks j c
cond_has false k j ks c = c

-- all of them do, where those that are looked at stand in the graph from this number on
numbers_leave : (h g : Edges) (p k : ℕ) → ((i : ℕ) → i < length g → edge_at h (k + i) ≡ edge_at g i)
    → ((i : ℕ) → i < length g → k + i < length h)
    → All (λ j. Leaves h p (edge_at h j)) (numbers_of (λ (e : Edge). e.from) p k g)
numbers_leave h [] p k same within = All-nil (λ j. Leaves h p (edge_at h j))
numbers_leave h (e ∷ g) p k same within =
    let z : 0 < suc (length g) = omega (arith) in
    let w : k < length h = (let x = within 0 z in omega (arith, x)) in
    let at : edge_at h k ≡ e = ap (λ n. edge_at h n) (let n : k ≡ k + 0 = omega (arith) in n) ∙ same 0 z in
    cond_all (λ j. Leaves h p (edge_at h j)) (e.from == p) k (numbers_of (λ (f : Edge). f.from) p (suc k) g)
    (λ x. record { among = among_at h k w; from = ap (λ (f : Edge). f.from) at ∙ eqb-true e.from p x })
    (numbers_leave h g p (suc k)
    (λ i lt. ap (λ n. edge_at h n) (let n : suc k + i ≡ k + suc i = omega (arith) in n) ∙ same (suc i) (let l : suc i < suc (length g) = omega (arith, lt) in l))
    (λ i lt. let x = within (suc i) (let l : suc i < suc (length g) = omega (arith, lt) in l) in omega (arith, x)))

-- and all that do are among them
leave_numbers : (h g : Edges) (p k : ℕ) (f : Edge) → ((i : ℕ) → i < length g → edge_at h (k + i) ≡ edge_at g i) → Among f g → f.from ≡ p
    → (j : ℕ) × Contains (numbers_of (λ (e : Edge). e.from) p k g) j × (edge_at h j ≡ f)
leave_numbers h [] p k f same x from = elim x [ ]
leave_numbers h (e ∷ g) p k f same (inl is) from = (
  k,
  subst (λ b. Contains (cond b (k ∷ numbers_of (λ (e : Edge). e.from) p (suc k) g) (numbers_of (λ (e : Edge). e.from) p (suc k) g)) k)
      (sym (eq-eqb e.from p (ap (λ (x : Edge). x.from) is ∙ from)))
      (0, (let l : 0 < suc (length (numbers_of (λ (e : Edge). e.from) p (suc k) g)) = omega (arith) in l), refl),
  ap (λ n. edge_at h n) (let n : k ≡ k + 0 = omega (arith) in n) ∙ same 0 (let l : 0 < suc (length g) = omega (arith) in l) ∙ is,
)
leave_numbers h (e ∷ g) p k f same (inr in_rest) from =
    let r = leave_numbers h g p (suc k) f
    (λ i lt. ap (λ n. edge_at h n) (let n : suc k + i ≡ k + suc i = omega (arith) in n) ∙ same (suc i) (let l : suc i < suc (length g) = omega (arith, lt) in l))
    in_rest from in
    (r.0, cond_has (e.from == p) k r.0 (numbers_of (λ (e : Edge). e.from) p (suc k) g) r.1, r.2)

among_all : (P : Edge → Type 0) (g : Edges) (e : Edge) → All P g → Among e g → P e
among_all P [] e all x = elim x [ ]
among_all P (f ∷ g) e all (inl is) = subst P is (all 0 f (let l : 0 < suc (length g) = omega (arith) in l))
among_all P (f ∷ g) e all (inr x) = among_all P g e (λ k d lt. all (suc k) d (let l : suc k < suc (length g) = omega (arith, lt) in l)) x

-- ## The steps of the search

pub first_node : (g : Edges) (nodes : List ConfiguredNode) → nodes ≡ added [] entry_node → IsSearch g 0 nodes
first_node g nodes is = record {
  reached = subst (λ more. All (IsReached g) more) (sym is) (added_all_are (IsReached g) [] entry_node (All-nil (IsReached g)) at_entry);
  entry = subst (λ more. Contains more entry_node) (sym is) (added_has (IsReached g) [] entry_node);
  closed = λ n lt. absurd (nothing_below n lt);
}

module _ (g : Edges) (done : ℕ) (nodes more : List ConfiguredNode) (q : ConfiguredNode) (s : IsSearch g done nodes)
    (within : done < length nodes) (at : get_or nodes done entry_node ≡ q) (numbers : List ℕ)
    (of : numbers ≡ numbers_of (λ (e : Edge). e.from) q.place 0 g) (is : more ≡ added_all g nodes numbers q) where
  here : IsReached g q
  here = subst (λ r. IsReached g r) at (s.reached done entry_node within)

  leave : All (λ k. Leaves g q.place (edge_at g k)) numbers
  leave = subst (λ ks. All (λ k. Leaves g q.place (edge_at g k)) ks) (sym of)
      (numbers_leave g g q.place 0 (λ i lt. ap (λ n. edge_at g n) (let n : 0 + i ≡ i = omega (arith) in n)) (λ i lt. omega (arith, lt)))

  grows : Grows nodes more
  grows = subst (λ ns. Grows nodes ns) (sym is) (all_grows g q here nodes numbers)

  new_closed : (e : Edge) → Leaves g q.place e → LeadsInto more e q
  new_closed e l =
      let r = leave_numbers g g q.place 0 e (λ i lt. ap (λ n. edge_at g n) (let n : 0 + i ≡ i = omega (arith) in n)) l.among l.from in
      subst (λ (f : Edge). LeadsInto more f q) r.2
      (subst (λ ns. LeadsInto ns (edge_at g r.0) q) (sym is)
      (all_lead g q here nodes numbers r.0 (subst (λ ks. Contains ks r.0) (sym of) r.1)))

  old_closed : (n : ℕ) → n < done → (e : Edge) → Leaves g (get_or more n entry_node).place e → LeadsInto more e (get_or more n entry_node)
  old_closed n lt e l =
      let same = grows.kept n entry_node (omega (arith, lt, within)) in
      subst (λ (r : ConfiguredNode). LeadsInto more e r) (sym same)
      (λ answer c x. still_has nodes more (node_after e.op answer (get_or nodes n entry_node) e.to) grows
      (s.closed n lt e (subst (λ (r : ConfiguredNode). Leaves g r.place e) same l) answer c x))

  pub one_done : IsSearch g (done + 1) more
  one_done = record {
    reached = subst (λ ns. All (IsReached g) ns) (sym is) (all_reached g q here nodes numbers leave s.reached);
    entry = still_has nodes more entry_node grows s.entry;
    closed = λ n lt e l. elim (cases_lt n done) [
      | inl less ↦ old_closed n less e l
      | inr least ↦
          (let n_is : n ≡ done = omega (arith, lt, least) in
          let same : get_or more n entry_node ≡ q = ap (λ i. get_or more i entry_node) n_is ∙ grows.kept done entry_node within ∙ at in
          subst (λ (r : ConfiguredNode). LeadsInto more e r) (sym same) (new_closed e (subst (λ (r : ConfiguredNode). Leaves g r.place e) same l)))
    ];
  }

-- ## The end of the search

module _ (g : Edges) (nodes : List ConfiguredNode) (s : IsSearch g (length nodes) nodes) where
  pub all_found : (q : ConfiguredNode) → IsReached g q → Contains nodes q
  all_found _ at_entry = s.entry
  all_found _ (along q e answer reached leaves c x) =
      let r = all_found q reached in
      let same : get_or nodes r.0 entry_node ≡ q = get_or_default nodes r.0 entry_node q r.1 ∙ r.2 in
      subst (λ (p : ConfiguredNode). Contains nodes (node_after e.op answer p e.to)) same
      (s.closed r.0 r.1 e (subst (λ (p : ConfiguredNode). Leaves g p.place e) (sym same) leaves) answer c
      (subst (λ (p : ConfiguredNode). leads_nowhere e.op answer p.held ≡ false) (sym same) x))

pub all_done : (g : Edges) (done : ℕ) (nodes : List ConfiguredNode) → IsSearch g done nodes → length nodes ≤ done
    → IsSearch g (length nodes) nodes
all_done g done nodes s least = record {
  reached = s.reached;
  entry = s.entry;
  closed = λ n lt. s.closed n (omega (arith, lt, least));
}

pub place_within : (g : Edges) (places : ℕ) → 0 < places → All (λ (e : Edge). e.to < places) g → (q : ConfiguredNode) → IsReached g q → q.place < places
place_within g places some to _ at_entry = some
place_within g places some to _ (along q e answer reached leaves c x) = among_all (λ (f : Edge). f.to < places) g e to leaves.among

-- ## What comes after one number

pub one_added : (g : Edges) (nodes : List ConfiguredNode) (numbers : List ℕ) (i : ℕ) (q : ConfiguredNode) (d : ℕ) → i < length numbers
    → added_all g nodes (drop i numbers) q ≡ added_all g (added_along nodes (edge_at g (get_or numbers i d)) q) (drop (i + 1) numbers) q
one_added g nodes numbers i q d lt = ap (λ ks. added_all g nodes ks q) (drop-cons numbers i d lt)
    ∙ ap (λ n. added_all g (added_along nodes (edge_at g (get_or numbers i d)) q) (drop n numbers) q) (let e : suc i ≡ i + 1 = omega (arith) in e)

-- ## Nodes that differ

both_true : (x y : Bool) → x ≡ true → y ≡ true → (x && y) ≡ true
both_true true y e f = f
both_true false y e f = e

is_same : (q : ConfiguredNode) → is_same_node q q ≡ true
is_same q = both_true (q.place == q.place) ((q.held == q.held) && (q.found == q.found)) (eq-eqb q.place q.place refl)
    (both_true (q.held == q.held) (q.found == q.found) (eq-eqb q.held q.held refl) (eq-eqb q.found q.found refl))

decides : (q r : ConfiguredNode) → Decides (is_same_node q r) (q ≡ r)
decides q r = (same_is q r, λ e. subst (λ (p : ConfiguredNode). is_same_node q p ≡ true) e (is_same q))

pub differ : (nodes : List ConfiguredNode) → IsDistinct is_same_node nodes → AllPairs (λ q r. q ≢ r) nodes
differ nodes d = AllPairs-from_IsDistinct decides nodes d

-- ## One turn of the search

module _ (g : Edges) (places done : ℕ) (nodes slice : List ConfiguredNode) (s : IsSearch g done nodes)
    (some : 0 < places) (to : All (λ (e : Edge). e.to < places) g) (within : done < length nodes) (same : slice ≡ nodes) where
  pub present : ConfiguredNode
  present = get_or slice done entry_node

  is_present : get_or nodes done entry_node ≡ present
  unfolding present
  is_present = ap (λ ns. get_or ns done entry_node) (sym same)

  pub place_is_there : (get_or slice done entry_node).place < places
  unfolding present
  place_is_there = place_within g places some to present (subst (λ q. IsReached g q) is_present (s.reached done entry_node within))

  module _ (es : Edges) (same_edges : es ≡ g) (looked : Edges) (same_looked : looked ≡ g) (groups : List (Vec ℕ Global))
      (h : AreGroups (λ (e : Edge). e.from) looked places groups) (v : Vec ℕ Global)
      (at : v ≡ get_or groups (get_or slice done entry_node).place v) (numbers : List ℕ) (listed : numbers ≡ v.items) where
    numbers_are : numbers ≡ numbers_of (λ (e : Edge). e.from) (get_or slice done entry_node).place 0 g
    numbers_are = listed ∙ numbers_at (λ (e : Edge). e.from) looked places groups (get_or slice done entry_node).place v h place_is_there at
        ∙ ap (λ x. numbers_of (λ (e : Edge). e.from) (get_or slice done entry_node).place 0 x) same_looked

    pub numbers_within : All (λ k. k < length es) numbers
    numbers_within = subst (λ ks. All (λ k. k < length es) ks) (sym numbers_are)
        (numbers_below (λ (e : Edge). e.from) (get_or slice done entry_node).place 0 (length es) g
        (let e = ap length same_edges in omega (arith, e)))

    pub turned : (more : List ConfiguredNode) → more ≡ added_all es nodes numbers (get_or slice done entry_node) → IsSearch g (done + 1) more
    unfolding present
    turned more is = one_done g done nodes more present s within is_present numbers numbers_are
        (is ∙ ap (λ x. added_all x nodes numbers (get_or slice done entry_node)) same_edges)
