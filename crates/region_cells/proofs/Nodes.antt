-- What the edges that leave a node write.
use Rattle.std.proofs.Common.{◌≡◌, refl, sym, ap, subst, ◌∙◌, ℕ, suc, ◌+◌, ◌<◌, ◌≤◌, inl, inr, Bool, true, false, cond, List, [], ◌∷◌, ◌++◌, length, get_or, arith, Option, Some}
use Rattle.std.specs.Prelude.{All, ◌==◌, Contains, Vec}
use Rattle.std.specs.declared.alloc.Global.{Global}
use Rattle.std.proofs.lemmas.Bool.{cases_eq, eqb-true, eq-eqb}
use Rattle.std.proofs.lemmas.List.{append_assoc, length_push, length-append, length-map, get_or_at, get_or_default}
use Rattle.std.proofs.lemmas.List.Elements.{All-nil, All-cons}
use Rattle.flow_graph.specs.declared.graphs.Edge.{Edge}
use Rattle.flow_graph.specs.Graphs.{Edges, Among}
use Rattle.graph_facts.specs.Lists.{numbers}
use Rattle.graph_facts.specs.Leaving.{leaving_numbers, AreLeaving}
use Rattle.graph_facts.proofs.Edges.{contains_more, among_at}
use Rattle.graph_facts.proofs.Sweeps.{list_is}
use Rattle.region_cells.specs.reading.Slots.{slot_of}
use Rattle.region_cells.specs.reading.Marks.{IsSlotFrom, HasMarked, HasMarkedFrom}
use Rattle.region_cells.proofs.Marking.{marked_as, marked_both, marked_nothing}

-- ## The numbers of these edges

-- an edge that leaves the node, by its number
pub record LeavesBy (g : Edges) (node k : ℕ) : Type 0 where
  pub within : k < length g
  pub from : (d : Edge) → (get_or g k d).from ≡ node

at_place : (k : ℕ) (p s g : Edges) (x d : Edge) → g ≡ p ++ x ∷ s → k ≡ length p → get_or g k d ≡ x
at_place k p s g x d e h = ap (λ z. get_or z k d) e ∙ get_or_at p x s d k (sym h)

regrouped : (p s g : Edges) (x : Edge) → g ≡ p ++ x ∷ s → g ≡ (p ++ x ∷ []) ++ s
regrouped p s g x e = e ∙ sym (append_assoc p (x ∷ []) s)

one_number : (b : Bool) (P : ℕ → Type 0) (k : ℕ) (ns : List ℕ) → (b ≡ true → P k) → All P ns → All P (cond b (k ∷ ns) ns)
one_number true P k ns h a = All-cons P k ns (h refl) a
one_number false P k ns h a = a

numbers_leave : (n k : ℕ) (p s g : Edges) → g ≡ p ++ s → k ≡ length p → All (LeavesBy g n) (leaving_numbers k s n)
numbers_leave n k p [] g e h = All-nil (LeavesBy g n)
numbers_leave n k p (x ∷ s) g e h =
    one_number (x.from == n) (LeavesBy g n) k (leaving_numbers (suc k) s n)
    (λ t. record {
      within = (let a = ap length e in let b = length-append p (x ∷ s) in omega (arith, a, b, h));
      from = λ d. ap (λ y. y.from) (at_place k p s g x d e h) ∙ eqb-true x.from n t;
    })
    (numbers_leave n (suc k) (p ++ x ∷ []) s g (regrouped p s g x e) (let l = length_push p x in omega (arith, h, l)))

pub leaves_at : (g : Edges) (n : ℕ) (ns : List ℕ) (i : ℕ) → ns ≡ leaving_numbers 0 g n → i < length ns → LeavesBy g n (get_or ns i 0)
leaves_at g n ns i e lt = (subst (λ (xs : List ℕ). All (LeavesBy g n) xs) (sym e) (numbers_leave n 0 [] g g refl refl)) i 0 lt

taken : (b : Bool) (k : ℕ) (ns : List ℕ) → b ≡ true → Contains (cond b (k ∷ ns) ns) k
taken true k ns e = (0, omega arith, refl)
taken false k ns e = absurd cc

kept : (b : Bool) (k j : ℕ) (ns : List ℕ) → Contains ns j → Contains (cond b (k ∷ ns) ns) j
kept true k j ns c = contains_more j k ns c
kept false k j ns c = c

-- the number of an edge that leaves a node is among them
pub record IsNumbered (g : Edges) (ns : List ℕ) (e : Edge) : Type 0 where
  pub number : ℕ
  pub is : get_or g number e ≡ e
  pub listed : Contains ns number

numbered : (n k : ℕ) (p s g : Edges) (e : Edge) → g ≡ p ++ s → k ≡ length p → Among e s → e.from ≡ n → IsNumbered g (leaving_numbers k s n) e
numbered n k p [] g e q h a f = absurd a
numbered n k p (x ∷ s) g e q h (inl same) f = record {
  number = k;
  is = at_place k p s g x e q h ∙ same;
  listed = taken (x.from == n) k (leaving_numbers (suc k) s n) (eq-eqb x.from n (ap (λ y. y.from) same ∙ f));
}
numbered n k p (x ∷ s) g e q h (inr more) f =
    let r = numbered n (suc k) (p ++ x ∷ []) s g e (regrouped p s g x q) (let l = length_push p x in omega (arith, h, l)) more f in
    record { number = r.number; is = r.is; listed = kept (x.from == n) k r.number (leaving_numbers (suc k) s n) r.listed }

pub here_numbers : (g : Edges) (nodes n : ℕ) (lists : List (Vec ℕ Global)) (v : Vec ℕ Global) (ns : List ℕ) → AreLeaving g nodes (numbers lists) → n < nodes → v ≡ get_or lists n v → ns ≡ v.items
    → ns ≡ leaving_numbers 0 g n
here_numbers g nodes n lists v ns leaving lt is e =
    list_is lists n v ns (let a = leaving.node_count in let b = length-map lists (λ (w : Vec ℕ Global). w.items) in omega (arith, a, b, lt)) is e ∙ leaving.numbers n lt

-- ## Their slots

-- the slot of what one of the first edges of the node writes
pub record IsSlotAt (g : Edges) (objects : ℕ) (ns : List ℕ) (end s : ℕ) : Type 0 where
  pub place : ℕ
  pub below : place < end
  pub edge : Edge
  pub is : edge ≡ get_or g (get_or ns place 0) edge
  pub slot : slot_of objects edge.op ≡ Some s

pub slots_none : (g : Edges) (objects : ℕ) (ns : List ℕ) (marks : List Bool) → HasMarked (IsSlotAt g objects ns 0) marks marks
slots_none g objects ns marks = marked_nothing (IsSlotAt g objects ns 0) marks (λ s p. let b = p.below in omega (arith, b))

same_slot : (s t : ℕ) (o : Option ℕ) → o ≡ Some s → o ≡ Some t → s ≡ t
same_slot s t o a b = cc

pub slots_more : (g : Edges) (objects : ℕ) (ns : List ℕ) (i : ℕ) (e : Edge) (slot : Option ℕ) (old cur new : List Bool) → e ≡ get_or g (get_or ns i 0) e → get_or ns i 0 < length g
    → slot ≡ slot_of objects e.op → HasMarked (IsSlotAt g objects ns i) old cur → HasMarked (λ s. slot ≡ Some s) cur new → HasMarked (IsSlotAt g objects ns (i + 1)) old new
slots_more g objects ns i e slot old cur new is within gives before one =
    marked_both (IsSlotAt g objects ns i) (λ s. slot ≡ Some s) (IsSlotAt g objects ns (i + 1)) old cur new
    (λ s p. elim (cases_eq p.place i) [
      | inl same ↦
          (let P : ℕ → Type 0 = λ k. p.edge ≡ get_or g (get_or ns k 0) p.edge in
          let x : p.edge ≡ e = subst P same p.is ∙ get_or_default g (get_or ns i 0) p.edge e within ∙ sym is in
          inr (gives ∙ sym (ap (λ (y : Edge). slot_of objects y.op) x) ∙ p.slot))
      | inr other ↦ inl (record { place = p.place; below = (let u : p.place ≡ i → ⊥ = other in let b = p.below in omega (arith, u, b)); edge = p.edge; is = p.is; slot = p.slot })
    ])
    (λ s p. record { place = p.place; below = (let b = p.below in omega (arith, b)); edge = p.edge; is = p.is; slot = p.slot })
    (λ s q. record { place = i; below = omega arith; edge = e; is = is; slot = sym gives ∙ q })
    before one

-- all edges of the node
pub slots_all : (g : Edges) (objects node : ℕ) (ns : List ℕ) (i : ℕ) (old new : List Bool) → ns ≡ leaving_numbers 0 g node → length ns ≤ i → i ≤ length ns → HasMarked (IsSlotAt g objects ns i) old new
    → HasMarkedFrom g objects node (node + 1) old new
slots_all g objects node ns i old new e le ge h =
    marked_as (IsSlotAt g objects ns i) (IsSlotFrom g objects node (node + 1)) old new
    (λ s p.
    let l = leaves_at g node ns p.place e (let b = p.below in omega (arith, b, ge)) in
    let f : p.edge.from ≡ node = ap (λ (y : Edge). y.from) p.is ∙ l.from p.edge in
    record {
      edge = p.edge;
      among = subst (λ (y : Edge). Among y g) (sym p.is) (among_at g (get_or ns p.place 0) p.edge l.within);
      from = omega (arith, f);
      below = omega (arith, f);
      slot = p.slot;
    })
    (λ s lt p.
    let f : p.edge.from ≡ node = (let a = p.from in let b = p.below in omega (arith, a, b)) in
    let r = numbered node 0 [] g g p.edge refl refl p.among f in
    let c : Contains ns r.number = subst (λ (xs : List ℕ). Contains xs r.number) (sym e) r.listed in
    let at : get_or ns c.0 0 ≡ r.number = get_or_default ns c.0 0 r.number c.1 ∙ c.2 in
    let P : ℕ → Type 0 = λ k. p.edge ≡ get_or g k p.edge in
    record {
      place = c.0;
      below = (let b = c.1 in omega (arith, b, le));
      edge = p.edge;
      is = subst P (sym at) (sym r.is);
      slot = p.slot;
    })
    h

-- ## Nodes one after the other

pub nodes_none : (g : Edges) (objects node : ℕ) (marks : List Bool) → HasMarkedFrom g objects node node marks marks
nodes_none g objects node marks = marked_nothing (IsSlotFrom g objects node node) marks (λ s p. let a = p.from in let b = p.below in omega (arith, a, b))

pub nodes_more : (g : Edges) (objects low node : ℕ) (old cur new : List Bool) → low ≤ node → HasMarkedFrom g objects low node old cur → HasMarkedFrom g objects node (node + 1) cur new
    → HasMarkedFrom g objects low (node + 1) old new
nodes_more g objects low node old cur new le before one =
    marked_both (IsSlotFrom g objects low node) (IsSlotFrom g objects node (node + 1)) (IsSlotFrom g objects low (node + 1)) old cur new
    (λ s p. elim (cases_eq p.edge.from node) [
      | inl e ↦ inr (record { edge = p.edge; among = p.among; from = omega (arith, e); below = omega (arith, e); slot = p.slot })
      | inr o ↦ inl (record { edge = p.edge; among = p.among; from = p.from; below = (let u : p.edge.from ≡ node → ⊥ = o in let b = p.below in omega (arith, u, b)); slot = p.slot })
    ])
    (λ s p. record { edge = p.edge; among = p.among; from = p.from; below = (let b = p.below in omega (arith, b)); slot = p.slot })
    (λ s p. record { edge = p.edge; among = p.among; from = (let a = p.from in omega (arith, a, le)); below = p.below; slot = p.slot })
    before one
