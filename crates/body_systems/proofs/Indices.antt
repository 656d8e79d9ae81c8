-- The heads of places, by their indices.
use Rattle.std.proofs.Common.{◌≡◌, refl, sym, ap, subst, ◌∙◌, ℕ, zero, suc, ◌+◌, ◌<◌, ◌≤◌, Bool, true, false, List, []}
use Rattle.std.proofs.Common.{◌∷◌, ◌++◌, length, get_or, drop, set, replicate, Option, Some, None, arith}
use Rattle.std.specs.Prelude.{◌==◌, cond, option_map, All, Vec}
use Rattle.std.specs.declared.alloc.Global.{Global}
use Rattle.std.proofs.lemmas.Bool.{eqb-true, eqb-false}
use Rattle.std.proofs.lemmas.List.{append_assoc, length_push, get_or_at, get_or-set_same, get_or-set_other, drop_more}
use Rattle.std.proofs.lemmas.List.{drop_all, length-set, length-replicate, get_or_default, get_or_past}
use Rattle.std.proofs.lemmas.List.{length-map, get_or-map}
use Rattle.flow_graph.specs.declared.graphs.Edge.{Edge}
use Rattle.flow_graph.specs.Graphs.{Edges}
use Rattle.graph_facts.specs.declared.regions.Head.{Head}
use Rattle.graph_facts.specs.Lists.{numbers}
use Rattle.graph_facts.specs.Edges.{AreInRange}
use Rattle.graph_facts.specs.Heads.{IsHeadUpTo, AreHeads}
use Rattle.graph_facts.proofs.Edges.{contains_among}
use Rattle.task_equations.specs.Equations.{cells_rounded}
use Rattle.body_systems.specs.reading.Indices.{index_from, index_at, AreIndices}

-- ## What an index finds

abbrev cells_of : List (List ℕ) → ℕ → List ℕ
cells_of written k = get_or written k []

found_from : (before lists : List (List ℕ)) (heads : List Head) (place : ℕ) → length lists ≡ length heads
    → option_map (cells_of (before ++ lists)) (index_from (length before) heads place)
    ≡ cells_rounded heads lists place
found_from before lists [] place e = refl
found_from before [] (h ∷ hs) place e = absurd (omega (arith, e))
found_from before (cells ∷ lists) (h ∷ hs) place e =
    by_place (found_from (before ++ cells ∷ []) lists hs place (omega (arith, e))) (h.node == place)
  where
    by_place : option_map (cells_of ((before ++ cells ∷ []) ++ lists))
        (index_from (length (before ++ cells ∷ [])) hs place) ≡ cells_rounded hs lists place → (b : Bool)
        → option_map (cells_of (before ++ cells ∷ lists))
        (cond b (Some (length before)) (index_from (suc (length before)) hs place))
        ≡ cond b (Some cells) (cells_rounded hs lists place)
    by_place later true = ap Some (get_or_at before cells lists [] (length before) refl)
    by_place later false =
        let count : length (before ++ cells ∷ []) ≡ suc (length before) = length_push before cells ∙ omega arith in
        subst (λ k. option_map (cells_of (before ++ cells ∷ lists)) (index_from k hs place)
        ≡ cells_rounded hs lists place) count
        (subst (λ whole. option_map (cells_of whole) (index_from (length (before ++ cells ∷ [])) hs place)
        ≡ cells_rounded hs lists place) (append_assoc before (cells ∷ []) lists) later)

pub rounded_found : (heads : List Head) (written : List (List ℕ)) (place : ℕ) → length written ≡ length heads
    → option_map (cells_of written) (index_from 0 heads place) ≡ cells_rounded heads written place
rounded_found heads written place count = found_from [] written heads place count

-- an index is one of the list
index_below : (k : ℕ) (heads : List Head) (place j : ℕ) → index_from k heads place ≡ Some j → j < k + length heads
index_below k [] place j e = absurd (let n : (let none : Option ℕ = None in none ≡ Some j) = e in cc)
index_below k (h ∷ hs) place j e = by_place (λ same. index_below (suc k) hs place j same) (h.node == place) e
  where
    by_place : (index_from (suc k) hs place ≡ Some j → j < suc k + length hs) → (b : Bool)
        → cond b (Some k) (index_from (suc k) hs place) ≡ Some j → j < k + length (h ∷ hs)
    by_place later true same = let is : k ≡ j = cc in omega (arith, is)
    by_place later false same = let lt = later same in omega (arith, lt)

pub index_within : (heads : List Head) (written : List (List ℕ)) (place j : ℕ) → length written ≡ length heads
    → index_from 0 heads place ≡ Some j → j < length written
index_within heads written place j count e =
    let lt = index_below 0 heads place j e in omega (arith, lt, count)

-- the lists as the code holds them
pub list_within : (heads : List Head) (written : List (Vec ℕ Global)) (place j : ℕ)
    → length (numbers written) ≡ length heads → index_from 0 heads place ≡ Some j → j < length written
list_within heads written place j count e =
    let lt = index_within heads (numbers written) place j count e in
    let same = length-map written (λ (v : Vec ℕ Global). v.items) in omega (arith, lt, same)

pub list_rounded : (heads : List Head) (written : List (Vec ℕ Global)) (place j : ℕ) (list : Vec ℕ Global)
    → length (numbers written) ≡ length heads → index_from 0 heads place ≡ Some j → list ≡ get_or written j list
    → Some list.items ≡ cells_rounded heads (numbers written) place
list_rounded heads written place j list count e is =
    ap Some (ap (λ (v : Vec ℕ Global). v.items) is
    ∙ sym (get_or-map (λ (v : Vec ℕ Global). v.items) written j list [] (list_within heads written place j count e)))
    ∙ (sym (ap (option_map (cells_of (numbers written))) e) ∙ rounded_found heads (numbers written) place count)

none_from : (k : ℕ) (heads : List Head) (written : List (List ℕ)) (place : ℕ) → index_from k heads place ≡ None
    → None ≡ cells_rounded heads written place
none_from k [] written place e = refl
none_from k (h ∷ hs) [] place e = refl
none_from k (h ∷ hs) (cells ∷ lists) place e =
    by_place (λ same. none_from (suc k) hs lists place same) (h.node == place) e
  where
    by_place : (index_from (suc k) hs place ≡ None → None ≡ cells_rounded hs lists place) → (b : Bool)
        → cond b (Some k) (index_from (suc k) hs place) ≡ None → None ≡ cond b (Some cells) (cells_rounded hs lists place)
    by_place later true same = absurd (let n : (let none : Option ℕ = None in Some k ≡ none) = same in cc)
    by_place later false same = later same

pub none_rounded : (heads : List Head) (written : List (List ℕ)) (place : ℕ) → index_from 0 heads place ≡ None
    → None ≡ cells_rounded heads written place
none_rounded heads written place e = none_from 0 heads written place e

-- an index that is read
pub index_read : (heads : List Head) (written : List (List ℕ)) (indices : List (Option ℕ)) (place : ℕ) (x : Option ℕ)
    → AreIndices heads written indices → place < length indices → x ≡ get_or indices place x
    → x ≡ index_from 0 heads place
index_read heads written indices place x are lt is = is ∙ (get_or_default indices place x None lt ∙ are.each place)

pub no_index_read : (heads : List Head) (written : List (List ℕ)) (indices : List (Option ℕ)) (place : ℕ)
    → AreIndices heads written indices → length indices ≤ place → None ≡ index_from 0 heads place
no_index_read heads written indices place are le = sym (get_or_past indices place None le) ∙ are.each place

-- ## How the indices are found

-- the indices of the heads from one on
pub record HaveIndices (places : ℕ) (heads : List Head) (k : ℕ) (indices : List (Option ℕ)) : Type 0 where
  pub count : length indices ≡ places
  pub each : (place : ℕ) → index_at indices place ≡ index_from k (drop k heads) place

none_at : (n place : ℕ) → (let none : Option ℕ = None in index_at (replicate n none) place ≡ None)
none_at zero place = refl
none_at (suc n) zero = refl
none_at (suc n) (suc place) = none_at n place

pub none_have : (places : ℕ) (heads : List Head) (k : ℕ) (indices : List (Option ℕ))
    → indices ≡ replicate places None → length heads ≤ k → HaveIndices places heads k indices
none_have places heads k indices is le = record {
  count = ap length is ∙ length-replicate places None;
  each = λ place. ap (λ xs. index_at xs place) is ∙ (none_at places place
      ∙ sym (ap (λ hs. index_from k hs place) (drop_all k heads le)));
}

pub one_has : (places : ℕ) (heads : List Head) (k : ℕ) (h : Head) (indices : List (Option ℕ))
    → k < length heads → get_or heads k h ≡ h → h.node < places → HaveIndices places heads (k + 1) indices
    → HaveIndices places heads k (set indices h.node (Some k))
one_has places heads k h indices lt is within have = record {
  count = length-set indices h.node (Some k) ∙ have.count;
  each = λ place. at_place place (h.node == place) refl
      ∙ sym (ap (λ hs. index_from k hs place)
      (drop_more heads k h lt ∙ ap (λ (x : Head). x ∷ drop (k + 1) heads) is));
}
  where
    at_place : (place : ℕ) (b : Bool) → (h.node == place) ≡ b → index_at (set indices h.node (Some k)) place
        ≡ cond b (Some k) (index_from (suc k) (drop (k + 1) heads) place)
    at_place place true e =
        subst (λ p. index_at (set indices h.node (Some k)) p ≡ Some k) (eqb-true h.node place e)
        (get_or-set_same indices h.node (Some k) None (omega (arith, within, have.count)))
    at_place place false e =
        get_or-set_other indices h.node place (Some k) None (λ same. eqb-false h.node place e (sym same))
        ∙ (have.each place ∙ ap (λ m. index_from m (drop (k + 1) heads) place) (omega arith))

-- ## Heads are places

pub heads_within : (g : Edges) (nodes : ℕ) (heads : List Head) → AreInRange g nodes → AreHeads g heads
    → All (λ (h : Head). h.node < nodes) heads
heads_within g nodes heads range are = λ k d lt. of_head (get_or heads k d) (are.each k d lt)
  where
    of_head : (h : Head) → IsHeadUpTo g h → h.node < nodes
    of_head h is =
        let found = contains_among is.head.edge g is.head.among in
        subst (λ n. n < nodes) is.head.there
        (subst (λ (e : Edge). e.to < nodes) found.2 (range found.0 is.head.edge found.1).1)
