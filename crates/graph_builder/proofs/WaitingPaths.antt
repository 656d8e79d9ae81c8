-- The paths of items that wait.
use Rattle.std.proofs.Common.{◌≡◌, ◌<◌, ℕ, suc, ◌+◌, List, [], ◌∷◌, ◌++◌, reverse, ap, sym, subst, ◌∙◌, length, get_or}
use Rattle.std.proofs.Common.{arith, below_more}
use Rattle.std.proofs.lemmas.List.{get_or_append_left, length-append}
use Rattle.std.proofs.Math.Seq.{get_or-append_seam}
use Rattle.tm_laid.specs.Layouts.{LaidTree}
use Rattle.flow_graph.specs.declared.graphs.Edge.{Edge}
use Rattle.flow_graph.specs.Graphs.{Edges}
use Rattle.body_builder.specs.lowering.Built.{graph_of}
use Rattle.body_builder.specs.declared.fragments.Call.{Call}
use Rattle.body_builder.specs.declared.fragments.Item.{Item}
use Rattle.body_builder.specs.declared.fragments.Item.TheVariants as Items
use Rattle.body_builder.specs.Fragments.{called_edges, edges_of}
use Rattle.graph_builder.specs.EdgePaths.{AreFirstPaths}
use Rattle.graph_builder.proofs.WaitingItems.{one_back}

-- the path of an edge is taken
pub path_taken : (laid : LaidTree) (e : Edge) (path : ℕ) (was left : List Item) (ps ps' : List ℕ) (n : ℕ)
    → was ≡ left ++ Items.Edge e ∷ [] → ps' ≡ ps ++ path ∷ []
    → length ps + length (edges_of laid (reverse was)) ≡ n → length ps' + length (edges_of laid (reverse left)) ≡ n
path_taken laid e path was left ps ps' n p q h =
    let after : length ps' ≡ length ps + 1 = ap length q ∙ length-append ps (path ∷ []) in
    let before : length (edges_of laid (reverse was)) ≡ suc (length (edges_of laid (reverse left))) =
    ap (λ (z : List Item). length (edges_of laid z)) (ap reverse p ∙ one_back left (Items.Edge e)) in
    omega (arith, after, before, h)

-- a call is opened
pub path_opened : (laid : LaidTree) (c : Call) (was left after : List Item) (k n : ℕ) → was ≡ left ++ Items.Call c ∷ []
    → edges_of laid (reverse after) ≡ called_edges laid c ++ edges_of laid (reverse left)
    → k + length (edges_of laid (reverse was)) ≡ n → k + length (edges_of laid (reverse after)) ≡ n
path_opened laid c was left after k n p q h =
    ap (λ (z : Edges). k + length z) (q ∙ sym (ap (edges_of laid) (ap reverse p ∙ one_back left (Items.Call c)))) ∙ h

-- nothing waits any more
pub paths_taken : (laid : LaidTree) (was left : List Item) (k n : ℕ) → was ≡ left ++ [] → length left ≡ 0
    → k + length (edges_of laid (reverse was)) ≡ n → k ≡ n
paths_taken laid was [] k n p z h =
    let none : length (edges_of laid (reverse was)) ≡ 0 = ap (λ (y : List Item). length (edges_of laid (reverse y))) p in
    omega (arith, none, h)
paths_taken laid was (i ∷ left) k n p z h = absurd (omega (arith, z))

-- one more body
pub paths_more : (laid : LaidTree) (count : ℕ) (ps qs : List (List ℕ)) (p : List ℕ) → AreFirstPaths laid count ps
    → length p ≡ length (graph_of laid count) → qs ≡ ps ++ p ∷ [] → AreFirstPaths laid (count + 1) qs
paths_more laid count ps qs p h one e =
    let Q : ℕ → Type 0 = λ k. length (get_or (ps ++ p ∷ []) k []) ≡ length (graph_of laid k) in
    record {
      are = ap length e ∙ length-append ps (p ∷ []) ∙ ap (λ k. k + 1) h.are;
      each = λ body lt. ap (λ (z : List (List ℕ)). length (get_or z body [])) e
          ∙ below_more Q count
          (λ k below. ap length (get_or_append_left ps (p ∷ []) [] k (subst (λ n. k < n) (sym h.are) below)) ∙ h.each k below)
          (ap length (subst (λ n. get_or (ps ++ p ∷ []) n [] ≡ p) h.are (get_or-append_seam ps p [] [])) ∙ one)
          body lt;
    }
