-- The edges that leave a node, by their numbers.
use Rattle.std.proofs.Common.{◌≡◌, refl, sym, ap, subst, ◌∙◌, ℕ, suc, ◌<◌, Bool, true, false, cond, List, [], ◌∷◌, ◌++◌, length, get_or, map, arith}
use Rattle.std.specs.Prelude.{All, ◌==◌, Vec}
use Rattle.std.specs.declared.alloc.Global.{Global}
use Rattle.std.proofs.lemmas.Bool.{eqb-true}
use Rattle.std.proofs.lemmas.List.{append_assoc, length_push, length-append, length-map, get_or_at}
use Rattle.std.proofs.lemmas.List.Elements.{All-nil, All-cons}
use Rattle.flow_graph.specs.declared.graphs.Edge.{Edge}
use Rattle.flow_graph.specs.Graphs.{Edges, leaving}
use Rattle.graph_facts.specs.Lists.{numbers}
use Rattle.graph_facts.specs.Leaving.{leaving_numbers, AreLeaving}
use Rattle.graph_facts.proofs.Sweeps.{list_is}
use Rattle.graph_positions.specs.reading.Steps.{no_edge, edge_at, LeavesBy}

one_edge : (b : Bool) (f : ℕ → Edge) (k : ℕ) (x : Edge) (ns : List ℕ) (es : Edges) → f k ≡ x → map f ns ≡ es → map f (cond b (k ∷ ns) ns) ≡ cond b (x ∷ es) es
one_edge true f k x ns es e h = ap (λ y. y ∷ map f ns) e ∙ ap (λ ys. x ∷ ys) h
one_edge false f k x ns es e h = h

at_place : (k : ℕ) (p s g : Edges) (x : Edge) → g ≡ p ++ x ∷ s → k ≡ length p → edge_at g k ≡ x
at_place k p s g x e h = ap (λ z. get_or z k no_edge) e ∙ get_or_at p x s no_edge k (sym h)

regrouped : (p s g : Edges) (x : Edge) → g ≡ p ++ x ∷ s → g ≡ (p ++ x ∷ []) ++ s
regrouped p s g x e = e ∙ sym (append_assoc p (x ∷ []) s)

-- they are the edges that leave it
pub edges_by : (n k : ℕ) (p s g : Edges) → g ≡ p ++ s → k ≡ length p → map (edge_at g) (leaving_numbers k s n) ≡ leaving s n
edges_by n k p [] g e h = refl
edges_by n k p (x ∷ s) g e h =
    one_edge (x.from == n) (edge_at g) k x (leaving_numbers (suc k) s n) (leaving s n) (at_place k p s g x e h)
    (edges_by n (suc k) (p ++ x ∷ []) s g (regrouped p s g x e) (let l = length_push p x in omega (arith, h, l)))

one_number : (b : Bool) (P : ℕ → Type 0) (k : ℕ) (ns : List ℕ) → (b ≡ true → P k) → All P ns → All P (cond b (k ∷ ns) ns)
one_number true P k ns h a = All-cons P k ns (h refl) a
one_number false P k ns h a = a

pub numbers_leave : (n k : ℕ) (p s g : Edges) → g ≡ p ++ s → k ≡ length p → All (LeavesBy g n) (leaving_numbers k s n)
numbers_leave n k p [] g e h = All-nil (LeavesBy g n)
numbers_leave n k p (x ∷ s) g e h =
    one_number (x.from == n) (LeavesBy g n) k (leaving_numbers (suc k) s n)
    (λ t. record {
      within = (let a = ap length e in let b = length-append p (x ∷ s) in omega (arith, a, b, h));
      from = ap (λ y. y.from) (at_place k p s g x e h) ∙ eqb-true x.from n t;
    })
    (numbers_leave n (suc k) (p ++ x ∷ []) s g (regrouped p s g x e) (let l = length_push p x in omega (arith, h, l)))

-- ## Those of one node

pub here_numbers : (g : Edges) (nodes n : ℕ) (lists : List (Vec ℕ Global)) (v : Vec ℕ Global) (ns : List ℕ) → AreLeaving g nodes (numbers lists) → n < nodes → v ≡ get_or lists n v → ns ≡ v.items
    → ns ≡ leaving_numbers 0 g n
here_numbers g nodes n lists v ns leaving lt is e =
    list_is lists n v ns (let a = leaving.node_count in let b = length-map lists (λ (w : Vec ℕ Global). w.items) in omega (arith, a, b, lt)) is e ∙ leaving.numbers n lt

pub edges_of : (g : Edges) (n : ℕ) (ns : List ℕ) → ns ≡ leaving_numbers 0 g n → map (edge_at g) ns ≡ leaving g n
edges_of g n ns e = ap (λ (xs : List ℕ). map (edge_at g) xs) e ∙ edges_by n 0 [] g g refl refl

pub leaves_at : (g : Edges) (n : ℕ) (ns : List ℕ) (i : ℕ) → ns ≡ leaving_numbers 0 g n → i < length ns → LeavesBy g n (get_or ns i 0)
leaves_at g n ns i e lt = (subst (λ (xs : List ℕ). All (LeavesBy g n) xs) (sym e) (numbers_leave n 0 [] g g refl refl)) i 0 lt
