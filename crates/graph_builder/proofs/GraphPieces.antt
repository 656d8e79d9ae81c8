-- The graph of a body by its fragment.
use Rattle.std.proofs.Common.{◌≡◌, ◌<◌, ℕ, ◌+◌, Bool, true, false, List, [], ◌∷◌, ◌++◌, length, get_or, refl, ap, sym}
use Rattle.std.proofs.Common.{◌∙◌, subst, below_more}
use Rattle.std.specs.Prelude.{nat_lt, if◌then◌else◌, Some, ◌≤◌}
use Rattle.std.proofs.lemmas.List.{get_or_append_left, length-append}
use Rattle.std.proofs.Math.Seq.{get_or-append_seam}
use Rattle.tm_terms.specs.declared.refusals.Limit.TheVariants as Limits
use Rattle.tm_laid.specs.declared.scales.Scale.{Scale}
use Rattle.tm_laid.specs.Scales.{number_on}
use Rattle.tm_laid.specs.Layouts.{LaidTree, first_path}
use Rattle.flow_graph.specs.declared.graphs.Graph.{Graph}
use Rattle.body_builder.specs.lowering.Built.{Building, path_piece, function_end, task_end, entry, built, graph_of}
use Rattle.body_builder.specs.declared.fragments.Fragment.{Fragment}
use Rattle.body_builder.specs.Fragments.{edges_of, so_far}
use Rattle.graph_builder.specs.declared.ends.End.{End}
use Rattle.graph_builder.specs.declared.ends.End.TheVariants as Ends
use Rattle.graph_builder.specs.Ends.{closing, end_of}
use Rattle.graph_builder.specs.Lowered.{IsGraphOf, AreGraphs, HasTooManyNodes}
use Rattle.graph_builder.specs.reading.Finding.{IsOne, AreFirst}

closing_by : (task : Bool)
    → closing (if task then Ends.Task else Ends.Function) ≡ (if task then task_end else function_end)
closing_by true = refl
closing_by false = refl

-- a body is built from the entry on
pub entered : (laid : LaidTree) (body path depth : ℕ) (end : End) (b b' : Building)
    → end ≡ end_of laid body → path ≡ first_path laid body → depth ≡ length laid.file.functions → b ≡ entry
    → b' ≡ (path_piece (closing end) laid depth path b).at → b' ≡ built laid body
entered laid body path depth end b b' e p d s h =
    let n = length laid.file.functions in
    let q = first_path laid body in
    let close : closing end ≡ (if nat_lt body (length laid.file.tasks) then task_end else function_end) =
    ap closing e ∙ closing_by (nat_lt body (length laid.file.tasks)) in
    h ∙ (ap (λ (z : Building). (path_piece (closing end) laid depth path z).at) s
    ∙ (ap (λ k. (path_piece (closing end) laid k path entry).at) d
    ∙ (ap (λ k. (path_piece (closing end) laid n k entry).at) p
    ∙ ap (λ (f : List ℕ → Building → Building). (path_piece f laid n q entry).at) close)))

nodes_of : (laid : LaidTree) (f : Fragment) (b : Building) → so_far laid f ≡ b → f.nodes ≡ b.nodes
unfolding so_far
nodes_of laid f b e = ap (λ (z : Building). z.nodes) e

edges_in : (laid : LaidTree) (f : Fragment) (b : Building) → so_far laid f ≡ b → edges_of laid f.items.items ≡ b.edges
unfolding so_far
edges_in laid f b e = ap (λ (z : Building). z.edges) e

-- as many as the edges of its graph
pub counted : (laid : LaidTree) (body : ℕ) (f : Fragment) (along : List ℕ) → so_far laid f ≡ built laid body
    → length along ≡ length (edges_of laid f.items.items) → length along ≡ length (graph_of laid body)
counted laid body f along e h = h ∙ ap length (edges_in laid f (built laid body) e)

-- the graph of a body is that of its fragment
pub whole : (scale : Scale) (laid : LaidTree) (body : ℕ) (f : Fragment) (g : Graph) → so_far laid f ≡ built laid body
    → g.body ≡ body → g.nodes ≡ f.nodes → g.edges.items ≡ edges_of laid f.items.items
    → f.nodes ≤ number_on scale Limits.Nodes → IsOne scale laid body (Some g)
whole scale laid body f g e b n es few =
    let is : IsGraphOf laid body g = record {
      number = b;
      nodes = n ∙ nodes_of laid f (built laid body) e;
      edges = es ∙ edges_in laid f (built laid body) e;
    } in
    let within : (built laid body).nodes ≤ number_on scale Limits.Nodes =
    subst (λ k. k ≤ number_on scale Limits.Nodes) (nodes_of laid f (built laid body) e) few in
    (is, within)

pub over : (scale : Scale) (laid : LaidTree) (body : ℕ) (f : Fragment) → so_far laid f ≡ built laid body
    → number_on scale Limits.Nodes < f.nodes → number_on scale Limits.Nodes < (built laid body).nodes
over scale laid body f e more = subst (λ k. number_on scale Limits.Nodes < k) (nodes_of laid f (built laid body) e) more

-- one more graph
each_more : (laid : LaidTree) (gs : List Graph) (g : Graph) → (body : ℕ) → IsGraphOf laid (length gs) g
    → ((k : ℕ) → k < length gs → (other : Graph) → IsGraphOf laid k (get_or gs k other))
    → body < length gs + 1 → (other : Graph) → IsGraphOf laid body (get_or (gs ++ g ∷ []) body other)
each_more laid gs g body one each lt =
    let P : ℕ → Type 0 = λ k. (other : Graph) → IsGraphOf laid k (get_or (gs ++ g ∷ []) k other) in
    below_more P (length gs)
    (λ k h other. subst (IsGraphOf laid k) (sym (get_or_append_left gs (g ∷ []) other k h)) (each k h other))
    (λ other. subst (IsGraphOf laid (length gs)) (sym (get_or-append_seam gs g [] other)) one)
    body lt

few_more : (scale : Scale) (laid : LaidTree) (count body : ℕ) → (built laid count).nodes ≤ number_on scale Limits.Nodes
    → ((k : ℕ) → k < count → (built laid k).nodes ≤ number_on scale Limits.Nodes)
    → body < count + 1 → (built laid body).nodes ≤ number_on scale Limits.Nodes
few_more scale laid count body one each lt =
    let P : ℕ → Type 0 = λ k. (built laid k).nodes ≤ number_on scale Limits.Nodes in
    below_more P count each one body lt

pub one_more : (scale : Scale) (laid : LaidTree) (count : ℕ) (gs hs : List Graph) (g : Graph)
    → AreFirst scale laid count gs → IsOne scale laid count (Some g) → hs ≡ gs ++ g ∷ []
    → AreFirst scale laid (count + 1) hs
one_more scale laid count gs hs g h one e =
    let l : length hs ≡ length gs + 1 = ap length e ∙ length-append gs (g ∷ []) in
    let here : IsGraphOf laid (length gs) g = subst (λ k. IsGraphOf laid k g) (sym h.are) one.0 in
    let few : (built laid (length gs)).nodes ≤ number_on scale Limits.Nodes =
    subst (λ k. (built laid k).nodes ≤ number_on scale Limits.Nodes) (sym h.are) one.1 in
    record {
      are = l ∙ ap (λ k. k + 1) h.are;
      each = λ body other lt. subst (λ (ys : List Graph). IsGraphOf laid body (get_or ys body other)) (sym e)
          (each_more laid gs g body here (λ k below d. h.each k d below) (subst (λ n. body < n) l lt) other);
      few = λ body lt. few_more scale laid (length gs) body few h.few (subst (λ n. body < n) l lt);
    }

-- all of them
pub all_graphs : (scale : Scale) (laid : LaidTree) (count : ℕ) (gs : List Graph) → AreFirst scale laid count gs
    → count ≡ length laid.bodies → AreGraphs scale laid gs
all_graphs scale laid count gs h e = record { count = h.are ∙ e; each = h.each; few = h.few }

pub too_many : (scale : Scale) (laid : LaidTree) (body : ℕ) → body < length laid.bodies
    → number_on scale Limits.Nodes < (built laid body).nodes → HasTooManyNodes scale laid
too_many scale laid body within more = record { body = body; within = within; more = more }
