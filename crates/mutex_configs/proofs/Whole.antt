-- Whole programs: configured graphs one behind the other.
use Rattle.std.proofs.Common.{◌≡◌, sym, ap, refl, subst, ℕ, suc, ◌+◌, ◌<◌, ◌≤◌, arith}
use Rattle.std.proofs.Common.{List, [], ◌∷◌, ◌++◌, length, get_or, take, All, Some}
use Rattle.std.proofs.Math.Seq.{take-suc}
use Rattle.std.proofs.lemmas.List.Elements.{All-contains_itself, All-nil, All-cons}
use Rattle.tm_terms.specs.declared.refusals.Limit.TheVariants as Limits
use Rattle.tm_laid.specs.declared.scales.Scale.{Scale}
use Rattle.tm_laid.specs.declared.scales.Scale.TheVariants as Scales
use Rattle.tm_laid.specs.Scales.{number_on}
use Rattle.flow_graph.specs.declared.graphs.Edge.{Edge}
use Rattle.flow_graph.specs.declared.graphs.Graph.{Graph}
use Rattle.flow_graph.specs.Graphs.{Edges}
use Rattle.mutex_configs.specs.declared.nodes.ConfiguredNode.{ConfiguredNode}
use Rattle.mutex_configs.specs.declared.nodes.ConfiguredGraph.{ConfiguredGraph}
use Rattle.mutex_configs.specs.Nodes.{AreNodes}
use Rattle.mutex_configs.specs.Programs.{AreConfigured}
use Rattle.mutex_configs.specs.reading.Configuring.{IsOne}
use Rattle.mutex_configs.proofs.Searching.{place_within}

-- the places of nodes are places of the graph
pub places_are : (g : Edges) (places : ℕ) (nodes : List ConfiguredNode) → AreNodes g nodes → 0 < places → All (λ (e : Edge). e.to < places) g
    → All (λ (q : ConfiguredNode). q.place < places) nodes
places_are g places nodes a some to k d lt =
    place_within g places some to (get_or nodes k d) ((a.reached (get_or nodes k d)).0 (All-contains_itself nodes k d lt))

-- one more graph
configured_more : (scale : Scale) (gs : List Graph) (cs : List ConfiguredGraph) (g : Graph) (c : ConfiguredGraph)
    → AreConfigured scale gs cs → IsOne scale g (Some c) → AreConfigured scale (gs ++ g ∷ []) (cs ++ c ∷ [])
configured_more scale [] [] g c a one = (one.0, one.1, tt)
configured_more scale [] (d ∷ cs) g c a one = absurd a
configured_more scale (h ∷ gs) [] g c a one = absurd a
configured_more scale (h ∷ gs) (d ∷ cs) g c a one = (a.0, a.1, configured_more scale gs cs g c a.2 one)

pub one_more_graph : (scale : Scale) (gs : List Graph) (i : ℕ) (d : Graph) (cs more : List ConfiguredGraph) (c : ConfiguredGraph)
    → i < length gs → AreConfigured scale (take i gs) cs → IsOne scale (get_or gs i d) (Some c) → more ≡ cs ++ c ∷ []
    → AreConfigured scale (take (i + 1) gs) more
one_more_graph scale gs i d cs more c lt a one is =
    subst (λ n. AreConfigured scale (take n gs) more) (let z : suc i ≡ i + 1 = omega (arith) in z)
    (subst (λ hs. AreConfigured scale hs more) (sym (take-suc gs i d lt))
    (subst (λ ds. AreConfigured scale (take i gs ++ get_or gs i d ∷ []) ds) (sym is)
    (configured_more scale (take i gs) cs (get_or gs i d) c a one)))

-- what each of them has
pub same_length : (scale : Scale) (gs : List Graph) (cs : List ConfiguredGraph) → AreConfigured scale gs cs → length cs ≡ length gs
same_length scale [] [] a = refl
same_length scale [] (c ∷ cs) a = absurd a
same_length scale (g ∷ gs) [] a = absurd a
same_length scale (g ∷ gs) (c ∷ cs) a = ap suc (same_length scale gs cs a.2)

-- no scale allows more nodes
pub most_nodes : (scale : Scale) → number_on scale Limits.Nodes ≤ 200000
most_nodes Scales.Usual = let z : 20000 ≤ 200000 = omega (arith) in z
most_nodes Scales.Large = let z : 200000 ≤ 200000 = omega (arith) in z

pub all_small : (scale : Scale) (gs : List Graph) (cs : List ConfiguredGraph) → AreConfigured scale gs cs
    → All (λ (c : ConfiguredGraph). length c.nodes.keys ≤ 200000) cs
all_small scale [] [] a = All-nil (λ (c : ConfiguredGraph). length c.nodes.keys ≤ 200000)
all_small scale [] (c ∷ cs) a = absurd a
all_small scale (g ∷ gs) [] a = absurd a
all_small scale (g ∷ gs) (c ∷ cs) a =
    let few = a.1 in
    let most = most_nodes scale in
    let small : length c.nodes.keys ≤ 200000 = omega (arith, few, most) in
    All-cons (λ (d : ConfiguredGraph). length d.nodes.keys ≤ 200000) c cs small (all_small scale gs cs a.2)
