-- The graphs of a typed file that is laid out can be configured.
use Rattle.std.proofs.Common.{◌≡◌, ◌<◌, ◌≤◌, ◌^◌, ℕ, List, [], ◌∷◌, ◌++◌, length, map, get_or, ap, subst, sym, arith, All}
use Rattle.std.specs.Prelude.{Option, Some, None}
use Rattle.std.proofs.lemmas.List.{length-append, length-map}
use Rattle.tm_laid.specs.tm_typed.Files.{TypedFileTree}
use Rattle.tm_laid.specs.declared.scales.Scale.{Scale}
use Rattle.tm_laid.specs.Layouts.{LaidTree, layout_of}
use Rattle.tm_laid.specs.Paths.{bodies_of, listed}
use Rattle.mutex_configs.specs.flow_graph.declared.graphs.Graph.{Graph}
use Rattle.layout_laws.specs.Limited.{IsLimited}
use Rattle.layout_laws.proofs.Kept.{limits_kept}
use Rattle.lowering_laws.specs.LaidFiles.{IsLaidFile}
use Rattle.lowering_laws.proofs.Configured.{configurable}
use Rattle.mutex_configs.specs.Graphs.{IsGraph}
use Rattle.graph_builder.specs.Lowered.{AreGraphs}

pub are_graphs : (scale : Scale) (laid : LaidTree) (graphs : List Graph) → IsLaidFile laid
    → AreGraphs scale laid graphs → All IsGraph graphs
are_graphs scale laid graphs file are k d lt =
    let g = are.each k d lt in
    configurable laid file k (get_or graphs k d) g.edges g.nodes

pub few_cells : (laid : LaidTree) → IsLaidFile laid → length laid.abstract_cells ≤ 65536
few_cells laid file = (limits_kept file.scale file.file laid file.answered).abstract_cells

few_listed : (o : Option ℕ) → length (listed o) ≤ 1
few_listed None = omega arith
few_listed (Some n) = omega arith

few_bodies : (file : TypedFileTree) (laid : LaidTree) → IsLimited file laid → length laid.bodies ≤ 33
unfolding layout_of
few_bodies file laid h =
    let same : length laid.bodies ≡ length (bodies_of file) = ap (λ (l : LaidTree). length l.bodies) h.whole in
    let tasks : length file.tasks ≤ 32 = subst (λ (l : LaidTree). length l.file.tasks ≤ 32) h.whole h.tasks in
    let all = length-append (map (λ t. t.function) file.tasks) (listed file.main) in
    let each : length (map (λ t. t.function) file.tasks) ≡ length file.tasks = length-map file.tasks (λ t. t.function) in
    omega (arith, same, tasks, all, each, few_listed file.main)

pub few_graphs : (scale : Scale) (laid : LaidTree) (graphs : List Graph) → IsLaidFile laid
    → AreGraphs scale laid graphs → length graphs < 2 ^ 32
few_graphs scale laid graphs file are =
    let few : length laid.bodies ≤ 33 = few_bodies file.file laid (limits_kept file.scale file.file laid file.answered) in
    let count : length graphs ≡ length laid.bodies = are.count in
    omega (arith, few, count)
