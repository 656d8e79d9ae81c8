use Rattle.std.proofs.Common.{◌≡◌, ℕ, ◌+◌, ◌<◌, length, map, get_or, Option, Some, None, refl, sym, ap, subst, ◌∙◌, arith}
use Rattle.std.proofs.lemmas.List.{length-map, length-append}
use Rattle.tm_typed.specs.Files.{TypedFileTree}
use Rattle.tm_laid.specs.Layouts.{LaidTree, laid_tree, layout_of}
use Rattle.tm_laid.specs.Paths.{listed}
use Rattle.layout_laws.proofs.Kept.{limits_kept}
use Rattle.flow_graph.specs.declared.graphs.Graph.{Graph}
use Rattle.flow_graph.specs.Graphs.{Edges}
use Rattle.flow_graph.specs.Runs.{GraphNext}
use Rattle.graph_facts.specs.Edges.{AreInRange}
use Rattle.lowering_laws.specs.lowering.Built.{graph_of}
use Rattle.concrete_worlds.specs.Lawful.{section_count, task_count}
use Rattle.program_worlds.proofs.programs.programs_have_graphs.Goals as goal

section_listed : (main : Option ℕ) → length (listed main) ≡ section_count main
section_listed None = refl
section_listed (Some f) = refl

bodies_kept : (laid : LaidTree) (file : TypedFileTree) → laid ≡ layout_of file → length laid.bodies ≡ length laid.file.tasks + section_count laid.file.main
unfolding layout_of
bodies_kept laid file e =
    let P : LaidTree → Type 0 = λ l. length l.bodies ≡ length l.file.tasks + section_count l.file.main in
    subst P (sym e)
    (length-append (map (λ t. t.function) file.tasks) (listed file.main)
    ∙ ap (λ n. n + length (listed file.main)) (length-map file.tasks (λ t. t.function))
    ∙ ap (λ n. length file.tasks + n) (section_listed file.main))

pub returns : goal.returns
returns c = λ scale laid graphs source are.
    let tree : LaidTree = laid_tree laid in
    let bodies : length tree.bodies ≡ task_count laid = bodies_kept tree source.file (limits_kept source.scale source.file tree source.answered).whole in
    record {
      count = let n = are.count in omega (arith, n, bodies);
      each = λ task other lt.
          let g : Graph = get_or graphs task other in
          let is = are.each task other lt in
          let within : task < length tree.bodies = (let n = are.count in omega (arith, n, lt)) in
          let can = c.graphs_can_be_configured.ensures tree source task g is.edges is.nodes in
          record {
            is_graph = record {
              entry = can.entry;
              range = subst (λ (es : Edges). AreInRange es g.nodes) (sym is.edges)
                  (subst (λ (n : ℕ). AreInRange (graph_of tree task) n) (sym is.nodes) (c.edges_join_nodes.ensures tree task));
            };
            follows = λ answers n run. (c.graphs_run_as_next.ensures tree source task within answers n).0
                (subst (λ (es : Edges). GraphNext tree es answers n) is.edges run);
          };
    }
