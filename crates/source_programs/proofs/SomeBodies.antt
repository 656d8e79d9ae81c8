-- There is a program of a layout, its graphs, their configured graphs and thresholds.
use Rattle.std.specs.Prelude.{◌≡◌, ℕ, ◌<◌, ℤ, List, [], ◌∷◌, length, get_or}
use Rattle.std.proofs.Common.{refl, subst, arith}
use Rattle.std.proofs.lemmas.List.{get_or_default}
use Rattle.tm_laid.specs.declared.scales.Scale.{Scale}
use Rattle.tm_laid.specs.Layouts.{LaidTree}
use Rattle.mutex_configs.specs.flow_graph.declared.graphs.Graph.{Graph}
use Rattle.mutex_configs.specs.declared.nodes.ConfiguredGraph.{ConfiguredGraph}
use Rattle.mutex_configs.specs.Programs.{AreConfigured}
use Rattle.program_laws.specs.task_equations.Bodies.{Body}
use Rattle.program_laws.specs.program_equations.Readings.{read_layout}
use Rattle.program_laws.specs.program_equations.Programs.{ProgramBodies, priorities_of, pointers_in, IsBodyIn}
use Rattle.program_laws.specs.program_equations.Programs.{IsProgramOf}
use Rattle.configured_laws.proofs.Choices.{for_each}
use Rattle.configured_laws.proofs.SomeFacts.{facts_of_graphs}
use Rattle.configured_laws.proofs.ConfiguredAlike.{as_many}

some_of : {A : Type 0} (as' : List A) → 0 < length as' → A
some_of [] lt = absurd (omega (arith, lt))
some_of (a ∷ as') lt = a

module _ (scale : Scale) (layout : LaidTree) (graphs : List Graph) (configured : List ConfiguredGraph)
    (are : AreConfigured scale graphs configured) (thresholds : List ℤ) where
  -- the body with this number
  record IsAt (t : ℕ) (b : Body) : Type 0 where
    laid : b.laid ≡ read_layout layout
    number : b.task ≡ t
    priorities : b.priorities ≡ priorities_of layout.file.tasks
    marks : b.marks ≡ thresholds
    body : (g : Graph) (c : ConfiguredGraph) → IsBodyIn layout (get_or graphs t g) (get_or configured t c) b

  body_for : (t : ℕ) → t < length graphs → (b : Body) × IsAt t b
  body_for t lt =
      let many = as_many scale graphs configured are in
      let within : t < length configured = omega (arith, lt, many) in
      let some : Graph = some_of graphs (omega (arith, lt)) in
      let other : ConfiguredGraph = some_of configured (omega (arith, within)) in
      let graph : Graph = get_or graphs t some in
      let nodes : ConfiguredGraph = get_or configured t other in
      let facts = facts_of_graphs layout graph.edges.items graph.nodes in
      let b : Body = record {
        laid = read_layout layout;
        task = t;
        priorities = priorities_of layout.file.tasks;
        edges = graph.edges.items;
        nodes = nodes.nodes.keys;
        copies = nodes.copies.items;
        marks = thresholds;
        live = facts.live;
        pointers = pointers_in graph.edges.items;
        heads = facts.heads;
        written = facts.written;
      } in
      let is : IsBodyIn layout graph nodes b = record {
        edges = refl;
        nodes = refl;
        copies = refl;
        live = facts.are_live;
        pointers = refl;
        heads = facts.are_heads;
        written = facts.are_written;
      } in (
        b,
        record {
          laid = refl;
          number = refl;
          priorities = refl;
          marks = refl;
          body = λ g c. subst (λ (h : Graph). IsBodyIn layout h (get_or configured t c) b)
              (get_or_default graphs t some g lt)
              (subst (λ (d : ConfiguredGraph). IsBodyIn layout graph d b) (get_or_default configured t other c within)
              is);
        },
      )

  pub some_bodies : (p : ProgramBodies) × IsProgramOf layout graphs configured thresholds p
  some_bodies =
      let r = for_each (length graphs) IsAt body_for in
      let bodies : List Body = r.0 in
      let count : length bodies ≡ length graphs = r.1 in
      let each : (t : ℕ) (d : Body) → t < length graphs → IsAt t (get_or bodies t d) = r.2 in (
        record {
          laid = read_layout layout;
          marks = thresholds;
          tasks = length layout.file.tasks;
          priorities = priorities_of layout.file.tasks;
          bodies = bodies;
        },
        record {
          laid = refl;
          marks = refl;
          tasks = refl;
          priorities = refl;
          count = count;
          numbered = λ t lt. (let is : IsAt t (get_or bodies t _) = each t _ (omega (arith, lt, count)) in record {
            laid = is.laid;
            number = is.number;
            priorities = is.priorities;
            marks = is.marks;
          });
          bodies = λ t g c lt. (let is : IsAt t (get_or bodies t _) = each t _ (omega (arith, lt, count)) in is.body g c);
        },
      )
