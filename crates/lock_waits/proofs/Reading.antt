-- What is read of the task with a number.
use Rattle.std.proofs.Common.{◌≡◌, ◌↔◌, ◌⊎◌, ℕ, ◌<◌, ◌^◌, ap, sym, subst, ◌∙◌, List, length}
use Rattle.std.proofs.Common.{get_or, Option, arith}
use Rattle.flow_graph.specs.declared.graphs.Edge.{Edge}
use Rattle.flow_graph.specs.declared.graphs.Graph.{Graph}
use Rattle.mutex_configs.specs.declared.nodes.ConfiguredNode.{ConfiguredNode}
use Rattle.mutex_configs.specs.declared.nodes.ConfiguredGraph.{ConfiguredGraph}
use Rattle.mutex_configs.specs.declared.nodes.EdgeCopy.{EdgeCopy}
use Rattle.mutex_configs.specs.declared.programs.Program.{Program}
use Rattle.request_circles.specs.declared.requests.Request.{Request}
use Rattle.program_reports.specs.post_recheck.transfer_rows.StateForms.{State}
use Rattle.program_reports.specs.post_recheck.program_equations.Programs.{ProgramBodies, body_at, IsProgram}
use Rattle.program_reports.specs.post_recheck.program_equations.Solutions.{table_at}
use Rattle.program_reports.specs.post_recheck.program_systems.Analysable.{IsAnalysable}
use Rattle.program_reports.specs.post_recheck.program_systems.ProgramFacts.{AllFacts, AreProgramFacts, program_with}
use Rattle.program_reports.proofs.low.program_systems.Bodies.{is_program, is_program_of, body_count}
use Rattle.lock_waits.specs.declared.copies.TaskParts.{TaskParts}
use Rattle.lock_waits.specs.Waits.{HaveTables}
use Rattle.lock_waits.specs.reading.Copies.{copy_in, AreInRange, IsAskedBelow}
use Rattle.lock_waits.specs.reading.Bodies.{IsAskedOf}
use Rattle.lock_waits.proofs.Asking.{asked_as}

module _ (program : Program) (analysable : IsAnalysable program) (t : ℕ)
    (lt : t < length program.laid.file.tasks.items) where
  pub in_graphs : t < length program.graphs.graphs.items
  in_graphs = let le = analysable.tasks in omega (arith, lt, le)

  pub in_configured : t < length program.configured.items
  in_configured = subst (λ n. t < n) (sym analysable.count) in_graphs

  pub number_small : t < 2 ^ 32
  number_small = let lt = in_graphs in let small = analysable.small in omega (arith, lt, small)

  module _ (facts : AllFacts) (are : AreProgramFacts program facts) where
    abbrev p : ProgramBodies
    p = program_with program facts

    in_bodies : t < length p.bodies
    in_bodies = subst (λ n. t < n) (sym (body_count program facts analysable are)) in_graphs

    -- the lists are those of its body
    module _ (g : Graph) (c : ConfiguredGraph) (g-is : g ≡ get_or program.graphs.graphs.items t g)
        (c-is : c ≡ get_or program.configured.items t c) where
      edges_are : (es : List Edge) → es ≡ g.edges.items → (let b = body_at p t in es ≡ b.edges)
      edges_are es e =
          let read = (is_program_of program facts analysable are).bodies t g c in_bodies in
          e ∙ ap (λ (x : Graph). x.edges.items) g-is ∙ sym read.edges

      nodes_are : (ns : List ConfiguredNode) → ns ≡ c.nodes.keys → (let b = body_at p t in ns ≡ b.nodes)
      nodes_are ns e =
          let read = (is_program_of program facts analysable are).bodies t g c in_bodies in
          e ∙ ap (λ (x : ConfiguredGraph). x.nodes.keys) c-is ∙ sym read.nodes

      copies_are : (cs : List EdgeCopy) → cs ≡ c.copies.items → (let b = body_at p t in cs ≡ b.copies)
      copies_are cs e =
          let read = (is_program_of program facts analysable are).bodies t g c in_bodies in
          e ∙ ap (λ (x : ConfiguredGraph). x.copies.items) c-is ∙ sym read.copies

      -- and so the requests that they tell
      pub asked_of : (lists : List (List (Option State))) {N O : Type 0} (r : Request) (es : List Edge)
          (ns : List ConfiguredNode) (cs : List EdgeCopy) (ts : List (Option State)) → es ≡ g.edges.items
          → ns ≡ c.nodes.keys → cs ≡ c.copies.items → ts ≡ table_at lists t
          → (N ↔ (O ⊎ IsAskedBelow t es ns cs ts (length cs) r)) → (N ↔ (O ⊎ IsAskedOf p lists t r))
      asked_of lists {N} {O} r es ns cs ts edges nodes copies table h =
          let b = body_at p t in
          asked_as t es b.edges ns b.nodes cs b.copies ts (table_at lists t) r (edges_are es edges)
          (nodes_are ns nodes) (copies_are cs copies) table h

module _ (program : Program) (analysable : IsAnalysable program) (t : ℕ)
    (lt : t < length program.laid.file.tasks.items) (lists : List (List (Option State)))
    (have : HaveTables program lists) where
  pub in_tables : t < length lists
  in_tables = subst (λ n. t < n) (sym have.count) (in_bodies program analysable t lt have.facts have.are)

  module _ (parts : TaskParts) (g : Graph) (c : ConfiguredGraph) (g-is : g ≡ get_or program.graphs.graphs.items t g)
      (c-is : c ≡ get_or program.configured.items t c) (edges : parts.edges.now ≡ g.edges.items)
      (nodes : parts.nodes.now ≡ c.nodes.keys) (copies : parts.copies.now ≡ c.copies.items)
      (table : parts.table.now ≡ table_at lists t) where
    pub in_range : AreInRange parts
    in_range =
        let b = body_at (program_with program have.facts) t in
        let is : IsProgram (program_with program have.facts) = is_program program have.facts analysable have.are in
        let there = in_bodies program analysable t lt have.facts have.are in
        let es = edges_are program analysable t lt have.facts have.are g c g-is c-is parts.edges.now edges in
        let ns = nodes_are program analysable t lt have.facts have.are g c g-is c-is parts.nodes.now nodes in
        let cs = copies_are program analysable t lt have.facts have.are g c g-is c-is parts.copies.now copies in
        let copy = λ (k : ℕ) (within : k < length parts.copies.now).
        (is.each t there).body.copies k (subst (λ (xs : List EdgeCopy). k < length xs) cs within) in
        record {
          edges = λ k within.
              subst (λ (xs : List Edge). let d = copy_in parts.copies.now k in d.edge < length xs) (sym es)
              (subst (λ (xs : List EdgeCopy). let d = copy_in xs k in d.edge < length b.edges) (sym cs)
              ((copy k within).edge));
          nodes = λ k within.
              subst (λ (xs : List ConfiguredNode). let d = copy_in parts.copies.now k in d.from < length xs) (sym ns)
              (subst (λ (xs : List EdgeCopy). let d = copy_in xs k in d.from < length b.nodes) (sym cs)
              ((copy k within).from));
          count = ap length table ∙ have.nodes t there ∙ ap length (sym ns);
        }
