-- The equations of a body of a program.
use Rattle.std.specs.Prelude.{◌≡◌, ℕ, ◌<◌, length, map, get_or, Option, IfSome}
use Rattle.std.proofs.Common.{sym, subst, ◌∙◌, arith}
use Rattle.mutex_configs.specs.flow_graph.declared.graphs.Graph.{Graph}
use Rattle.mutex_configs.specs.declared.nodes.ConfiguredGraph.{ConfiguredGraph}
use Rattle.mutex_configs.specs.declared.programs.Program.{Program}
use Rattle.interfere_set.specs.Stores.{Interferences}
use Rattle.entry_states.specs.transfer_rows.StateForms.{State}
use Rattle.entry_states.specs.task_equations.Bodies.{Body, no_edge}
use Rattle.entry_states.specs.task_equations.Equations.{link_of}
use Rattle.entry_states.specs.task_equations.Premises.{IsBody}
use Rattle.entry_states.specs.program_equations.Programs.{ProgramBodies, body_at, IsTested}
use Rattle.entry_states.specs.program_equations.Systems.{FitsBody, FitsProgram}
use Rattle.entry_states.specs.body_systems.Facts.{Facts}
use Rattle.entry_states.specs.body_systems.Systems.{SystemOf, body_of, system_with, IsSystemOf}
use Rattle.program_systems.specs.Analysable.{IsAnalysable}
use Rattle.program_systems.specs.ProgramFacts.{AllFacts, program_with, AreProgramFacts}
use Rattle.program_systems.proofs.Bodies.{body_count, body_is, is_program}

module _ (program : Program) (facts : AllFacts) (analysable : IsAnalysable program)
    (are : AreProgramFacts program facts) (t : ℕ) (entry : Option State) (store : Interferences) where
  abbrev p : ProgramBodies
  p = program_with program facts

  abbrev system : Graph → ConfiguredGraph → Facts → SystemOf
  system g c f = system_with program.laid t facts.priorities program.marks g c f entry store

  module _ (g : Graph) (c : ConfiguredGraph) (f : Facts) (lt : t < length p.bodies)
      (g-is : (d : Graph) → get_or program.graphs.graphs.items t d ≡ g)
      (c-is : (d : ConfiguredGraph) → get_or program.configured.items t d ≡ c)
      (f-is : (d : Facts) → get_or facts.bodies t d ≡ f) where
    pub same_body : body_of (system g c f) ≡ body_at p t
    same_body =
        subst (λ x. body_of (system x c f) ≡ body_at p t) (g-is g)
        (subst (λ y. body_of (system (get_or program.graphs.graphs.items t g) y f) ≡ body_at p t) (c-is c)
        (subst (λ z. body_of (system (get_or program.graphs.graphs.items t g)
        (get_or program.configured.items t c) z) ≡ body_at p t) (f-is f)
        (sym (body_is program facts analysable are t g c f lt))))

    pub is_system : FitsProgram p store → IfSome entry (FitsBody (body_at p t) 0) → IsSystemOf (system g c f)
    is_system store-fits entry-fits =
        let is = is_program program facts analysable are in
        let at = is.each t lt in
        let e = are.each t g c f (subst (λ n. t < n) (body_count program facts analysable are ∙ sym are.count) lt) in
        record {
          sorts = is.sorts t;
          body = subst (λ b. IsBody b (is.sorts t)) (sym same_body) at.body;
          tests = λ k kt. subst (λ (b : Body). (k : ℕ) → k < length b.edges → (let e = get_or b.edges k no_edge in IsTested e.op))
              (sym same_body) at.tests k kt;
          tasks = p.tasks;
          store = store-fits;
          writers = omega (arith, is.priorities);
          task = omega (arith, is.priorities, is.section, lt);
          entry = subst (λ b. IfSome entry (FitsBody b 0)) (sym same_body) entry-fits;
          layable = analysable.layable;
          few = is.few_cells;
          links = subst (λ (y : ConfiguredGraph). f.links ≡ map link_of y.copies.items) (c-is c)
              (subst (λ (z : Facts). z.links ≡ map link_of (get_or program.configured.items t c).copies.items) (f-is f) e.links);
        }
