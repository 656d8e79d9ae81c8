-- The operation of an edge of a body stands in the graph of the body.
use Rattle.std.proofs.Common.{◌≡◌, ℕ, refl, ap, sym, ◌∙◌, List, [], ◌∷◌, length, get_or, arith}
use Rattle.std.specs.Prelude.{suc, zero, slice_get, Option, Some, None}
use Rattle.flow_graph.specs.declared.graphs.Graph.{Graph}
use Rattle.flow_graph.specs.declared.graphs.Edge.{Edge}
use Rattle.flow_graph.specs.declared.operations.Operation.TheVariants as Op
use Rattle.mutex_configs.specs.declared.nodes.ConfiguredGraph.{ConfiguredGraph}
use Rattle.mutex_configs.specs.declared.programs.Program.{Program}
use Rattle.post_recheck.specs.task_equations.Bodies.{no_edge, Body}
use Rattle.post_recheck.specs.body_systems.Facts.{Facts}
use Rattle.post_recheck.specs.program_systems.Analysable.{IsAnalysable}
use Rattle.post_recheck.specs.program_systems.ReadPrograms.{ReadProgram, bodies_from}
use Rattle.post_recheck.specs.program_systems.ProgramFacts.{AllFacts, AreProgramFacts, program_with, read_bodies}
use Rattle.post_recheck.specs.program_systems.ProgramFacts.{read_with}
use Rattle.alarm_contexts.specs.declared.alarm_context.ContextEdge.{ContextEdge}
use Rattle.program_notes.specs.Operations.{operation_along}
use Rattle.program_notes.specs.reading.Lookups.{or_skip, in_graph, in_graphs}

-- an edge in a list
along : (edges : List Edge) (k : ℕ) → or_skip (slice_get edges k) ≡ (let e = get_or edges k no_edge in e.op)
along [] zero = refl
along [] (suc k) = refl
along (e ∷ edges) zero = refl
along (e ∷ edges) (suc k) = along edges k

none_along : (k : ℕ) → (let e = get_or [] k no_edge in e.op) ≡ Op.Skip
none_along zero = refl
none_along (suc k) = refl

-- the edges of the body with a number are those of the graph with it
edge_in : (r : ReadProgram) (from : ℕ) (gs : List Graph) (cs : List ConfiguredGraph) (fs : List Facts) (none : Body)
    → none.edges ≡ [] → length cs ≡ length gs → length fs ≡ length gs → (t k : ℕ)
    → in_graph k (slice_get gs t)
    ≡ (let b = get_or (bodies_from r from (read_bodies gs cs fs)) t none in let e = get_or b.edges k no_edge in e.op)
edge_in r from [] cs fs none e c f zero k = sym (ap (λ es. (let o = get_or es k no_edge in o.op)) e ∙ none_along k)
edge_in r from [] cs fs none e c f (suc t) k = sym (ap (λ es. (let o = get_or es k no_edge in o.op)) e ∙ none_along k)
edge_in r from (g ∷ gs) [] fs none e c f t k = absurd (omega (arith, c))
edge_in r from (g ∷ gs) (x ∷ cs) [] none e c f t k = absurd (omega (arith, f))
edge_in r from (g ∷ gs) (x ∷ cs) (y ∷ fs) none e c f zero k = along g.edges.items k
edge_in r from (g ∷ gs) (x ∷ cs) (y ∷ fs) none e c f (suc t) k =
    edge_in r (suc from) gs cs fs none e (omega (arith, c)) (omega (arith, f)) t k

pub operation_found : (program : Program) (facts : AllFacts) → IsAnalysable program → AreProgramFacts program facts
    → (edge : Option ContextEdge)
    → in_graphs program.graphs.graphs.items edge ≡ operation_along (program_with program facts) edge
operation_found program facts a f None = refl
operation_found program facts a f (Some e) =
    edge_in (read_with program facts) 0 program.graphs.graphs.items program.configured.items facts.bodies _ refl a.count
    f.count e.body e.edge
