-- Graphs of the bodies of a file that is typed and laid out.
use Rattle.std.proofs.Common.{◌≡◌, sym, subst, ℕ, ◌<◌, List, length, arith}
use Rattle.std.specs.Prelude.{◌↔◌}
use Rattle.cell_layout.specs.tm_laid.Layouts.{LaidTree}
use Rattle.lowering.specs.concrete_values.declared.actions.Next.{Next}
use Rattle.lowering.specs.concrete_values.declared.values.Answer.{Answer}
use Rattle.lowering.specs.concrete_steps.NextAction.{next}
use Rattle.lowering.specs.flow_graph.Graphs.{IsLive, IsPlain}
use Rattle.lowering.specs.flow_graph.Runs.{GraphNext}
use Rattle.lowering.specs.flow_graph.Positions.{RunsAlong}
use Rattle.lowering.proofs.low.flow_graph.Same.{same_next}
use Rattle.lowering.proofs.low.flow_graph.Positions.{runs_along}
use Rattle.lowering.specs.Built.{graph_of}
use Rattle.lowering.specs.Lowerable.{IsLowerable}
use Rattle.lowering.proofs.Bodies.{graph_is_next, graph_is_plain, nothing_live}
use Rattle.lowering_laws.specs.LaidFiles.{IsLaidFile}
use Rattle.lowering_laws.proofs.Lowered.{lowerable}

-- a file with a body has bodies
with_body : (laid : LaidTree) → IsLaidFile laid → (body : ℕ) → body < length laid.bodies → IsLowerable laid
with_body laid h body l = lowerable laid h (omega (arith, l))

pub run_as_next : (laid : LaidTree) → IsLaidFile laid → (body : ℕ) → body < length laid.bodies
    → (answers : List Answer) (n : Next) → GraphNext laid (graph_of laid body) answers n ↔ (n ≡ next laid body answers)
run_as_next laid h body l answers n =
    let run = graph_is_next laid (with_body laid h body l) body answers in (
      λ k. same_next laid (graph_of laid body) k run,
      λ e. subst (λ z. GraphNext laid (graph_of laid body) answers z) (sym e) run,
    )

pub run_along_next : (laid : LaidTree) → IsLaidFile laid → (body : ℕ) → body < length laid.bodies
    → RunsAlong laid (graph_of laid body) (next laid body)
run_along_next laid h body l =
    let is : IsLowerable laid = with_body laid h body l in
    runs_along laid (graph_of laid body) (graph_is_plain laid is body) (next laid body) (graph_is_next laid is body)

pub are_plain : (laid : LaidTree) → IsLaidFile laid → (body : ℕ) → body < length laid.bodies
    → IsPlain (graph_of laid body)
are_plain laid h body l = graph_is_plain laid (with_body laid h body l) body

pub none_live : (laid : LaidTree) → IsLaidFile laid → (body temp : ℕ) → body < length laid.bodies
    → IsLive (graph_of laid body) temp 0 → ⊥
none_live laid h body temp l = nothing_live laid (with_body laid h body l) body temp
