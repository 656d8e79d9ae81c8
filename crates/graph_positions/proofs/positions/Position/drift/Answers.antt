use Rattle.std.proofs.Common.{◌<◌, ◌∙◌, ℕ, refl, sym, subst}
use Rattle.tm_laid.specs.Layouts.{laid_tree}
use Rattle.flow_graph.specs.Graphs.{Edges}
use Rattle.flow_graph.specs.Runs.{Memory}
use Rattle.flow_graph.specs.Positions.{here}
use Rattle.graph_positions.specs.declared.steps.Step.{Step}
use Rattle.graph_positions.specs.Memories.{memory_of}
use Rattle.graph_positions.specs.reading.Steps.{no_edge, edge_at, IsAlong}
use Rattle.graph_positions.proofs.Rounds.{way, way_falls}
use Rattle.graph_positions.proofs.Ends.{gone_on}
use Rattle.graph_positions.proofs.positions.Position.drift.Goals as goal

pub loop-step-init : goal.loop-step-init
loop-step-init c = record { position = c.requires.position; reaches = here; used = refl; at = c.step-step.ensures }

pub loop-step-preserved : goal.loop-step-preserved
loop-step-preserved c = record {
  position = c.go.ensures.position;
  reaches =
      gone_on (laid_tree c.args.laid.now) c.args.graph.now.edges.items c.args.self.now.node c.loop-step.self.node c.in-Goes.edge c.loop-step.self.used (memory_of c.args.self.now) (memory_of c.loop-step.self)
      (memory_of c.go.new.self) c.go.new.self.node c.in-Goes.value c.loop-step.step c.in-Goes.is c.loop-step.invariant.at refl c.go.ensures.node c.go.ensures.memory c.loop-step.invariant.reaches;
  used = c.go.ensures.used ∙ c.loop-step.invariant.used;
  at = c.step-step-in-Goes.ensures;
}

pub loop-step-smaller : goal.loop-step-smaller
loop-step-smaller c =
    let g : Edges = c.args.graph.now.edges.items in
    let nodes : ℕ = c.args.graph.now.nodes in
    let p = c.loop-step.self in
    let k : ℕ = c.in-Goes.edge in
    let m : Memory = memory_of p in
    let along = subst (λ (s : Step). IsAlong g p.node m s) c.in-Goes.is c.loop-step.invariant.at.along in
    let Q : ℕ → Type 0 = λ u. way nodes u c.go.new.self.node c.go.new.self.seen.items < way nodes p.used p.node p.seen.items in
    subst Q (sym c.go.ensures.used)
    (way_falls nodes p.used p.node c.go.new.self.node p.seen.items c.go.new.self.seen.items (edge_at g k) m refl refl along.0.from c.go.ensures.node c.loop-step.invariant.position.here
    (c.requires.graph.range k no_edge along.0.within).1 c.loop-step.invariant.position.seen c.go.ensures.seen along.1)
